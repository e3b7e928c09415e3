use Rattle.reason_laws.proofs.Whole.{each_fault_has_its_reason}
use Rattle.reason_laws.proofs.laws.faults_have_reasons.Goals as goal

pub returns : goal.returns
returns c = record { reason = each_fault_has_its_reason c.verdicts_are_right.ensures.listed }
