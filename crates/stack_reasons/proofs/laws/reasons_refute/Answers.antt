use Rattle.stack_reasons.proofs.Refuting.{reason_refutes}
use Rattle.stack_reasons.proofs.laws.reasons_refute.Goals as goal

pub returns : goal.returns
returns c = record { refute = reason_refutes c.rules_look_from_the_top.ensures.rules c.rules_look_from_the_top.ensures.stores }
