use Rattle.machine_rules.proofs.ValueLemmas.{equality_is_tested}
use Rattle.machine_rules.proofs.laws.equality_is_tested.Goals as goal

pub returns : goal.returns
returns c = record { tested = equality_is_tested }
