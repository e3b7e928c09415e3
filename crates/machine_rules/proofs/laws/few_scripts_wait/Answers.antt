use Rattle.machine_rules.proofs.RunLemmas.{few_wait}
use Rattle.machine_rules.proofs.laws.few_scripts_wait.Goals as goal

pub returns : goal.returns
returns g c = record { few = few_wait }
