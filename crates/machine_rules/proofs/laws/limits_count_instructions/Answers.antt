use Rattle.machine_rules.proofs.RunLemmas.{counts_instructions, runs_go_on}
use Rattle.machine_rules.proofs.laws.limits_count_instructions.Goals as goal

pub returns-clause-counts : goal.returns-clause-counts
returns-clause-counts g c = counts_instructions

pub returns-clause-goes_on : goal.returns-clause-goes_on
returns-clause-goes_on g c = runs_go_on
