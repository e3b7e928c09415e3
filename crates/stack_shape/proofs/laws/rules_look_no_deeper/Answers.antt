use Rattle.stack_shape.proofs.ReachLemmas.{rule_looks_no_deeper, rule_reaches}
use Rattle.stack_shape.proofs.laws.rules_look_no_deeper.Goals as goal

pub returns-clause-there : goal.returns-clause-there
returns-clause-there c = rule_reaches

pub returns-clause-deep : goal.returns-clause-deep
returns-clause-deep c = rule_looks_no_deeper
