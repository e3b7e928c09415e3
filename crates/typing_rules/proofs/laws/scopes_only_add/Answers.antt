use Rattle.typing_rules.proofs.Adding.{statements_only_add, parameters_only_add, names_stand_first}
use Rattle.typing_rules.proofs.laws.scopes_only_add.Goals as goal

pub returns-clause-statements : goal.returns-clause-statements
returns-clause-statements c = statements_only_add

pub returns-clause-parameters : goal.returns-clause-parameters
returns-clause-parameters c = parameters_only_add

pub returns-clause-first : goal.returns-clause-first
returns-clause-first c = names_stand_first
