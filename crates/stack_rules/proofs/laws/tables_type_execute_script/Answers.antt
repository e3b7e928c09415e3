use Rattle.stack_rules.proofs.HeaderLemmas.{tables_type_execute_script}
use Rattle.stack_rules.proofs.laws.tables_type_execute_script.Goals as goal

pub returns : goal.returns
returns c = record { typed = tables_type_execute_script c.roles_tell.ensures.built }
