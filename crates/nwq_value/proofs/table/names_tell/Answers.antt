use Rattle.nwq_value.proofs.NameLemmas.{number_is_of_name, no_number_no_name, constant_is_of_name, no_constant_no_name}
use Rattle.nwq_value.proofs.table.names_tell.Goals as goal

pub returns-clause-number : goal.returns-clause-number
returns-clause-number c = number_is_of_name

pub returns-clause-no_number : goal.returns-clause-no_number
returns-clause-no_number c = no_number_no_name

pub returns-clause-constant : goal.returns-clause-constant
returns-clause-constant c = constant_is_of_name

pub returns-clause-no_constant : goal.returns-clause-no_constant
returns-clause-no_constant c = no_constant_no_name
