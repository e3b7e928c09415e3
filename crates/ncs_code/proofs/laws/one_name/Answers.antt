use Rattle.ncs_code.proofs.Naming.{has_opcode, one_name}
use Rattle.ncs_code.proofs.laws.one_name.Goals as goal

pub returns-clause-code : goal.returns-clause-code
returns-clause-code c = has_opcode

pub returns-clause-one : goal.returns-clause-one
returns-clause-one c = one_name
