use Rattle.ncs_code.proofs.Rows.{state_row}
use Rattle.ncs_code.proofs.decoder.op_of.Goals as goal

pub returns-in-44-clause-spelled : goal.returns-in-44-clause-spelled
returns-in-44-clause-spelled c = state_row _ _ _ _ c.in-44.is c.requires.type_byte c.state_at-globals.ensures
