use Rattle.command_tables.proofs.OneSet.{sure_tables}
use Rattle.command_tables.proofs.laws.one_set_of_tables.Goals as goal

pub returns : goal.returns
returns c = record { tables = sure_tables c.one_table.ensures.one }
