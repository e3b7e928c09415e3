use Rattle.command_sources.proofs.OneTable.{sure_tables}
use Rattle.command_sources.proofs.OneUnit.{sure_units}
use Rattle.command_sources.proofs.laws.one_source.Goals as goal

pub returns-clause-tables : goal.returns-clause-tables
returns-clause-tables c = sure_tables c.one_header.ensures.one

pub returns-clause-units : goal.returns-clause-units
returns-clause-units c = sure_units c.one_unit.ensures.one c.one_tree.ensures.one c.one_refusal.ensures.one c.one_refusal.ensures.none
