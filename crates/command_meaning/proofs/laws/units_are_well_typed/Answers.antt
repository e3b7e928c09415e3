use Rattle.command_meaning.proofs.Passing.{units_are_well_typed}
use Rattle.command_meaning.proofs.laws.units_are_well_typed.Goals as goal

pub returns : goal.returns
returns c = record { typed = units_are_well_typed c.typed_units_are_well_typed.ensures.typed }
