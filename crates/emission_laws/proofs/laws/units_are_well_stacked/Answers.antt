use Rattle.emission_laws.proofs.Units.{units_are_well_stacked}
use Rattle.emission_laws.proofs.laws.units_are_well_stacked.Goals as goal

pub returns : goal.returns
returns c = record { stacked = units_are_well_stacked c.size_laws.ensures.sizes.some c.each_placed_once.ensures.once c.code_stands.ensures.stands }
