use Rattle.unit_laws.proofs.Passing.{typed_units_pass}
use Rattle.unit_laws.proofs.typed_units_pass.Goals as goal

pub returns : goal.returns
returns c = record {
  pass = typed_units_pass c.typed_units_are_well_typed.ensures.typed c.units_are_well_stacked.ensures.stacked c.file_is_code.ensures.code c.size_laws.ensures.sizes;
}
