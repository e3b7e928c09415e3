use Rattle.unit_laws.proofs.WellTyped.{typed_units_are_well_typed}
use Rattle.unit_laws.proofs.typed_units_are_well_typed.Goals as goal

pub returns : goal.returns
returns c = record {
  typed = typed_units_are_well_typed c.functions_are_placed.ensures.placed c.globals_are_fine.ensures.fine c.entries_are_plain.ensures.plain
      c.typed_units_fit.ensures.switches c.typed_units_fit.ensures.values;
}
