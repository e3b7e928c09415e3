use Rattle.std.proofs.Common.{◌≡◌, drop}
use Rattle.typing_rules.specs.UnitReading.{typed_items}
use Rattle.emission_rules.specs.Units as units
use Rattle.codegen_unit.proofs.units.has_globals.Given as goal

abbrev pub invariant-loop-item : goal.invariant-loop-item
invariant-loop-item l = units.has_globals (typed_items (drop l.item-index l.items)) ≡ units.has_globals (typed_items l.items)
