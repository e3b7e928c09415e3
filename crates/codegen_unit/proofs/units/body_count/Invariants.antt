use Rattle.std.proofs.Common.{◌≡◌, ◌+◌, drop}
use Rattle.typing_rules.specs.UnitReading.{typed_items}
use Rattle.emission_rules.specs.Units as units
use Rattle.codegen_unit.proofs.units.body_count.Given as goal

abbrev pub invariant-loop-item : goal.invariant-loop-item
invariant-loop-item l = l.count + units.body_count (typed_items (drop l.item-index l.items)) ≡ units.body_count (typed_items l.items)
