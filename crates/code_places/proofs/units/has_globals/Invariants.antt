use Rattle.std.proofs.Common.{◌≡◌, ◌||◌, drop}
use Rattle.typing_rules.specs.UnitReading.{typed_items}
use Rattle.emission_rules.specs.Units as code
use Rattle.code_places.proofs.units.has_globals.Given as goal

abbrev pub invariant-loop-item : goal.invariant-loop-item
invariant-loop-item l = l.any || code.has_globals (typed_items (drop l.item-index l.items)) ≡ code.has_globals (typed_items l.items)
