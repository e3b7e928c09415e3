use Rattle.std.proofs.Common.{◌≡◌, ◌+◌, ◌++◌, drop}
use Rattle.typing_rules.specs.UnitReading.{typed_items}
use Rattle.emission_rules.specs.Layout as laid
use Rattle.nss_layout.proofs.frames.items_positions.Given as goal

abbrev pub invariant-loop-item : goal.invariant-loop-item
invariant-loop-item l =
    (l.positions ++ laid.items_positions l.structs l.globals (typed_items (drop l.item-index l.items)) ≡ l.initial.positions ++ laid.items_positions l.structs 0 (typed_items l.items))
    × (l.globals + laid.global_cells l.structs (typed_items (drop l.item-index l.items)) ≡ laid.global_cells l.structs (typed_items l.items))
