use Rattle.std.proofs.Common.{◌≡◌, drop, []}
use Rattle.typing_rules.specs.UnitReading.{typed_items}
use Rattle.typing_rules.specs.Cells.{structs_from}
use Rattle.nss_layout.proofs.structs.structs_of.Given as goal

abbrev pub invariant-loop-item : goal.invariant-loop-item
invariant-loop-item l = structs_from l.structs.items (typed_items (drop l.item-index l.items)) ≡ structs_from [] (typed_items l.items)
