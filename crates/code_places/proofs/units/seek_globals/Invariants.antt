use Rattle.std.proofs.Common.{◌≡◌, Some, drop}
use Rattle.typing_rules.specs.UnitReading.{typed_items}
use Rattle.code_places.specs.Marks as marks
use Rattle.code_places.specs.Seeking.{sought}
use Rattle.code_places.proofs.units.seek_globals.Given as goal

abbrev pub invariant-loop-item : goal.invariant-loop-item
invariant-loop-item l = sought (marks.globals_marks l.layout l.node (typed_items (drop l.item-index l.items))) l.seek
    ≡ sought (marks.globals_marks l.layout (Some 0) (typed_items l.items)) l.initial.seek
