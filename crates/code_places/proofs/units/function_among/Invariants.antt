use Rattle.std.proofs.Common.{◌≡◌, Some, drop}
use Rattle.typing_rules.specs.UnitReading.{typed_items}
use Rattle.code_places.specs.Functions.{function_among}
use Rattle.code_places.proofs.units.function_among.Given as goal

abbrev pub invariant-loop-i : goal.invariant-loop-i
invariant-loop-i l = function_among l.layout l.node l.i (typed_items (drop l.i l.items)) l.seek
    ≡ function_among l.layout (Some 0) 0 (typed_items l.items) l.initial.seek
