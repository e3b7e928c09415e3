-- The one cell at an offset.
use Rattle.std.proofs.Common.{◌≡◌, ◌<◌, ◌+◌, ℕ, Option, Some, arith, ap, ◌∙◌}
use Rattle.std.specs.Prelude.{ℤ, ◌*◌, ◌^◌}
use Rattle.stack_shape.specs.declared.range.CellRange.{CellRange}
use Rattle.stack_shape.specs.Ranges.{range_at}
use Rattle.stack_shape.specs.Laws.{NumbersOfRange, offset_to}

one_only : NumbersOfRange → (offset : ℤ) (r : CellRange) → range_at offset 4 ≡ Some r → r.count ≡ 1
one_only law offset r is = let size = (law offset 4 r is).1 in omega (arith, size)

pub above_is : NumbersOfRange → (offset : ℤ) (r : CellRange) → range_at offset 4 ≡ Some r → offset ≡ offset_to (r.above + 1)
above_is law offset r is = (law offset 4 r is).0 ∙ ap (λ (n : ℕ). offset_to (r.above + n)) (one_only law offset r is)

pub above_less : NumbersOfRange → (offset : ℤ) (r : CellRange) → range_at offset 4 ≡ Some r → r.above + r.count < 2 ^ 32 → r.above + 1 < 2 ^ 32
above_less law offset r is less = let one = one_only law offset r is in omega (arith, less, one)

pub ruleset offset_lemmas = (above_is, above_less)
