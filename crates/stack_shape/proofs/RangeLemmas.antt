-- Numbers of bytes that are whole cells.
use Rattle.std.proofs.Common.{arith, ◌≡◌, ◌≤◌, ◌<◌, ◌+◌, ◌-◌, ◌*◌, ◌/◌, ◌%◌, ℕ, zero, suc, Option, Some, None, ◌∙◌, ap, refl}
use Rattle.std.proofs.lemmas.Bool.Decides.{nat_tests}
use Rattle.std.specs.Prelude.{ℤ, pos, negsuc, neg_ℤ}
use Rattle.std.specs.Option.{option_and_then}
use Rattle.stack_shape.specs.declared.range.CellRange.{CellRange}
use Rattle.stack_shape.specs.Ranges.{cell_count, depth_of, range_of, range_at}
use Rattle.stack_shape.specs.Laws.{offset_to, CellsOfBytes, DepthOfOffset, RangeOfNumbers, NumbersOfRange}

if_cells : (m : ℕ) → m % 4 ≡ 0 → cell_count m ≡ Some (m / 4)
unfolding cell_count
if_cells m h = rw h

pub cells_of_bytes : CellsOfBytes
cells_of_bytes n = if_cells (4 * n) (omega arith) ∙ ap Some (omega arith)

down : (m : ℕ) → depth_of (neg_ℤ (pos m)) ≡ cell_count m
unfolding depth_of
down zero = refl
down (suc k) = refl

pub depth_of_offset : DepthOfOffset
depth_of_offset depth = down (4 * depth) ∙ cells_of_bytes depth

inside : (depth count : ℕ) → 0 < count → count ≤ depth → range_of depth count ≡ Some (record { above = depth - count; count = count })
unfolding range_of
inside depth count h k = grind (arith, nat_tests)

pub range_of_numbers : RangeOfNumbers
unfolding range_at
range_of_numbers depth count h k = rw (depth_of_offset depth, cells_of_bytes count) (inside depth count h k)

-- ---- nothing else is a range

whole : (m n : ℕ) → cell_count m ≡ Some n → m ≡ 4 * n
unfolding cell_count
whole m n h = grind (arith, nat_tests)

within : (depth count : ℕ) (r : CellRange) → range_of depth count ≡ Some r → (depth ≡ r.above + r.count) × (count ≡ r.count) × (0 < r.count)
unfolding range_of
within depth count r h = grind (arith, nat_tests)

above_end : (n : ℕ) → depth_of (pos (suc n)) ≡ None
unfolding depth_of
above_end n = grind (arith, nat_tests)

offset_is : (offset : ℤ) (depth : ℕ) → depth_of offset ≡ Some depth → offset ≡ offset_to depth
unfolding depth_of
offset_is (pos zero) depth h = ap (λ m. neg_ℤ (pos m)) (whole 0 depth h)
offset_is (pos (suc n)) depth h = absurd (cc (above_end n))
offset_is (negsuc k) depth h = ap (λ m. neg_ℤ (pos m)) (whole (suc k) depth h)

numbers_from : (offset : ℤ) (size : ℕ) (r : CellRange) (d c : Option ℕ) → depth_of offset ≡ d → cell_count size ≡ c
    → option_and_then (λ depth. option_and_then (range_of depth) c) d ≡ Some r
    → (offset ≡ offset_to (r.above + r.count)) × (size ≡ 4 * r.count) × (0 < r.count)
numbers_from offset size r None c p q h = absurd cc
numbers_from offset size r (Some depth) None p q h = absurd cc
numbers_from offset size r (Some depth) (Some count) p q h =
    let w = within depth count r h in
    (offset_is offset depth p ∙ ap offset_to w.0, whole size count q ∙ ap (λ n. 4 * n) w.1, w.2)

pub numbers_of_range : NumbersOfRange
unfolding range_at
numbers_of_range offset size r h = numbers_from offset size r (depth_of offset) (cell_count size) refl refl h
