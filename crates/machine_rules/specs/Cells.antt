-- Reading and writing cells. Lists of cells are seen top first.
use Rattle.std.specs.Prelude.{ℕ, zero, suc, ℤ, ◌+◌, ◌-◌, List, [], ◌∷◌, ◌++◌, length, map, take, drop, nat_le, Option, None, Some, Bool, false, if◌then◌else◌}
use Rattle.std.specs.Option.{option_map, option_and_then}
use Rattle.nwq_value.specs.declared.value.Ty.{Ty}
use Rattle.nwq_value.specs.declared.value.Value.{Value}
use Rattle.nwq_value.specs.declared.value.Value.TheVariants.{Int, Text}
use Rattle.nwq_value.specs.Values.{type_of}
use Rattle.nwq_value.specs.Roles.{tys_eq}
use Rattle.nwq_value.specs.Operators.{as_int, is_zero, values_eq}
use Rattle.saved_state.specs.declared.cell.Cell.{Cell}
use Rattle.saved_state.specs.declared.cell.Cell.TheVariants.{Value as Holds, Base}
use Rattle.saved_state.specs.Cells.{StackView}
use Rattle.stack_shape.specs.declared.range.CellRange.{CellRange}
use Rattle.stack_shape.specs.Ranges.{cell_count}

-- ---- values

-- The values of so many cells from the top, the top one first: none where the cells end before, or
-- one is a base.
abbrev pub values_on : ℕ → List Cell → Option (List Value)
values_on zero cells = Some []
values_on (suc n) [] = None
values_on (suc n) (Base bp ∷ cells) = None
values_on (suc n) (Holds v ∷ cells) = option_map (λ vs. v ∷ vs) (values_on n cells)

-- the values of the cells of a range
abbrev pub values_at : CellRange → List Cell → Option (List Value)
values_at r cells = values_on r.count (drop r.above cells)

abbrev pub value_types : List Value → List Ty
value_types vs = map type_of vs

-- cells with these values on top, the first one topmost
abbrev pub with_values : List Value → List Cell → List Cell
with_values vs cells = map Holds vs ++ cells

-- the cells with these values in place of those that begin so many cells down
abbrev pub overwritten : ℕ → List Value → List Cell → List Cell
overwritten above vs cells = take above cells ++ with_values vs (drop (above + length vs) cells)

-- a range whose depth counts from BP, where BP is no higher than the top
abbrev pub from_bp : StackView → CellRange → Option CellRange
from_bp s r = if nat_le s.bp (length s.cells) then Some
    (record r { above = (length s.cells - s.bp) + r.above }) else None

-- ---- pops

-- the int on top, and the cells beneath it
abbrev pub on_int : {A : Type 0} → List Cell → (ℤ → List Cell → Option A) → Option A
on_int (Holds (Int n) ∷ cells) go = go n cells
on_int _ go = None

abbrev pub on_text : {A : Type 0} → List Cell → (List ℕ → List Cell → Option A) → Option A
on_text (Holds (Text bytes) ∷ cells) go = go bytes cells
on_text _ go = None

-- one int to one int
abbrev pub of_int : (ℤ → ℤ) → List Cell → Option (List Cell)
of_int f cells = on_int cells (λ x rest. Some (Holds (Int (f x)) ∷ rest))

-- two ints to one int: the second operand is on top
abbrev pub of_ints : (ℤ → ℤ → ℤ) → List Cell → Option (List Cell)
of_ints f cells = on_int cells
    (λ y rest. on_int rest (λ x below. Some (Holds (Int (f x y)) ∷ below)))

abbrev pub of_texts : (List ℕ → List ℕ → List ℕ) → List Cell → Option (List Cell)
of_texts f cells = on_text cells
    (λ b rest. on_text rest (λ a below. Some (Holds (Text (f a b)) ∷ below)))

-- whether an int that is 0 is on top
abbrev pub zero_on_top : List Cell → Bool
zero_on_top (Holds (Int n) ∷ cells) = is_zero n
zero_on_top _ = false

-- ---- copies, writes and removals

-- a value is pushed, where there is one
abbrev pub value_pushed : Option Value → List Cell → Option (List Cell)
value_pushed value cells = option_map (λ v. Holds v ∷ cells) value

-- the values of a range are pushed
abbrev pub range_pushed : Option CellRange → List Cell → Option (List Cell)
range_pushed range cells = option_and_then
    (λ r. option_map (λ vs. with_values vs cells) (values_at r cells)) range

-- these values are written onto a range whose values have equal types
abbrev pub values_written : CellRange → List Value → List Value → List Cell → Option (List Cell)
values_written r new old cells = if tys_eq (value_types new) (value_types old) then Some
    (overwritten r.above new cells) else None

-- the top values are written onto the cells of a range
abbrev pub range_written : Option CellRange → List Cell → Option (List Cell)
range_written range cells =
    option_and_then (λ r. option_and_then
    (λ new. option_and_then (λ old. values_written r new old cells) (values_at r cells))
    (values_on r.count cells)) range

-- the one int of these values is changed where it stands
abbrev pub int_written : (ℤ → ℤ) → ℕ → List Value → List Cell → Option (List Cell)
int_written f above (Int n ∷ []) cells = Some (overwritten above (Int (f n) ∷ []) cells)
int_written f above _ cells = None

-- the int at a range changes
abbrev pub int_changed : (ℤ → ℤ) → Option CellRange → List Cell → Option (List Cell)
int_changed f range cells = option_and_then
    (λ r. option_and_then (λ old. int_written f r.above old cells) (values_at r cells)) range

-- so many values are popped
abbrev pub values_dropped : Option ℕ → List Cell → Option (List Cell)
values_dropped count cells = option_and_then
    (λ n. option_map (λ _. drop n cells) (values_on n cells)) count

-- Of the top values those are kept that begin so many cells above the lowest of them.
abbrev pub values_kept : ℕ → ℕ → ℕ → List Cell → Option (List Cell)
values_kept total offset count cells =
    if nat_le (offset + count) total
    then option_map (λ vs. with_values (take count (drop (total - (offset + count)) vs))
    (drop total cells)) (values_on total cells)
    else None

-- DESTRUCT, whose three numbers are of bytes
abbrev pub range_kept : ℕ → ℕ → ℕ → List Cell → Option (List Cell)
range_kept total offset size cells =
    option_and_then (λ t. option_and_then
    (λ o. option_and_then (λ n. values_kept t o n cells) (cell_count size)) (cell_count offset))
    (cell_count total)

-- ---- comparisons

-- the answer to whether two runs of values with equal types are equal
abbrev pub runs_eq : (Bool → Bool) → List Value → List Value → List Cell → Option (List Cell)
runs_eq answer upper lower rest =
    if tys_eq (value_types upper) (value_types lower) then Some
    (Holds (Int (as_int (answer (values_eq upper lower)))) ∷ rest) else None

-- two runs of so many cells are compared
abbrev pub runs_compared : (Bool → Bool) → Option ℕ → List Cell → Option (List Cell)
runs_compared answer count cells =
    option_and_then (λ n. option_and_then
    (λ upper. option_and_then (λ lower. runs_eq answer upper lower (drop (n + n) cells))
    (values_on n (drop n cells))) (values_on n cells)) count

-- two values of this type are compared
abbrev pub pair_eq : (Bool → Bool) → Ty → List Value → List Cell → Option (List Cell)
pair_eq answer type vs rest = if tys_eq (value_types vs) (type ∷ type ∷ []) then runs_eq answer
    (take 1 vs) (drop 1 vs) rest else None

abbrev pub pair_compared : (Bool → Bool) → Option Ty → List Cell → Option (List Cell)
pair_compared answer type cells = option_and_then
    (λ t. option_and_then (λ vs. pair_eq answer t vs (drop 2 cells)) (values_on 2 cells)) type
