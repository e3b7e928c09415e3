-- What stands so many cells down from the top of a stack.
use Rattle.std.specs.Prelude.{◌≡◌, ◌≢◌, ℕ, ℤ, List, ◌∷◌, Option, None, Some, drop, slice_get, slice_set, Bool, true, false, not, ◌==◌, if◌then◌else◌}
use Rattle.std.specs.Option.{option_and_then}
use Rattle.nwq_value.specs.declared.value.Value.{Value}
use Rattle.nwq_value.specs.declared.value.Value.TheVariants.{Int, Text}
use Rattle.nwq_value.specs.Operators.{opposite}
use Rattle.saved_state.specs.declared.cell.Cell.{Cell}
use Rattle.saved_state.specs.declared.cell.Cell.TheVariants.{Value as Holds, Base}
use Rattle.stack_shape.specs.declared.range.CellRange.{CellRange}
use Rattle.machine_rules.specs.Cells.{of_int, on_int, values_at, values_on}

pub record HasValue (depth : ℕ) (cells : List Cell) : Type 0 where
  pub value : Value
  pub is : slice_get cells depth ≡ Some (Holds value)

pub record HasInt (depth : ℕ) (cells : List Cell) : Type 0 where
  pub int : ℤ
  pub is : slice_get cells depth ≡ Some (Holds (Int int))

pub record HasText (depth : ℕ) (cells : List Cell) : Type 0 where
  pub text : List ℕ
  pub is : slice_get cells depth ≡ Some (Holds (Text text))

-- so many values, and no base, stand on top
abbrev pub AreValues : ℕ → List Cell → Type 0
AreValues count cells = values_on count cells ≢ None

-- the values that a range reaches
abbrev pub reached : Option CellRange → List Cell → Option (List Value)
reached range cells = option_and_then (λ r. values_at r cells) range

-- NEG, which is of ints alone
abbrev pub negated : ℕ → List Cell → Option (List Cell)
negated kind cells = if kind == 0x03 then of_int opposite cells else None

-- whether two runs that are equal, or those that aren't, give 1
abbrev pub answer_of : Bool → Bool → Bool
answer_of true = not
answer_of false = λ b. b

-- the int so far down changes where it stands
abbrev pub int_at : (ℤ → ℤ) → ℕ → List Cell → Option (List Cell)
int_at f depth cells = on_int (drop depth cells)
    (λ n rest. Some (slice_set cells depth (Holds (Int (f n)))))

-- the int that a cell holds
abbrev pub int_in : Cell → Option ℤ
int_in (Holds (Int n)) = Some n
int_in _ = None

-- the BP that a base cell on top keeps
abbrev pub bp_on_top : List Cell → Option ℕ
bp_on_top (Base bp ∷ cells) = Some bp
bp_on_top _ = None
