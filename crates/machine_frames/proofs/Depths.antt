-- What the cells so far down hold.
use Rattle.std.proofs.Common.{◌≡◌, ◌≢◌, ◌<◌, ℕ, List, length, Some}
use Rattle.std.specs.Prelude.{ℤ, slice_get}
use Rattle.std.proofs.lemmas.Option.{slice_get_within}
use Rattle.nwq_value.specs.declared.value.Value.{Value}
use Rattle.nwq_value.specs.declared.value.Value.TheVariants.{Int, Text}
use Rattle.saved_state.specs.declared.cell.Cell.{Cell}
use Rattle.saved_state.specs.declared.cell.Cell.TheVariants.{Value as Holds, Base}
use Rattle.machine_frames.specs.Tops.{HasValue, HasInt, HasText}

pub value_lies : (cells : List Cell) (depth : ℕ) → HasValue depth cells → depth < length cells
value_lies cells depth h = slice_get_within cells depth (Holds h.value) h.is

-- what lies there is a value
pub value_held : (cells : List Cell) (depth bp : ℕ) → HasValue depth cells → slice_get cells depth ≢ Some (Base bp)
value_held cells depth bp h e = let v = h.is in absurd cc

pub int_is_value : (cells : List Cell) (depth : ℕ) → HasInt depth cells → HasValue depth cells
int_is_value cells depth h = record { value = Int h.int; is = h.is }

pub int_held : (cells : List Cell) (depth : ℕ) (v : Value) → HasInt depth cells → slice_get cells depth ≡ Some (Holds v) → (n : ℤ) × (v ≡ Int n)
int_held cells depth v h e = (h.int, let i = h.is in cc)

pub text_is_value : (cells : List Cell) (depth : ℕ) → HasText depth cells → HasValue depth cells
text_is_value cells depth h = record { value = Text h.text; is = h.is }

pub text_held : (cells : List Cell) (depth : ℕ) (v : Value) → HasText depth cells → slice_get cells depth ≡ Some (Holds v) → (t : List ℕ) × (v ≡ Text t)
text_held cells depth v h e = (h.text, let i = h.is in cc)
