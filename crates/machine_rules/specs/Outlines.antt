-- What the rules of shapes see of cells.
use Rattle.std.specs.Prelude.{ℕ, List, map, drop, ◌++◌}
use Rattle.nwq_value.specs.declared.value.Ty.{Ty}
use Rattle.nwq_value.specs.Values.{type_of}
use Rattle.saved_state.specs.declared.cell.Cell.{Cell}
use Rattle.saved_state.specs.declared.cell.Cell.TheVariants.{Value as Holds, Base}
use Rattle.saved_state.specs.Cells.{StackView, cells_beneath}
use Rattle.stack_shape.specs.declared.shape.Slot.{Slot}
use Rattle.stack_shape.specs.declared.shape.Slot.TheVariants.{Of, Base as BaseSlot}
use Rattle.stack_shape.specs.declared.effect.StackEffect.{StackEffect}

-- a cell without its value: the type of what it holds, or the BP that a base keeps
pub data Outline : Type 0 where
  Typed : Ty → Outline
  Keeps : ℕ → Outline

abbrev pub outline : Cell → Outline
outline (Holds v) = Typed (type_of v)
outline (Base bp) = Keeps bp

abbrev pub outlines : List Cell → List Outline
outlines cells = map outline cells

-- the slot of a cell, for which all bases are one
abbrev pub slot : Cell → Slot
slot (Holds v) = Of (type_of v)
slot (Base bp) = BaseSlot

abbrev pub slots : List Cell → List Slot
slots cells = map slot cells

-- the slots beneath BP
abbrev pub slots_under : StackView → List Slot
slots_under s = slots (cells_beneath s.bp s.cells)

-- outlines after an effect: the bases that stay keep their BPs
abbrev pub outlines_after : StackEffect → List Outline → List Outline
outlines_after e below = map Typed e.pushes ++ drop e.pops below
