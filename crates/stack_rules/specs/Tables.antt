-- Tables of shapes. All lists of slots are seen top first.
use Rattle.std.specs.Prelude.{ℕ, List, [], Option}
use Rattle.stack_shape.specs.declared.shape.Slot.{Slot}
use Rattle.stack_shape.specs.declared.shape.Entry.{Entry}
use Rattle.stack_shape.specs.Stored.{TopShape}

-- What is known of a routine that JSR calls: the cells that it may reach, the slots beneath BP that
-- it may reach, and, if it returns, the cells that it leaves in the place of those that it may
-- reach.
pub record Callee : Type 0 where
  pub taken : List Slot
  pub under : List Slot
  pub given : Option (List Slot)

-- A table: the shape at a place, for each way in which control comes to the place's routine; and
-- what is known of the routine that begins at a place.
pub record ShapeTable : Type 0 where
  pub at : Entry → ℕ → Option TopShape
  pub called : ℕ → Option Callee

-- the shape with which a script starts
abbrev pub empty_shape : TopShape
empty_shape = record { cells = []; under = []; saved = []; pending = 0 }

-- the shape with which a called routine begins
abbrev pub first_shape : Callee → TopShape
first_shape c = record { cells = c.taken; under = c.under; saved = []; pending = 0 }
