-- Shapes whose lists are numbers of shared lists.
use Rattle.std.specs.Prelude.{◌≡◌, ◌≤◌, ℕ, List, [], ◌∷◌, length, map, Bool, true, false, Option, None, Some}
use Rattle.ncs_code.specs.Plain.{PlainOp}
use Rattle.ncs_code.specs.Plain as ops
use Rattle.stack_shape.specs.declared.store.StoredTypes.{StoredTypes}
use Rattle.stack_shape.specs.Stored.{TopShape, stored_types}
use Rattle.stack_shape.specs.TopFirst.{types_on}
use Rattle.stack_lists.specs.declared.held.Held.{Held}
use Rattle.stack_lists.specs.declared.held.Heap.{Heap}
use Rattle.stack_lists.specs.Shared.{read, Grows}

-- the shape that is held
abbrev pub shape_of : Heap → Held → TopShape
shape_of heap held = record {
  cells = read heap.slots held.cells;
  under = read heap.slots held.under;
  saved = map (read heap.slots) (read heap.saved held.saved);
  pending = held.pending;
}

abbrev pub AllAtMost : ℕ → List ℕ → Type 0
AllAtMost most [] = Unit {0}
AllAtMost most (n ∷ ns) = (n ≤ most) × AllAtMost most ns

-- each list of the shape is there
pub record IsIn (heap : Heap) (held : Held) : Type 0 where
  pub cells : held.cells ≤ length heap.slots
  pub under : held.under ≤ length heap.slots
  pub saved : held.saved ≤ length heap.saved
  pub each : AllAtMost (length heap.slots) (read heap.saved held.saved)

-- shapes are only added
pub record HeapGrows (before after : Heap) : Type 0 where
  pub slots : Grows before.slots after.slots
  pub saved : Grows before.saved after.saved

-- The shape after a step, where there is one.
abbrev pub AfterStep : Heap → Heap → Option Held → Option TopShape → Type 0
AfterStep before after None shape = HeapGrows before after × (shape ≡ None)
AfterStep before after (Some held) shape = HeapGrows before after × IsIn after held
    × (shape ≡ Some (shape_of after held))

-- an instruction that leaves each shape as it is
unfoldable pub is_still : PlainOp → Bool
is_still (ops.Jmp offset) = true
is_still ops.Nop = true
is_still op = false

-- the shape is held
pub record Holds (before after : Heap) (held : Held) (shape : TopShape) : Type 0 where
  pub grows : HeapGrows before after
  pub inside : IsIn after held
  pub is : shape_of after held ≡ shape

-- the types that STORE_STATE of so many bytes stores of a shape
abbrev pub stored_of : ℕ → ℕ → TopShape → Option StoredTypes
stored_of globals locals s = stored_types globals locals s.under s.cells

-- STORE_STATE of so many bytes stores so many globals and locals.
pub record AreStored (globals locals : ℕ) (s : TopShape) (above below : ℕ) : Type 0 where
  pub types : StoredTypes
  pub found : stored_of globals locals s ≡ Some types
  pub globals_are : types_on above s.under ≡ Some types.globals
  pub locals_are : types_on below s.cells ≡ Some types.locals
