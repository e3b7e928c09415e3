-- Runs over shapes: which cells code finds on its stack at a place, whatever the values are.
use Rattle.std.specs.Prelude.{◌≡◌, ℕ, ℤ, ◌⊎◌, List, [], Option, None, Some}
use Rattle.nwq_value.specs.Engine.{EngineTable}
use Rattle.ncs_code.specs.Plain.{PlainOp}
use Rattle.ncs_code.specs.Plain as ops
use Rattle.ncs_code.specs.File.{header_size, jump_place, op_at, resume_place}
use Rattle.stack_shape.specs.declared.shape.Entry.{Entry}
use Rattle.stack_shape.specs.declared.shape.Entry.TheVariants.{Start, Called, Stored}
use Rattle.stack_shape.specs.declared.store.StoredTypes.{StoredTypes}
use Rattle.stack_shape.specs.Stored.{TopShape, stored_types, stored_shape}
use Rattle.stack_shape.specs.Rule.{IsOneStep, rule}
use Rattle.machine_rules.specs.Act.{next_place}
use Rattle.stack_rules.specs.Tables.{empty_shape}

-- the instruction leads to this place within its routine, as one of perhaps two
abbrev pub LeadsTo : ℕ → PlainOp → ℕ → Type 0
LeadsTo place (ops.Jmp offset) next = next ≡ jump_place place offset
LeadsTo place (ops.Jz offset) next = (next ≡ jump_place place offset)
    ⊎ (next ≡ next_place place (ops.Jz offset))
LeadsTo place (ops.Jnz offset) next = (next ≡ jump_place place offset)
    ⊎ (next ≡ next_place place (ops.Jnz offset))
LeadsTo place op next = next ≡ next_place place op

-- where a routine begins
abbrev pub first_place : Entry → ℕ
first_place Start = header_size
first_place (Called target) = target
first_place (Stored site) = resume_place site

-- a called routine begins on the whole stack of its caller, with nothing saved or pending of its own
abbrev pub entered : TopShape → TopShape
entered s = record { cells = s.cells; under = s.under; saved = []; pending = 0 }

-- what its caller goes on with: the cells that it left
abbrev pub left_by : TopShape → TopShape → TopShape
left_by last s = record {
  cells = last.cells;
  under = s.under;
  saved = s.saved;
  pending = s.pending;
}

-- each SAVEBP is ended, and no state is pending
pub record IsEnded (s : TopShape) : Type 0 where
  pub saved : s.saved ≡ []
  pub pending : s.pending ≡ 0

-- A routine that began with a shape comes to a place with a shape: step by step, both ways at a
-- jump that looks at a cell, and over a call by a run of the called routine up to its RETN.
pub data Way (header : EngineTable) (code : List PlainOp) : Entry → TopShape → ℕ → TopShape
    → Type 0 where
  Begins : (entry : Entry) (first : TopShape)
      → Way header code entry first (first_place entry) first
  Steps : (entry : Entry) (first : TopShape) (place : ℕ) (shape : TopShape) (op : PlainOp)
      (after : TopShape) (next : ℕ)
      → Way header code entry first place shape → op_at code place ≡ Some op → IsOneStep op
      → rule header op shape ≡ Some after → LeadsTo place op next
      → Way header code entry first next after
  Returns : (entry : Entry) (first : TopShape) (place : ℕ) (shape : TopShape) (offset : ℤ) (end : ℕ)
      (last : TopShape)
      → Way header code entry first place shape → op_at code place ≡ Some (ops.Jsr offset)
      → Way header code (Called (jump_place place offset)) (entered shape) end last
      → op_at code end ≡ Some ops.Retn → IsEnded last
      → Way header code entry first (next_place place (ops.Jsr offset)) (left_by last shape)

-- A run of the script comes to a routine, from the JSR at this place if it is called, and the
-- routine begins with this shape.
pub data Comes (header : EngineTable) (code : List PlainOp) : Entry → Option ℕ → TopShape
    → Type 0 where
  Starts : Comes header code Start None empty_shape
  Calls : (entry : Entry) (from : Option ℕ) (first : TopShape) (place : ℕ) (shape : TopShape)
      (offset : ℤ) → Comes header code entry from first
      → Way header code entry first place shape → op_at code place ≡ Some (ops.Jsr offset)
      → Comes header code (Called (jump_place place offset)) (Some place) (entered shape)
  Stores : (entry : Entry) (from : Option ℕ) (first : TopShape) (place : ℕ) (shape : TopShape)
      (globals locals : ℕ) (types : StoredTypes)
      → Comes header code entry from first → Way header code entry first place shape
      → op_at code place ≡ Some (ops.StoreState globals locals)
      → stored_types globals locals shape.under shape.cells ≡ Some types
      → Comes header code (Stored place) None (stored_shape types)
