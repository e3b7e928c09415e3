-- The rules that a table of shapes is to meet, and well-stacked code.
use Rattle.std.specs.Prelude.{◌≡◌, ℕ, List, [], ◌++◌, Option, None, Some}
use Rattle.nwq_value.specs.Engine.{EngineTable}
use Rattle.ncs_code.specs.Plain.{PlainOp}
use Rattle.ncs_code.specs.Plain as ops
use Rattle.ncs_code.specs.File.{header_size, jump_place, op_at, resume_place}
use Rattle.stack_shape.specs.declared.shape.Slot.{Slot}
use Rattle.stack_shape.specs.declared.shape.Entry.{Entry}
use Rattle.stack_shape.specs.declared.shape.Entry.TheVariants.{Start, Called, Stored}
use Rattle.stack_shape.specs.declared.store.StoredTypes.{StoredTypes}
use Rattle.stack_shape.specs.Stored.{TopShape, stored_types, stored_shape}
use Rattle.stack_shape.specs.Rule.{rule}
use Rattle.machine_rules.specs.Act.{next_place}
use Rattle.stack_rules.specs.Tables.{Callee, ShapeTable, empty_shape, first_shape}

-- ---- calls and returns

-- Behind a call the shape is as before, with what the routine gives in the place of what it takes.
-- A routine that never returns needs no shape there.
abbrev pub GoesOnBehindCall : ShapeTable → Entry → ℕ → TopShape → List Slot → Option (List Slot)
    → Type 0
GoesOnBehindCall table entry next shape rest None = Unit {0}
GoesOnBehindCall table entry next shape rest (Some given) = table.at entry next
    ≡ Some (record shape { cells = given ++ rest })

-- JSR: the table knows the routine, whose cells are on top, and whose slots beneath BP are the
-- upper ones there.
pub record MayCall (table : ShapeTable) (entry : Entry) (target next : ℕ)
    (shape : TopShape) : Type 0 where
  pub callee : Callee
  pub known : table.called target ≡ Some callee
  pub rest : List Slot
  pub cells : shape.cells ≡ callee.taken ++ rest
  pub deeper : List Slot
  pub under : shape.under ≡ callee.under ++ deeper
  pub goes_on : GoesOnBehindCall table entry next shape rest callee.given

-- RETN in a called routine: the cells are those that it gives, each SAVEBP is ended, and no state
-- is pending.
pub record MayReturn (table : ShapeTable) (target : ℕ) (shape : TopShape) : Type 0 where
  pub callee : Callee
  pub known : table.called target ≡ Some callee
  pub given : callee.given ≡ Some shape.cells
  pub saved : shape.saved ≡ []
  pub pending : shape.pending ≡ 0

-- Elsewhere a RETN ends the script, whatever is on the stack.
abbrev pub Returns : ShapeTable → Entry → TopShape → Type 0
Returns table Start shape = Unit {0}
Returns table (Called target) shape = MayReturn table target shape
Returns table (Stored site) shape = Unit {0}

-- ---- the other instructions

-- where an instruction leads within its routine, with the shape after it
abbrev pub Leads : ShapeTable → Entry → ℕ → PlainOp → TopShape → Type 0
Leads table entry place (ops.Jmp offset) after = table.at entry (jump_place place offset)
    ≡ Some after
Leads table entry place (ops.Jz offset) after =
    (table.at entry (jump_place place offset) ≡ Some after)
    × (table.at entry (next_place place (ops.Jz offset)) ≡ Some after)
Leads table entry place (ops.Jnz offset) after =
    (table.at entry (jump_place place offset) ≡ Some after)
    × (table.at entry (next_place place (ops.Jnz offset)) ≡ Some after)
Leads table entry place op after = table.at entry (next_place place op) ≡ Some after

-- STORE_STATE: what is stored resumes with the types that are found here.
pub record MayStore (table : ShapeTable) (site globals locals : ℕ) (shape : TopShape) : Type 0 where
  pub types : StoredTypes
  pub found : stored_types globals locals shape.under shape.cells ≡ Some types
  pub resumes : table.at (Stored site) (resume_place site) ≡ Some (stored_shape types)

-- what an instruction asks of the table besides
abbrev pub AsksFurther : ShapeTable → ℕ → PlainOp → TopShape → Type 0
AsksFurther table site (ops.StoreState globals locals) shape = MayStore table site globals locals shape
AsksFurther table site op shape = Unit {0}

-- an instruction with a rule of one shape
pub record Follows (header : EngineTable) (table : ShapeTable) (entry : Entry) (place : ℕ)
    (op : PlainOp) (shape : TopShape) : Type 0 where
  pub after : TopShape
  pub has_rule : rule header op shape ≡ Some after
  pub leads : Leads table entry place op after
  pub further : AsksFurther table place op shape

-- what an instruction at a place owes to the table
abbrev pub Obeys : EngineTable → ShapeTable → Entry → ℕ → PlainOp → TopShape → Type 0
Obeys header table entry place (ops.Jsr offset) shape = MayCall table entry
    (jump_place place offset) (next_place place (ops.Jsr offset)) shape
Obeys header table entry place ops.Retn shape = Returns table entry shape
Obeys header table entry place op shape = Follows header table entry place op shape

-- ---- tables

-- an instruction begins at the place, and obeys the rules
pub record IsSound (header : EngineTable) (code : List PlainOp) (table : ShapeTable) (entry : Entry)
    (place : ℕ) (shape : TopShape) : Type 0 where
  pub op : PlainOp
  pub stands : op_at code place ≡ Some op
  pub obeys : Obeys header table entry place op shape

pub record MeetsRules (header : EngineTable) (code : List PlainOp)
    (table : ShapeTable) : Type 0 where
  -- a script starts with nothing on its stack
  pub start : table.at Start header_size ≡ Some empty_shape
  -- a called routine begins with what it takes
  pub entered : (target : ℕ) (callee : Callee) → table.called target ≡ Some callee
      → table.at (Called target) target ≡ Some (first_shape callee)
  pub each : (entry : Entry) (place : ℕ) (shape : TopShape) → table.at entry place ≡ Some shape
      → IsSound header code table entry place shape

-- some table meets the rules
abbrev pub WellStacked : EngineTable → List PlainOp → Type 0
WellStacked header code = (table : ShapeTable) × MeetsRules header code table
