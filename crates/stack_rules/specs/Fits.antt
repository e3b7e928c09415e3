-- When a captured state fits a table of shapes.
use Rattle.std.specs.Prelude.{◌≡◌, ℕ, List, [], ◌∷◌, Option, None, Some, map, reverse, slice_get}
use Rattle.ncs_code.specs.File.{resume_place}
use Rattle.saved_state.specs.declared.cell.Cell.{Cell}
use Rattle.saved_state.specs.declared.cell.Cell.TheVariants.{Value, Base}
use Rattle.saved_state.specs.declared.saved.Saved.{Saved}
use Rattle.stack_shape.specs.declared.shape.Slot.TheVariants.{Of}
use Rattle.stack_shape.specs.declared.shape.Entry.TheVariants.{Stored}
use Rattle.stack_shape.specs.declared.store.StoredTypes.{StoredTypes}
use Rattle.stack_shape.specs.Stored.{stored_shape}
use Rattle.machine_rules.specs.Outlines.{slots}
use Rattle.machine_rules.specs.Machine.{Script}
use Rattle.stack_rules.specs.Tables.{ShapeTable}

-- The state resumes where a STORE_STATE of the table says, on cells of the types that it stores.
pub record Fits (table : ShapeTable) (saved : Saved) : Type 0 where
  pub site : ℕ
  pub place : saved.place ≡ resume_place site
  pub types : StoredTypes
  pub known : table.at (Stored site) saved.place ≡ Some (stored_shape types)
  pub globals : slots (reverse saved.globals) ≡ map Of types.globals
  pub locals : slots (reverse saved.locals) ≡ map Of types.locals

-- a table for each script, by the script's number
abbrev pub Tables : Type 0
Tables = ℕ → ShapeTable

-- a script is listed under this number
abbrev pub IsListed : List Script → ℕ → Type 0
IsListed scripts number = (script : Script) × (slice_get scripts number ≡ Some script)

-- the state is one of a listed script, whose table it fits
pub record FitsOne (scripts : List Script) (tables : Tables) (saved : Saved) : Type 0 where
  pub listed : IsListed scripts saved.script
  pub fits : Fits (tables saved.script) saved

-- the action of an engine call
abbrev pub FitsAction : List Script → Tables → Option Saved → Type 0
FitsAction scripts tables None = Unit {0}
FitsAction scripts tables (Some saved) = FitsOne scripts tables saved

-- ---- what such states hold

-- Each cell holds a value; none is a base.
abbrev pub AllValues : List Cell → Type 0
AllValues [] = Unit {0}
AllValues (Value v ∷ cells) = AllValues cells
AllValues (Base bp ∷ cells) = ⊥

pub record HoldsValues (saved : Saved) : Type 0 where
  pub globals : AllValues saved.globals
  pub locals : AllValues saved.locals
