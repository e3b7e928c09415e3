-- When a captured state fits what an inference has found. Cells and slots are seen top first.
use Rattle.std.specs.Prelude.{◌≡◌, ◌≤◌, ℕ, List, [], ◌∷◌, ◌++◌, map, reverse, Option, IfSome}
use Rattle.std.specs.Option.{option_and_then}
use Rattle.nwq_value.specs.declared.value.Ty.{Ty}
use Rattle.nwq_value.specs.Values.{type_of}
use Rattle.ncs_code.specs.File.{resume_place}
use Rattle.saved_state.specs.declared.cell.Cell.{Cell}
use Rattle.saved_state.specs.declared.cell.Cell.TheVariants.{Value as Holds, Base as BaseCell}
use Rattle.saved_state.specs.declared.saved.Saved.{Saved}
use Rattle.stack_shape.specs.declared.shape.Slot.{Slot}
use Rattle.stack_shape.specs.declared.shape.Slot.TheVariants.{Of, Base}
use Rattle.stack_shape.specs.declared.shape.Entry.TheVariants.{Stored}
use Rattle.stack_shape.specs.declared.store.StoredTypes.{StoredTypes}
use Rattle.stack_shape.specs.Stored.{TopShape, stored_shape}
use Rattle.machine_rules.specs.Outlines.{slots}
use Rattle.stack_lists.specs.declared.held.Held.{Held}
use Rattle.stack_check.specs.declared.facts.Facts.{Facts}
use Rattle.stack_lists.specs.Rows.{row_in}
use Rattle.stack_check.specs.Facts.{current}

-- the cell holds a value, whose type the slot has
abbrev pub IsValueOf : Slot → Cell → Type 0
IsValueOf (Of t) (Holds v) = type_of v ≡ t
IsValueOf (Of t) (BaseCell bp) = ⊥
IsValueOf Base cell = ⊥

-- All of these cells hold values, and the list begins with their types; the rest lies beneath.
pub record BeginsWith (cells : List Cell) (list rest : List Slot) : Type 0 where
  pub types : List Ty
  pub hold : slots cells ≡ map Of types
  pub begins : list ≡ map Of types ++ rest

-- The list doesn't begin with them, or one of the cells is a base.
pub record BeginsOtherwise (cells : List Cell) (list : List Slot) : Type 0 where
  pub by : (rest : List Slot) → BeginsWith cells list rest → ⊥

-- The list is the types of the locals, over a base, over the types of the globals.
pub record IsFrame (list : List Slot) (saved : Saved) : Type 0 where
  pub lower : List Slot
  pub locals : BeginsWith (reverse saved.locals) list (Base ∷ lower)
  pub globals : BeginsWith (reverse saved.globals) lower []

-- The shape is the one with which a stored state with these cells resumes.
pub record Resumes (shape : TopShape) (saved : Saved) : Type 0 where
  pub types : StoredTypes
  pub is : shape ≡ stored_shape types
  pub globals : slots (reverse saved.globals) ≡ map Of types.globals
  pub locals : slots (reverse saved.locals) ≡ map Of types.locals

-- what was found at a place, of what the STORE_STATE at a site stores
abbrev pub stored_at : Facts → ℕ → ℕ → Option Held
stored_at facts site place = option_and_then (λ trial. row_in facts.rows trial place)
    (current facts (Stored site))

-- This was found at a place, of the state that resumes there.
pub record IsResumedAt (facts : Facts) (place : ℕ) (found : Option Held) : Type 0 where
  pub by : (site : ℕ) → place ≡ resume_place site → found ≡ stored_at facts site place
  pub after : IfSome found (λ _. resume_place 0 ≤ place)
