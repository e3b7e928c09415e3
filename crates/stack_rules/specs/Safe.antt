-- What holds of a machine in which only well-stacked scripts run, after each of its steps.
use Rattle.std.specs.Prelude.{◌≡◌, ◌≤◌, ◌+◌, ◌-◌, ℕ, List, [], ◌∷◌, ◌++◌, length, drop, map, Option, None, Some}
use Rattle.saved_state.specs.declared.saved.Saved.{Saved}
use Rattle.stack_shape.specs.declared.shape.Slot.{Slot}
use Rattle.stack_shape.specs.declared.shape.Slot.TheVariants.{Of, Base}
use Rattle.stack_shape.specs.declared.shape.Entry.{Entry}
use Rattle.stack_shape.specs.declared.shape.Entry.TheVariants.{Start, Called, Stored}
use Rattle.stack_shape.specs.Stored.{TopShape}
use Rattle.machine_rules.specs.Outlines.{Outline, Typed, Keeps, outlines}
use Rattle.machine_rules.specs.Frames.{Frame}
use Rattle.machine_rules.specs.Machine.{Script, State, Next, Goes, Ends, Divided}
use Rattle.stack_rules.specs.Tables.{Callee, ShapeTable}
use Rattle.stack_rules.specs.Fits.{Tables, IsListed, FitsOne}

-- ---- a stack and a shape

abbrev pub outline_slot : Outline → Slot
outline_slot (Typed t) = Of t
outline_slot (Keeps bp) = Base

abbrev pub outline_slots : List Outline → List Slot
outline_slots os = map outline_slot os

-- the outlines from the topmost base on
abbrev pub from_base : List Outline → List Outline
from_base [] = []
from_base (Typed t ∷ os) = from_base os
from_base (Keeps bp ∷ os) = Keeps bp ∷ os

-- the outlines beneath a place
abbrev pub outlines_beneath : ℕ → List Outline → List Outline
outlines_beneath bp os = drop (length os - bp) os

-- These slots are beneath BP, which is no higher than the topmost base: `bases` are the outlines
-- from that base on.
pub record IsUnder (bases : List Outline) (bp : ℕ) (under : List Slot) : Type 0 where
  pub deep : bp ≤ length bases
  pub rest : List Slot
  pub are : outline_slots (outlines_beneath bp bases) ≡ under ++ rest

-- Each list that the routine has put aside was beneath the BP that its base keeps. Beneath them is
-- what the routine found: the outlines from the topmost base on, and BP.
abbrev pub AreSaved : List (List Slot) → List Outline → ℕ → List Outline → ℕ → Type 0
AreSaved [] bases bp floor found_bp = (bases ≡ floor) × (bp ≡ found_bp)
AreSaved (under ∷ saved) [] bp floor found_bp = ⊥
AreSaved (under ∷ saved) (Typed t ∷ os) bp floor found_bp = ⊥
AreSaved (under ∷ saved) (Keeps kept ∷ os) bp floor found_bp = IsUnder (from_base os) kept under
    × AreSaved saved (from_base os) kept floor found_bp

-- A shape on a stack with these slots, and with these outlines from the topmost base on: beneath
-- the shape's cells lie those that the routine can't reach.
pub record ShapeLiesOn (shape : TopShape) (on_stack : List Slot) (bases : List Outline) (bp : ℕ)
    (below : List Slot) (floor : List Outline) (found_bp : ℕ) : Type 0 where
  pub cells : on_stack ≡ shape.cells ++ below
  pub under : IsUnder bases bp shape.under
  pub saved : AreSaved shape.saved bases bp floor found_bp

-- ---- callers

-- The routine that waits at a place for a called one: once the cells are those that the called one
-- gives, on what that one found, the stack carries the shape at the place. So many states are
-- pending, its own and those of its callers.
pub record Waits (table : ShapeTable) (Callers : Entry → List Slot → List Outline → ℕ → ℕ → Type 0)
    (place : ℕ) (given below : List Slot)
    (floor : List Outline) (found_bp count : ℕ) : Type 0 where
  pub entry : Entry
  pub shape : TopShape
  pub known : table.at entry place ≡ Some shape
  pub lower : List Slot
  pub lower_floor : List Outline
  pub lower_bp : ℕ
  pub others : ℕ
  pub carries : ShapeLiesOn shape (given ++ below) floor found_bp lower lower_floor lower_bp
  pub pending : count ≡ shape.pending + others
  pub callers : Callers entry lower lower_floor lower_bp others

-- For each kept place the routine there waits, if the called one returns. Only a called routine has
-- callers.
abbrev pub AreWaiting : ShapeTable → List ℕ → Entry → List Slot → List Outline → ℕ → ℕ → Type 0
AreWaiting table [] Start below floor found_bp count = Unit {0}
AreWaiting table [] (Called target) below floor found_bp count = ⊥
AreWaiting table [] (Stored site) below floor found_bp count = Unit {0}
AreWaiting table (place ∷ calls) Start below floor found_bp count = ⊥
AreWaiting table (place ∷ calls) (Called target) below floor found_bp count =
    (callee : Callee) (given : List Slot) → table.called target ≡ Some callee
    → callee.given ≡ Some given
    → Waits table (AreWaiting table calls) place given below floor found_bp count
AreWaiting table (place ∷ calls) (Stored site) below floor found_bp count = ⊥

-- ---- frames and states

-- each captured state fits its script's table
abbrev pub AllFit : List Script → Tables → List Saved → Type 0
AllFit scripts tables [] = Unit {0}
AllFit scripts tables (saved ∷ others) = FitsOne scripts tables saved × AllFit scripts tables others

-- the shape at a frame's place is on its stack
pub record IsSafeFrame (scripts : List Script) (tables : Tables) (f : Frame) : Type 0 where
  pub listed : IsListed scripts f.script
  pub entry : Entry
  pub shape : TopShape
  pub known : (tables f.script).at entry f.place ≡ Some shape
  pub below : List Slot
  pub floor : List Outline
  pub found_bp : ℕ
  pub others : ℕ
  pub carries : ShapeLiesOn shape (outline_slots (outlines f.stack.cells))
      (from_base (outlines f.stack.cells)) f.stack.bp below floor found_bp
  pub count : length f.pending ≡ shape.pending + others
  pub callers : AreWaiting (tables f.script) f.calls entry below floor found_bp others
  pub fit : AllFit scripts tables f.pending

abbrev pub AreSafeFrames : List Script → Tables → List Frame → Type 0
AreSafeFrames scripts tables [] = Unit {0}
AreSafeFrames scripts tables (f ∷ fs) = IsSafeFrame scripts tables f
    × AreSafeFrames scripts tables fs

-- every frame is safe, and the world is one of these
pub record IsSafe {W : Type 0} (scripts : List Script) (tables : Tables) (Reached : W → Type 0)
    (s : State W) : Type 0 where
  pub running : IsSafeFrame scripts tables s.running
  pub waiting : AreSafeFrames scripts tables s.waiting
  pub world : Reached s.world

-- a step that was taken, to a safe state if the entry goes on
abbrev pub GoesSafely : {W : Type 0} → List Script → Tables → (W → Type 0) → Option (Next W)
    → Type 0
GoesSafely scripts tables Reached None = ⊥
GoesSafely scripts tables Reached (Some (Goes s)) = IsSafe scripts tables Reached s
GoesSafely scripts tables Reached (Some Ends) = Unit {0}
GoesSafely scripts tables Reached (Some Divided) = Unit {0}
