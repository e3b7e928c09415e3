-- Where the values of variables stand while the code of a script runs.
use Rattle.std.specs.Prelude.{◌≡◌, ◌≤◌, ◌⊎◌, ℕ, ◌+◌, List, [], ◌∷◌, ◌++◌, length, reverse, slice_get, Some}
use Rattle.nwq_value.specs.declared.value.Ty.{Ty}
use Rattle.nwq_value.specs.declared.value.Value.{Value}
use Rattle.ncs_code.specs.Plain.{PlainOp}
use Rattle.typing_rules.specs.Cells.{cell_types, cells}
use Rattle.saved_state.specs.declared.cell.Cell.{Cell}
use Rattle.saved_state.specs.declared.cell.Cell.TheVariants.{Value as Holds, Base}
use Rattle.saved_state.specs.declared.saved.Saved.{Saved}
use Rattle.emission_rules.specs.Layout.{Layout, position}
use Rattle.world_rules.specs.World.{World}
use Rattle.world_rules.specs.Alike.{Alike}
use Rattle.machine_rules.specs.Frames.{Frame}
use Rattle.machine_rules.specs.Cells.{value_types, with_values}
use Rattle.source_meaning.specs.Evaluation.{Variables, Deferred}
use Rattle.source_laws.specs.Ledger.{Machine, MachineHost}

-- ---- values on cells

-- the cells with a value on top: its parts are pushed first to last
abbrev pub pushed : List Value → List Cell → List Cell
pushed parts cells = with_values (reverse parts) cells

-- The parts of a value stand on cells, over so many others.
pub record Stands (cells : List Cell) (place : ℕ) (parts : List Value) : Type 0 where
  pub above : List Cell
  pub below : List Cell
  pub is : cells ≡ above ++ pushed parts below
  pub at : length below ≡ place

-- cells that hold values
abbrev pub IsHeld : Cell → Type 0
IsHeld (Holds v) = Unit {0}
IsHeld (Base bp) = ⊥

abbrev pub AreHeld : List Cell → Type 0
AreHeld [] = Unit {0}
AreHeld (c ∷ cells) = IsHeld c × AreHeld cells

-- ---- a running script

-- What stays while a script runs: its number, its instructions and the places of its labels, the
-- object that it runs as, and what waits for it; where its variables stand and which types they
-- have; and the globals in sight, with the place right beneath which they lie.
pub record Site : Type 0 where
  pub script : ℕ
  pub code : List PlainOp
  pub places : ℕ → ℕ
  pub self : ℕ
  pub waiting : List Frame
  pub layout : Layout
  pub types : ℕ → Ty
  -- the types of the fields of each struct
  pub fields : List (List Ty)
  pub globals : List ℕ
  pub bp : ℕ

-- the script is the one of its number
pub record IsListed (host : MachineHost) (x : Site) : Type 0 where
  pub name : List ℕ
  pub is : slice_get host.scripts x.script ≡ Some (record { name = name; code = x.code })

-- the state in which the script runs at a place
abbrev pub at : Site → ℕ → List Cell → List ℕ → List Saved → World Saved → Machine
at x place cells calls pending world = record {
  running = record {
    script = x.script;
    place = place;
    stack = record { cells = cells; bp = x.bp };
    calls = calls;
    pending = pending;
    self = x.self;
  };
  waiting = x.waiting;
  world = world;
}

-- ---- variables

abbrev pub In : ℕ → List ℕ → Type 0
In n [] = ⊥
In n (m ∷ ms) = (n ≡ m) ⊎ In n ms

abbrev pub part_types : Site → ℕ → List Ty
part_types x n = cell_types x.layout.structs (x.types n)

-- Two variables have no cell in common.
abbrev pub Apart : Site → ℕ → ℕ → Type 0
Apart x m n = (position x.layout m + length (part_types x m) ≤ position x.layout n)
    ⊎ (position x.layout n + length (part_types x n) ≤ position x.layout m)

-- The variables in sight stand on cells, each at its position.
pub record Vars (x : Site) (scope : List ℕ) (cells : List Cell)
    (variables : Variables) : Type 0 where
  pub value : (n : ℕ) → In n scope → Stands cells (position x.layout n) (variables n)
  pub typed : (n : ℕ) → In n scope → value_types (variables n) ≡ part_types x n
  pub apart : (m n : ℕ) → In m scope → In n scope → (m ≡ n → ⊥) → Apart x m n

-- What stands on the stack, and the machine's world, where the variables and the world are these:
-- the globals at the bottom, and so many cells of the frame.
pub record Kept (R : Saved → Deferred → Type 0) (x : Site) (scope : List ℕ) (size : ℕ)
    (globals locals : Variables) (world : World Deferred) : Type 0 where
  pub under : List Cell
  pub frame : List Cell
  pub machine : World Saved
  pub under_size : length under ≡ x.bp
  pub frame_size : length frame ≡ size
  pub under_held : AreHeld under
  pub frame_held : AreHeld frame
  pub global_values : Vars x x.globals under globals
  pub local_values : Vars x scope frame locals
  pub alike : Alike R machine world

-- the state at a place: values under way over the frame, and over other cells, which lie over the
-- globals
abbrev pub spot_at : (R : Saved → Deferred → Type 0)
    (x : Site) {scope : List ℕ} {size : ℕ} {globals locals : Variables} {world : World Deferred}
    → ℕ → List Cell → List Cell → List ℕ → List Saved → Kept R x scope size globals locals world
    → Machine
spot_at R x place temps between calls pending kept = at x place
    (temps ++ (kept.frame ++ (between ++ kept.under))) calls pending kept.machine
