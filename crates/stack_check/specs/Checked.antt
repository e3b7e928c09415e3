-- Checked code: what it keeps, and what that means in every table of shapes.
use Rattle.std.specs.Prelude.{◌≡◌, ◌≤◌, ◌+◌, ◌*◌, ℕ, List, length, Some, slice_get}
use Rattle.nwq_value.specs.Engine.{EngineTable}
use Rattle.ncs_code.specs.Plain.{PlainOp, StoreState}
use Rattle.ncs_code.specs.File.{op_at, resume_place}
use Rattle.saved_state.specs.declared.saved.Saved.{Saved}
use Rattle.stack_shape.specs.declared.shape.Entry.TheVariants.{Stored}
use Rattle.stack_shape.specs.Stored.{TopShape}
use Rattle.machine_rules.specs.Machine.{Script}
use Rattle.stack_rules.specs.Tables.{ShapeTable}
use Rattle.stack_rules.specs.Fits.{Fits, Tables}
use Rattle.stack_rules.specs.Rules.{MeetsRules}
use Rattle.stack_lists.specs.declared.held.Heap.{Heap}
use Rattle.stack_check.specs.declared.facts.Trial.{Trial}
use Rattle.stack_check.specs.declared.facts.Facts.{Facts}
use Rattle.stack_lists.specs.Budget.{most, most_numbers}
use Rattle.stack_check.specs.Facts.{given_found, trial_table, total}
use Rattle.stack_check.specs.Inference.{window}

-- the code, and what gives its table of shapes
pub record CheckedCode : Type 0 where
  pub code : List PlainOp
  pub heap : Heap
  pub facts : Facts
  -- how many turns its inference took, and how many looks, up to the largest number
  pub turns : ℕ
  pub looks : ℕ
  -- how many calls were found
  pub calls : ℕ

-- the table that checked code keeps
unfoldable pub kept_table : CheckedCode → ShapeTable
kept_table c = trial_table c.heap c.facts

-- ---- its budget, and its turns

pub record IsWithinBudget (c : CheckedCode) : Type 0 where
  pub rows : length c.facts.rows ≤ most
  pub nodes : length c.heap.slots ≤ most
  pub saved : length c.heap.saved ≤ most_numbers

-- what was found of a trial: what its routine gives, and its window
abbrev pub found_of : Heap → Trial → ℕ
found_of heap trial = given_found trial.given + (window heap trial).cells +
    (window heap trial).under

-- the rows, and what was found of each trial
abbrev pub most_turns : CheckedCode → ℕ
most_turns c = length c.facts.rows + total (found_of c.heap) c.facts.trials

-- ---- captured states

-- Each shape of a stored state in the one table stands in the other, at the same place.
pub record StoredStand (table other : ShapeTable) : Type 0 where
  pub by : (site place : ℕ) (shape : TopShape) → table.at (Stored site) place ≡ Some shape
      → other.at (Stored site) place ≡ Some shape

-- so a state that fits the one fits the other
abbrev pub FitsToo : Type 0
FitsToo = (table other : ShapeTable) (saved : Saved) → StoredStand table other → Fits table saved
    → Fits other saved

-- The table meets the rules, and what it says of stored states stands in every table that does.
pub record IsKeptTable (header : EngineTable) (code : List PlainOp)
    (table : ShapeTable) : Type 0 where
  pub meets : MeetsRules header code table
  pub stored : (other : ShapeTable) → MeetsRules header code other → StoredStand table other

-- What each script's table says of stored states stands in every table that meets the rules for it.
-- So it is of scripts that were checked.
abbrev pub AllStand : EngineTable → List Script → Tables → Type 0
AllStand header scripts tables = (number : ℕ) (script : Script) (other : ShapeTable)
    → slice_get scripts number ≡ Some script
    → MeetsRules header script.code other → StoredStand (tables number) other

-- The state resumes behind a STORE_STATE of as many bytes as its globals and its locals take.
pub record StandsBehind (code : List PlainOp) (saved : Saved) : Type 0 where
  pub site : ℕ
  pub place : saved.place ≡ resume_place site
  pub stores : op_at code site
      ≡ Some (StoreState (4 * length saved.globals) (4 * length saved.locals))

-- so does each state that fits such a table
abbrev pub FittingStandsBehind : Type 0
FittingStandsBehind = (header : EngineTable) (code : List PlainOp) (table : ShapeTable)
    (saved : Saved) → IsKeptTable header code table → Fits table saved
    → StandsBehind code saved
