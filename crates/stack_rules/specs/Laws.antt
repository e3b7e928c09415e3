-- Soundness: well-stacked scripts never come to an instruction that has no case on their stack.
use Rattle.std.specs.Prelude.{◌≡◌, ◌≢◌, ℕ, ◌⊎◌, List, [], ◌∷◌, Contains, Option, None, Some, true, slice_get}
use Rattle.nwq_value.specs.declared.value.Ty.{Ty}
use Rattle.nwq_value.specs.declared.value.Ty.TheVariants.{Void, Text, Object}
use Rattle.nwq_value.specs.declared.value.Value.{Value}
use Rattle.nwq_value.specs.declared.engine.Routine.{Routine}
use Rattle.nwq_value.specs.Engine.{EngineTable, IsTable}
use Rattle.nwq_value.specs.Values.{type_of}
use Rattle.saved_state.specs.declared.saved.Saved.{Saved}
use Rattle.stack_shape.specs.Calls.{argument_types, is_callable}
use Rattle.machine_rules.specs.Cells.{value_types}
use Rattle.machine_rules.specs.Calls.{is_execute_script}
use Rattle.machine_rules.specs.Frames.{started, continued}
use Rattle.machine_rules.specs.Machine.{Script, Host, State, step}
use Rattle.machine_rules.specs.Runs.{Ran, StackFault, run, run_script, run_stored}
use Rattle.stack_rules.specs.Tables.{ShapeTable}
use Rattle.stack_rules.specs.Rules.{MeetsRules}
use Rattle.stack_rules.specs.Fits.{Tables, IsListed, Fits, FitsOne, FitsAction, HoldsValues}
use Rattle.stack_rules.specs.Safe.{IsSafeFrame, IsSafe, GoesSafely}

-- ---- what is asked of scripts, header and engine

-- each listed script's table meets the rules
abbrev pub AllMeet : EngineTable → List Script → Tables → Type 0
AllMeet header scripts tables = (number : ℕ) (script : Script)
    → slice_get scripts number ≡ Some script → MeetsRules header script.code (tables number)

-- the routine that runs another script takes a name and a target, and gives nothing
pub record RunsScripts (r : Routine) : Type 0 where
  pub takes : argument_types r.params ≡ Text ∷ Object ∷ []
  pub gives : r.result ≡ Void

abbrev pub TypesExecuteScript : EngineTable → Type 0
TypesExecuteScript header = (number : ℕ) (r : Routine) → slice_get header.routines number ≡ Some r
    → is_execute_script r.role ≡ true → RunsScripts r

-- so in each table of a header
abbrev pub TablesTypeExecuteScript : Type 0
TablesTypeExecuteScript = (header : EngineTable) → IsTable header → TypesExecuteScript header

-- an answer has the routine's type
abbrev pub HasType : Ty → Option Value → Type 0
HasType Void None = Unit {0}
HasType Void (Some v) = ⊥
HasType t None = ⊥
HasType t (Some v) = type_of v ≡ t

-- The worlds to which scripts can lead from one: by calls of routines that can be called, whose
-- arguments have their types and whose action fits, and by the lines of scripts that don't run.
pub data IsReached {W : Type 0} (host : Host W) (tables : Tables) (first : W) : W → Type 0 where
  Unchanged : IsReached host tables first first
  ByCall : (number caller : ℕ) (r : Routine) (values : List Value) (action : Option Saved)
      (world : W) → slice_get host.table.routines number ≡ Some r
      → is_callable r ≡ true → value_types values ≡ argument_types r.params
      → FitsAction host.scripts tables action → IsReached host tables first world
      → IsReached host tables first (host.engine number caller values action world).world
  ByMissing : (target : ℕ) (name : List ℕ) (world : W) → IsReached host tables first world
      → IsReached host tables first (host.no_script target name world)
  ByDepth : (target : ℕ) (name : List ℕ) (world : W) → IsReached host tables first world
      → IsReached host tables first (host.too_deep target name world)

-- Every script is well stacked, and in each world that is reached the answer of a routine that can
-- be called has its result's type.
pub record IsWellStackedHost {W : Type 0} (host : Host W) (tables : Tables)
    (first : W) : Type 0 where
  pub scripts : AllMeet host.table host.scripts tables
  pub execute : TypesExecuteScript host.table
  pub typed : (number caller : ℕ) (r : Routine) (values : List Value) (action : Option Saved)
      (world : W) → slice_get host.table.routines number ≡ Some r
      → is_callable r ≡ true → value_types values ≡ argument_types r.params
      → FitsAction host.scripts tables action → IsReached host tables first world
      → HasType r.result (host.engine number caller values action world).value

-- ---- the laws

-- a script starts safely, and so does a state that fits
abbrev pub StartsSafely : Type 0
StartsSafely = (header : EngineTable) (scripts : List Script) (tables : Tables) (number self : ℕ)
    → AllMeet header scripts tables → IsListed scripts number
    → IsSafeFrame scripts tables (started number self)

abbrev pub ContinuesSafely : Type 0
ContinuesSafely = (scripts : List Script) (tables : Tables) (saved : Saved) (self : ℕ)
    → FitsOne scripts tables saved
    → IsSafeFrame scripts tables (continued saved self)

-- from a safe state a step is taken, and leads to a safe state
abbrev pub StepsSafely : Type 0 → Type 0
StepsSafely W = (host : Host W) (tables : Tables) (first : W) (s : State W)
    → IsWellStackedHost host tables first
    → IsSafe host.scripts tables (IsReached host tables first) s
    → GoesSafely host.scripts tables (IsReached host tables first) (step host s)

-- a run has no stack fault, and its last world is one that is reached
pub record IsSoundRun {W : Type 0} (Reached : W → Type 0) (r : Ran W) : Type 0 where
  pub no_fault : r.ending ≢ StackFault
  pub world : Reached r.last.world

abbrev pub RunsSafely : Type 0 → Type 0
RunsSafely W = (host : Host W) (tables : Tables) (first : W) (limit : ℕ) (s : State W)
    → IsWellStackedHost host tables first
    → IsSafe host.scripts tables (IsReached host tables first) s
    → IsSoundRun (IsReached host tables first) (run host limit s)

-- An entry that begins with a listed script, and one that begins with a state that fits, whatever
-- ran before.
abbrev pub ScriptsAreSound : Type 0 → Type 0
ScriptsAreSound W = (host : Host W) (tables : Tables) (first : W) (limit number self : ℕ)
    (world : W) → IsWellStackedHost host tables first
    → IsListed host.scripts number → IsReached host tables first world
    → IsSoundRun (IsReached host tables first) (run_script host limit number self world)

abbrev pub StatesAreSound : Type 0 → Type 0
StatesAreSound W = (host : Host W) (tables : Tables) (first : W) (limit : ℕ) (saved : Saved)
    (self : ℕ) (world : W) → IsWellStackedHost host tables first
    → FitsOne host.scripts tables saved → IsReached host tables first world
    → IsSoundRun (IsReached host tables first) (run_stored host limit saved self world)

-- ---- captured states

-- a state that fits a table has no base cell
abbrev pub FittingHoldsValues : Type 0
FittingHoldsValues = (table : ShapeTable) (saved : Saved) → Fits table saved → HoldsValues saved

-- The states that a world keeps, in whatever way they are told from it, are those that engine calls
-- were handed.
pub record KeepsWhatIsHanded {W : Type 0} (host : Host W) (kept : W → List Saved) : Type 0 where
  pub call : (number caller : ℕ) (values : List Value) (action : Option Saved) (world : W)
      (saved : Saved)
      → Contains (kept (host.engine number caller values action world).world) saved
      → Contains (kept world) saved ⊎ (action ≡ Some saved)
  pub missing : (target : ℕ) (name : List ℕ) (world : W) (saved : Saved)
      → Contains (kept (host.no_script target name world)) saved → Contains (kept world) saved
  pub depth : (target : ℕ) (name : List ℕ) (world : W) (saved : Saved)
      → Contains (kept (host.too_deep target name world)) saved → Contains (kept world) saved

abbrev pub AllHoldValues : List Saved → Type 0
AllHoldValues states = (saved : Saved) → Contains states saved → HoldsValues saved

-- so no state that a world keeps has one, if none had in the first world
abbrev pub KeptHoldsValues : Type 0 → Type 0
KeptHoldsValues W = (host : Host W) (tables : Tables) (first : W) (kept : W → List Saved)
    → KeepsWhatIsHanded host kept → AllHoldValues (kept first)
    → (world : W) → IsReached host tables first world → AllHoldValues (kept world)
