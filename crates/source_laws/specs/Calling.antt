-- What is asked of the engine, of captured states and of scripts that are run, so that the code of
-- calls does what the calls mean.
use Rattle.std.specs.Prelude.{◌≡◌, ◌≤◌, ℕ, ◌+◌, Bool, true, false, List, [], ◌∷◌, ◌++◌, map, length, Option, Some, slice_get}
use Rattle.nwq_value.specs.declared.value.Ty.{Ty}
use Rattle.nwq_value.specs.declared.value.Ty.TheVariants.{Void, Text, Object}
use Rattle.nwq_value.specs.declared.value.Value.{Value}
use Rattle.nwq_value.specs.declared.engine.Const.{Const}
use Rattle.nwq_value.specs.declared.engine.Routine.{Routine}
use Rattle.nwq_value.specs.Engine.{const_type}
use Rattle.typing_rules.specs.Typed.{TypedExpr, TypedExprs, no_typed, more_typed, type_of}
use Rattle.ncs_code.specs.Plain as ops
use Rattle.ncs_code.specs.File.{resume_place}
use Rattle.ncs_emit.specs.Labelled.{Instruction}
use Rattle.ncs_emit.specs.Standing.{LinesStand}
use Rattle.typing_rules.specs.Cells.{Structs, cell_types, is_captured}
use Rattle.saved_state.specs.declared.cell.Cell.{Cell}
use Rattle.saved_state.specs.declared.saved.Saved.{Saved}
use Rattle.saved_state.specs.Cells.{captured}
use Rattle.stack_shape.specs.Calls.{argument_types, result_types, is_callable}
use Rattle.emission_rules.specs.Expressions.{emit}
use Rattle.world_rules.specs.Pure.{CellLookup}
use Rattle.world_rules.specs.World.{World}
use Rattle.world_rules.specs.Engine.{engine}
use Rattle.world_rules.specs.Alike.{Alike, OptionAlike}
use Rattle.world_rules.specs.AlikeLaws.{call}
use Rattle.machine_rules.specs.Cells.{value_types}
use Rattle.machine_rules.specs.Calls.{is_execute_script}
use Rattle.machine_rules.specs.Machine.{Goes, step, executed}
use Rattle.source_meaning.specs.Evaluation.{Deferred, Progress}
use Rattle.source_meaning.specs.Expressions.{parts_in, deferred}
use Rattle.source_meaning.specs.Scripts.{Function}
use Rattle.source_laws.specs.Ledger.{Machine, MachineHost, Sim}
use Rattle.source_laws.specs.Kept.{pushed, AreHeld, Site, Kept, spot_at}
use Rattle.source_laws.specs.Fine.{IsFine}
use Rattle.source_laws.specs.Simulation.{Executor, running_at, HoldsValue, value_place, value_credits}

-- ---- arguments

-- the cells with arguments on top: the last one is pushed first
abbrev pub pushed_all : List (List Value) → List Cell → List Cell
pushed_all [] cells = cells
pushed_all (v ∷ vs) cells = pushed v (pushed_all vs cells)

abbrev pub all_types : List (List Value) → List (List Ty)
all_types values = map value_types values

-- an action is no value
abbrev pub with_types : Bool → List Ty → List (List Ty) → List (List Ty)
with_types true ts rest = rest
with_types false ts rest = ts ∷ rest

-- the types of the values among arguments, before those of others
abbrev pub types_before : Structs → TypedExprs → List (List Ty) → List (List Ty)
types_before structs no_typed rest = rest
types_before structs (more_typed e es) rest = with_types (is_captured e)
    (cell_types structs (type_of e)) (types_before structs es rest)

abbrev pub constant_types : List Const → List (List Ty)
constant_types ks = map (λ k. const_type k ∷ []) ks

-- how many actions are among arguments
abbrev pub one_if : Bool → ℕ
one_if true = 1
one_if false = 0

abbrev pub actions_in : TypedExprs → ℕ
actions_in no_typed = 0
actions_in (more_typed e es) = one_if (is_captured e) + actions_in es

-- ---- what is asked

-- The machine's engine gives what the engine of the meaning gives, in worlds that stay alike, and
-- of routines that can be called its answers have the routines' types.
pub record EngineRuns (host : MachineHost) (R : Saved → Deferred → Type 0)
    (tables : CellLookup) : Type 0 where
  pub value : (n caller : ℕ) (values : List Value) (a : Option Saved) (d : Option Deferred)
      (w : World Saved) (v : World Deferred) → OptionAlike R a d → Alike R w v
      → (host.engine n caller values a w).value
      ≡ (engine host.table tables n (call caller values d) v).value
  pub world : (n caller : ℕ) (values : List Value) (a : Option Saved) (d : Option Deferred)
      (w : World Saved) (v : World Deferred) → OptionAlike R a d → Alike R w v
      → Alike R (host.engine n caller values a w).world
      (engine host.table tables n (call caller values d) v).world
  pub typed : (n : ℕ) (r : Routine) (caller : ℕ) (values : List Value) (a : Option Saved)
      (w : World Saved) → slice_get host.table.routines n ≡ Some r
      → is_callable r ≡ true → value_types values ≡ argument_types r.params
      → value_types (parts_in (host.engine n caller values a w).value) ≡ result_types r.result
  -- the routine that runs another script takes a name and a target, and gives nothing
  pub runs : (n : ℕ) (r : Routine) → slice_get host.table.routines n ≡ Some r
      → is_execute_script r.role ≡ true
      → (argument_types r.params ≡ Text ∷ Object ∷ []) × (result_types r.result ≡ [])

-- A state that is captured before the code of a call carries the call, with the variables as they
-- are.
abbrev pub CapturesCarry : MachineHost → (Saved → Deferred → Type 0) → Site → CellLookup → Executor
    → List Function → Type 0
CapturesCarry host R x tables execute functions =
    (scope : List ℕ) (size n depth place : ℕ) (e : TypedExpr) (p : Progress)
    (kept : Kept R x scope size p.globals p.locals p.world) (temps between : List Cell)
    → IsFine host.table functions x scope e
    → LinesStand x.code x.places (resume_place place)
    (emit x.layout n depth e ++ Instruction ops.Retn ∷ [])
    → length temps + size ≡ depth → AreHeld temps → x.layout.globals ≡ x.bp
    → R (captured x.script (resume_place place) x.layout.globals depth
    (record { cells = temps ++ (kept.frame ++ (between ++ kept.under)); bp = x.bp }))
    (deferred (running_at host tables execute x) scope e p)

-- A script that is run does what running it means, from before the instruction that runs it to
-- behind that one, where a credit is left for that instruction.
abbrev pub ExecutesRun : MachineHost → (Saved → Deferred → Type 0) → Site → Executor → ℕ → Type 0
ExecutesRun host R x execute most =
    (name : List ℕ) (target : ℕ) (scope : List ℕ) (size next c : ℕ) (p : Progress)
    (kept : Kept R x scope size p.globals p.locals p.world)
    (temps between : List Cell) (calls : List ℕ) (pending : List Saved) (s : Machine)
    → p.left ≤ most → 1 ≤ c → s.world ≡ kept.machine → s.waiting ≡ x.waiting → AreHeld temps
    → step host s ≡ Some (Goes
    (executed host name target (spot_at R x next temps between calls pending kept).running s))
    → Sim host R (HoldsValue R x scope size Void)
    (value_place R x scope size Void next temps between calls pending) p.left c s
    (value_credits c) (execute name target p)
