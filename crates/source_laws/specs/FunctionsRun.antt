-- That the code of a function does what a call of the function means.
use Rattle.std.specs.Prelude.{◌≡◌, ◌<◌, ◌≤◌, ℕ, ◌+◌, false, List, [], ◌∷◌, ◌++◌, map, Some, slice_get}
use Rattle.std.specs.List.{AllByRecursion}
use Rattle.nwq_value.specs.Engine.{EngineTable}
use Rattle.ncs_emit.specs.Standing.{LinesStand}
use Rattle.emission_rules.specs.Bounds.{IsCell}
use Rattle.emission_rules.specs.Units.{emit_function}
use Rattle.source_laws.specs.FineStatements.{AreFineStmts}
use Rattle.nwq_value.specs.declared.value.Ty.{Ty}
use Rattle.nwq_value.specs.declared.value.Value.{Value}
use Rattle.typing_rules.specs.Typed.{TypedExpr, TypedParameter}
use Rattle.typing_rules.specs.Cells.{cell_types}
use Rattle.world_rules.specs.Pure.{CellLookup}
use Rattle.saved_state.specs.declared.cell.Cell.{Cell}
use Rattle.saved_state.specs.declared.saved.Saved.{Saved}
use Rattle.emission_rules.specs.Layout.{params_cells, position}
use Rattle.machine_rules.specs.Cells.{value_types}
use Rattle.source_meaning.specs.Values.{start_parts}
use Rattle.source_meaning.specs.Evaluation.{no_variables, Deferred, Progress}
use Rattle.source_meaning.specs.Expressions.{Caller}
use Rattle.source_meaning.specs.Scripts.{Function, Setting, parameter_names, calls}
use Rattle.source_laws.specs.Ledger.{Machine, MachineHost, Sim}
use Rattle.source_laws.specs.Kept.{pushed, Site, IsListed, at, Kept}
use Rattle.source_laws.specs.Carries.{Carries}
use Rattle.source_laws.specs.Simulation.{Executor, running_at, ExprRuns}
use Rattle.source_laws.specs.Calling.{pushed_all, all_types, EngineRuns, CapturesCarry, ExecutesRun}

-- the parameters, each above those behind it
abbrev pub AreParameters : Site → List TypedParameter → Type 0
AreParameters x [] = Unit {0}
AreParameters x (p ∷ ps) = (position x.layout p.name.number ≡ params_cells x.layout.structs ps)
    × (x.types p.name.number ≡ p.ty) × AreParameters x ps

-- The code of a function stands at its label, and its statements are fine.
pub record IsPlaced (table : EngineTable) (functions : List Function) (x : Site) (f : ℕ)
    (fn : Function) : Type 0 where
  pub label : ℕ
  pub stands : LinesStand x.code x.places (x.places f)
      (emit_function x.layout label f fn.parameters fn.body)
  pub parameters : AreParameters x fn.parameters
  pub fine : AreFineStmts table functions x fn.result false false
      (params_cells x.layout.structs fn.parameters) (parameter_names fn.parameters) fn.body
  pub cells : AllByRecursion IsCell (cell_types x.layout.structs fn.result)

-- the globals are kept, and no frame
abbrev pub KeepsGlobals : (Saved → Deferred → Type 0) → Site → Progress → Type 0
KeepsGlobals R x p = Kept R x [] 0 p.globals no_variables p.world

abbrev pub parameter_types : Site → List TypedParameter → List (List Ty)
parameter_types x ps = map (λ p. cell_types x.layout.structs p.ty) ps

-- what a call leaves: a value of the function's type, and the globals
abbrev pub HasResult : (Saved → Deferred → Type 0) → Site → Ty → List Value → Progress → Type 0
HasResult R x t v p = (value_types v ≡ cell_types x.layout.structs t) × KeepsGlobals R x p

abbrev pub result_place : (R : Saved → Deferred → Type 0) (x : Site) (t : Ty) → ℕ → List Cell
    → List ℕ → List Saved → (v : List Value) (p : Progress) → HasResult R x t v p → Machine
result_place R x t back lower waiting pending v p h = at x back
    (pushed v (lower ++ h.1.under)) waiting pending h.1.machine

-- From the function's label on, with its arguments on top of the cells of its result, the code of a
-- function does what a call of it means: it goes back with the result in these cells. Three credits
-- are used up where the body is left at its end.
abbrev pub CallsRun : MachineHost → (Saved → Deferred → Type 0) → Site → List Function → Caller → ℕ
    → Type 0
CallsRun host R x functions caller most =
    (f : ℕ) (fn : Function) → slice_get functions f ≡ Some fn → (values : List (List Value))
    → all_types values ≡ parameter_types x fn.parameters
    → (p : Progress) → p.left < most → (kept : KeepsGlobals R x p)
    (lower : List Cell) (back : ℕ) (waiting : List ℕ) (pending : List Saved) (c d : ℕ) → d + 3 ≤ c
    → Sim host R (HasResult R x fn.result)
    (result_place R x fn.result back lower waiting pending) p.left c
    (at x (x.places f) (pushed_all values
    (pushed (start_parts (cell_types x.layout.structs fn.result)) (lower ++ kept.under)))
    (back ∷ waiting) pending kept.machine) (λ v. d) (caller f values p)

-- Functions do what their calls mean, recursion among them, and so do all expressions, where so
-- many steps are left: in a script whose functions stand at their labels.
abbrev pub FunctionsRun : Type 0
FunctionsRun =
    (s : Setting) (host : MachineHost) (x : Site) (tables : CellLookup) (execute : Executor)
    (fs : List Function)
    → IsListed host x → EngineRuns host (Carries s) tables
    → CapturesCarry host (Carries s) x tables execute fs
    → ((most : ℕ) → ExecutesRun host (Carries s) x execute most)
    → ((f : ℕ) (fn : Function) → slice_get fs f ≡ Some fn → IsPlaced host.table fs x f fn)
    → (most : ℕ)
    → CallsRun host (Carries s) x fs (calls (running_at host tables execute x) fs most) most
    × ((e : TypedExpr) → ExprRuns host (Carries s) x tables execute fs
    (calls (running_at host tables execute x) fs most) most e)
