-- That the code of a statement does what the statement means.
use Rattle.std.specs.Prelude.{◌≡◌, ◌≤◌, ℕ, zero, suc, ◌+◌, Bool, true, List, [], ◌∷◌, length}
use Rattle.nwq_value.specs.declared.value.Ty.{Ty}
use Rattle.nwq_value.specs.declared.value.Value.{Value}
use Rattle.typing_rules.specs.Typed.{TypedStmt}
use Rattle.ncs_emit.specs.Labelled.{lines_size}
use Rattle.ncs_emit.specs.Standing.{LinesStand}
use Rattle.typing_rules.specs.Cells.{cell_types}
use Rattle.saved_state.specs.declared.cell.Cell.{Cell}
use Rattle.saved_state.specs.declared.saved.Saved.{Saved}
use Rattle.emission_rules.specs.Layout.{position, declared_cells}
use Rattle.emission_rules.specs.Statements.{Exits, emit_stmt}
use Rattle.world_rules.specs.Pure.{CellLookup}
use Rattle.machine_rules.specs.Cells.{value_types}
use Rattle.source_meaning.specs.Evaluation.{Deferred, Progress}
use Rattle.source_meaning.specs.Expressions.{Caller}
use Rattle.source_meaning.specs.Statements.{Flow, Next, Broke, Continued, Returned, exec, after_stmt}
use Rattle.source_meaning.specs.Scripts.{Function}
use Rattle.source_laws.specs.Ledger.{Machine, MachineHost, Sim}
use Rattle.source_laws.specs.Kept.{pushed, Site, In, part_types, Kept, spot_at}
use Rattle.source_laws.specs.Simulation.{Executor, running_at}
use Rattle.source_laws.specs.FineStatements.{IsFineStmt}

-- where `break` or `continue` leads: to a depth of the frame with fewer variables in sight
pub record Exit : Type 0 where
  pub allowed : Bool
  pub scope : List ℕ
  pub depth : ℕ
  pub label : ℕ

-- The variables in sight there are in sight here too, and stand beneath that depth.
pub record IsExit (x : Site) (scope : List ℕ) (size : ℕ) (e : Exit) : Type 0 where
  pub within : e.allowed ≡ true → e.depth ≤ size
  pub seen : e.allowed ≡ true → (n : ℕ) → In n e.scope → In n scope
  pub beneath : e.allowed ≡ true → (n : ℕ) → In n e.scope
      → position x.layout n + length (part_types x n) ≤ e.depth

-- the exits of the code are these
pub record AreExits (out : Exits) (breaks continues : Exit) : Type 0 where
  pub break_label : out.break_to ≡ breaks.label
  pub break_depth : out.break_depth ≡ breaks.depth
  pub continue_label : out.continue_to ≡ continues.label
  pub continue_depth : out.continue_depth ≡ continues.depth

-- What is kept where a statement is left: at its end what is in sight behind it, at `break` and
-- `continue` what is in sight where they lead, and at `return` the globals and the function's
-- result.
abbrev pub FlowHolds : (Saved → Deferred → Type 0) → Site → Ty → Exit → Exit → List ℕ → ℕ → Flow
    → Progress → Type 0
FlowHolds R x result breaks continues scope size Next p = Kept R x scope size p.globals p.locals p.world
FlowHolds R x result breaks continues scope size Broke p = (breaks.allowed ≡ true)
    × Kept R x breaks.scope breaks.depth p.globals p.locals p.world
FlowHolds R x result breaks continues scope size Continued p = (continues.allowed ≡ true)
    × Kept R x continues.scope continues.depth p.globals p.locals p.world
FlowHolds R x result breaks continues scope size (Returned v) p =
    (value_types v ≡ cell_types x.layout.structs result) × Kept R x [] 0 p.globals p.locals p.world

-- The cells of a function's result lie right beneath its frame, and over other cells; `return`
-- writes them and goes back.
abbrev pub flow_place : (R : Saved → Deferred → Type 0) (x : Site) (result : Ty)
    (breaks continues : Exit) (scope : List ℕ) (size : ℕ) → ℕ → List Value → List Cell → ℕ → List ℕ
    → List Saved
    → (f : Flow) (p : Progress) → FlowHolds R x result breaks continues scope size f p → Machine
flow_place R x result breaks continues scope size next room lower back calls pending Next p h = spot_at R x next [] (pushed room lower) (back ∷ calls) pending h
flow_place R x result breaks continues scope size next room lower back calls pending Broke p h = spot_at R x (x.places breaks.label) [] (pushed room lower) (back ∷ calls) pending h.1
flow_place R x result breaks continues scope size next room lower back calls pending Continued p h = spot_at R x (x.places continues.label) [] (pushed room lower) (back ∷ calls) pending h.1
flow_place R x result breaks continues scope size next room lower back calls pending
    (Returned v) p h = spot_at R x back [] (pushed v lower) calls pending h.1

-- a credit for what is declared is left at the end
abbrev pub one_of : ℕ → ℕ
one_of zero = 0
one_of (suc n) = 1

abbrev pub flow_credits : ℕ → ℕ → Flow → ℕ
flow_credits c declared Next = c + one_of declared
flow_credits c declared Broke = c
flow_credits c declared Continued = c
flow_credits c declared (Returned v) = c

-- The code of a statement does what the statement means.
abbrev pub StmtRuns : MachineHost → (Saved → Deferred → Type 0) → Site → CellLookup → Executor
    → List Function → Caller → ℕ → Ty → TypedStmt → Type 0
StmtRuns host R x tables execute functions caller most result s =
    (out : Exits) (breaks continues : Exit) (scope : List ℕ) (size n place c : ℕ) (p : Progress)
    (kept : Kept R x scope size p.globals p.locals p.world)
    (room : List Value) (lower : List Cell) (back : ℕ) (calls : List ℕ) (pending : List Saved)
    → IsFineStmt host.table functions x result breaks.allowed continues.allowed size scope s
    → LinesStand x.code x.places place (emit_stmt x.layout out n size s)
    → AreExits out breaks continues → IsExit x scope size breaks → IsExit x scope size continues
    → value_types room ≡ cell_types x.layout.structs result → p.left ≤ most
    → Sim host R (FlowHolds R x result breaks continues (after_stmt s scope)
    (size + declared_cells x.layout.structs s))
    (flow_place R x result breaks continues (after_stmt s scope)
    (size + declared_cells x.layout.structs s)
    (place + lines_size (emit_stmt x.layout out n size s)) room lower back calls pending)
    p.left c (spot_at R x place [] (pushed room lower) (back ∷ calls) pending kept)
    (flow_credits c (declared_cells x.layout.structs s))
    (exec (running_at host tables execute x) caller scope s p)
