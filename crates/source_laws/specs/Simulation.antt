-- That the code of an expression does what the expression means.
use Rattle.std.specs.Prelude.{◌≡◌, ◌≤◌, ℕ, ◌+◌, List, length}
use Rattle.nwq_value.specs.declared.value.Ty.{Ty}
use Rattle.nwq_value.specs.declared.value.Value.{Value}
use Rattle.typing_rules.specs.Typed.{TypedExpr, type_of}
use Rattle.ncs_emit.specs.Labelled.{lines_size}
use Rattle.ncs_emit.specs.Standing.{LinesStand}
use Rattle.typing_rules.specs.Cells.{cell_types}
use Rattle.saved_state.specs.declared.cell.Cell.{Cell}
use Rattle.saved_state.specs.declared.saved.Saved.{Saved}
use Rattle.emission_rules.specs.Expressions.{emit}
use Rattle.world_rules.specs.Pure.{CellLookup}
use Rattle.machine_rules.specs.Cells.{value_types}
use Rattle.source_meaning.specs.Evaluation.{Deferred, Progress, Outcome}
use Rattle.source_meaning.specs.Expressions.{Running, Caller, eval}
use Rattle.source_meaning.specs.Scripts.{Function}
use Rattle.source_laws.specs.Ledger.{Machine, MachineHost, Sim}
use Rattle.source_laws.specs.Kept.{pushed, AreHeld, Site, Kept, spot_at}
use Rattle.source_laws.specs.Fine.{IsFine}

-- how another script is run
abbrev pub Executor : Type 0
Executor = List ℕ → ℕ → Progress → Outcome (List Value)

-- the script that runs at a site
abbrev pub running_at : MachineHost → CellLookup → Executor → Site → Running
running_at host tables execute x =
    record {
      table = host.table;
      tables = tables;
      structs = x.layout.structs;
      script = x.script;
      self = x.self;
      execute = execute;
    }

-- A value of a type is there, and the variables and the world are kept.
abbrev pub HoldsValue : (Saved → Deferred → Type 0) → Site → List ℕ → ℕ → Ty → List Value → Progress
    → Type 0
HoldsValue R x scope size t v p = (value_types v ≡ cell_types x.layout.structs t)
    × Kept R x scope size p.globals p.locals p.world

-- the place behind the code, with the value on top
abbrev pub value_place : (R : Saved → Deferred → Type 0) (x : Site) (scope : List ℕ) (size : ℕ)
    (t : Ty) → ℕ → List Cell → List Cell → List ℕ → List Saved
    → (v : List Value) (p : Progress) → HoldsValue R x scope size t v p → Machine
value_place R x scope size t next temps between calls pending v p h = spot_at R x next
    (pushed v temps) between calls pending h.1

-- what an expression's credits are once it has its value
abbrev pub value_credits : ℕ → List Value → ℕ
value_credits c v = 8 + c

-- The code of an expression, wherever it stands in a script and whatever lies on the stack, does
-- what the expression means: it ends behind itself with the value on top, with at most 16
-- instructions and at least one for each step. So with at most so many steps left.
abbrev pub ExprRuns : MachineHost → (Saved → Deferred → Type 0) → Site → CellLookup → Executor
    → List Function → Caller → ℕ → TypedExpr → Type 0
ExprRuns host R x tables execute functions caller most e =
    (scope : List ℕ) (size n depth place c : ℕ) (p : Progress)
    (kept : Kept R x scope size p.globals p.locals p.world)
    (temps between : List Cell) (calls : List ℕ) (pending : List Saved)
    → IsFine host.table functions x scope e
    → LinesStand x.code x.places place (emit x.layout n depth e) → length temps + size ≡ depth
    → p.left ≤ most → AreHeld temps
    → Sim host R (HoldsValue R x scope size (type_of e))
    (value_place R x scope size (type_of e)
    (place + lines_size (emit x.layout n depth e)) temps between calls pending)
    p.left c (spot_at R x place temps between calls pending kept) (value_credits c)
    (eval (running_at host tables execute x) caller scope e p)
