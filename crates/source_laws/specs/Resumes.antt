-- That a captured state, when it goes on, does what the deferred command means that it carries.
use Rattle.std.specs.Prelude.{◌≡◌, ℕ, ◌+◌, List, [], length, Some, slice_get}
use Rattle.nwq_value.specs.declared.value.Value.{Value}
use Rattle.ncs_code.specs.Plain as ops
use Rattle.ncs_code.specs.File.{op_at}
use Rattle.ncs_emit.specs.Labelled.{lines_size}
use Rattle.saved_state.specs.declared.cell.Cell.{Cell}
use Rattle.saved_state.specs.declared.saved.Saved.{Saved}
use Rattle.emission_rules.specs.Layout.{layout_of}
use Rattle.emission_rules.specs.Expressions.{emit}
use Rattle.world_rules.specs.World.{World}
use Rattle.world_rules.specs.Alike.{Alike}
use Rattle.machine_rules.specs.Frames.{continued}
use Rattle.machine_rules.specs.Runs.{entry}
use Rattle.source_meaning.specs.Evaluation.{Deferred, Progress}
use Rattle.source_meaning.specs.Scripts.{Function, Setting, functions, executing, first_starter, call_resumed}
use Rattle.source_laws.specs.Ledger.{Machine, MachineHost, Sim}
use Rattle.source_laws.specs.Kept.{Site, IsListed, at}
use Rattle.source_laws.specs.Carries.{Carries, unit_site}
use Rattle.source_laws.specs.Calling.{EngineRuns, ExecutesRun}
use Rattle.source_laws.specs.FunctionsRun.{IsPlaced}

-- where the command's script runs: as an object, and no script waits for it
abbrev pub resumed_site : {s : Setting} {saved : Saved} {d : Deferred} → Carries s saved d
    → ℕ → Site
resumed_site {d = d} carried self = unit_site d.script carried.listed.unit self []

-- The command is over there, in a world that is alike: the captured cells may still lie on the
-- stack.
pub record IsOver (R : Saved → Deferred → Type 0) (v : List Value) (p : Progress) : Type 0 where
  pub cells : List Cell
  pub world : World Saved
  pub alike : Alike R world p.world

abbrev pub over_place : (R : Saved → Deferred → Type 0) → Site → ℕ → (v : List Value) (p : Progress)
    → IsOver R v p → Machine
over_place R x place v p h = at x place h.cells [] [] h.world

-- behind the code of the command's call
abbrev pub resumed_return : {s : Setting} {saved : Saved} {d : Deferred} → Carries s saved d → ℕ
resumed_return {saved = saved} {d = d} carried = saved.place + lines_size
    (emit (layout_of carried.listed.unit) carried.label (length saved.locals) d.call)

-- A captured state that goes on as any object does what the command means that it carries, up to a
-- RETN that stands behind the command's call, for which a credit is left: there no call is under
-- way, and no state is pending.
abbrev pub ResumedRun : Type 0
ResumedRun =
    (s : Setting) (host : MachineHost) (self : ℕ) (saved : Saved) (d : Deferred)
    (carried : Carries s saved d) (p : Progress) (w : World Saved)
    → host.table ≡ s.table → IsListed host (resumed_site carried self)
    → EngineRuns host (Carries s) s.tables
    → ((most : ℕ) → ExecutesRun host (Carries s) (resumed_site carried self)
    (executing s (first_starter s) self) most)
    → ((f : ℕ) (fn : Function) → slice_get (functions carried.listed.unit.items) f ≡ Some fn
    → IsPlaced host.table (functions carried.listed.unit.items) (resumed_site carried self) f fn)
    → Alike (Carries s) w p.world
    → (op_at (resumed_site carried self).code (resumed_return carried) ≡ Some ops.Retn)
    × Sim host (Carries s) (IsOver (Carries s))
    (over_place (Carries s) (resumed_site carried self) (resumed_return carried)) p.left 0
    (entry (continued saved self) w) (λ v. 1)
    (call_resumed s d self (slice_get s.scripts d.script) p)
