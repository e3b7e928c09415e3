-- That scripts which ExecuteScript runs do what running them means, where each listed script does
-- what its start means.
use Rattle.std.specs.Prelude.{◌≡◌, ℕ, ◌+◌, List, map, length, Option, Some, slice_get}
use Rattle.nwq_value.specs.declared.value.Value.{Value}
use Rattle.ncs_emit.specs.Labelled.{program}
use Rattle.saved_state.specs.declared.saved.Saved.{Saved}
use Rattle.emission_rules.specs.Units.{unit_code}
use Rattle.world_rules.specs.World.{World}
use Rattle.world_rules.specs.Engine.{may_run, no_script, too_deep}
use Rattle.world_rules.specs.Alike.{Alike}
use Rattle.machine_rules.specs.Frames.{Frame}
use Rattle.machine_rules.specs.Frames as frames
use Rattle.machine_rules.specs.Machine.{Script, waiting_limit, step, over}
use Rattle.source_meaning.specs.Evaluation.{Deferred, Progress}
use Rattle.source_meaning.specs.Scripts.{Listed, Setting, Starter, executing, next_starter, listed_started}
use Rattle.source_laws.specs.Ledger.{Machine, MachineHost, Sim}
use Rattle.source_laws.specs.Kept.{Site}
use Rattle.source_laws.specs.Carries.{Carries}
use Rattle.source_laws.specs.Calling.{ExecutesRun}
use Rattle.source_laws.specs.EngineHost.{HasEngine}

-- ---- a machine that has the listed scripts

-- the code of a listed script, under its name
abbrev pub script_of : Listed → Script
script_of l = record { name = l.name; code = program (unit_code l.unit).lines }

-- The machine has the code of the setting's scripts, the setting's header and tables, and the
-- world's own engine, test and lines.
pub record IsHostOf (host : MachineHost) (s : Setting) : Type 0 where
  pub scripts : host.scripts ≡ map script_of s.scripts
  pub table : host.table ≡ s.table
  pub engine : HasEngine host s.tables
  pub tests : (caller target : ℕ) (w : World Saved)
      → host.may_run caller target w ≡ may_run caller target w
  pub unlisted : (target : ℕ) (name : List ℕ) (w : World Saved)
      → host.no_script target name w ≡ no_script target name w
  pub deep : (target : ℕ) (name : List ℕ) (w : World Saved)
      → host.too_deep target name w ≡ too_deep target name w

-- ---- ExecuteScript

-- In any script that runs as an object while these scripts wait for it, scripts that are run do
-- what running them means, where they are started so.
abbrev pub ExecutesIn : Setting → MachineHost → Option Starter → ℕ → List Frame → Type 0
ExecutesIn s host start self waiting =
    (x : Site) → x.self ≡ self → x.waiting ≡ waiting → (most : ℕ)
    → ExecutesRun host (Carries s) x (executing s start self) most

-- ---- the start of a listed script

-- the state in which a script begins, as an object, with scripts that wait for it
abbrev pub start_state : ℕ → ℕ → List Frame → World Saved → Machine
start_state script self waiting w = record {
  running = frames.started script self;
  waiting = waiting;
  world = w;
}

-- The script that runs is over at its next instruction, in a world that is alike, where these
-- scripts wait for it.
pub record IsAtLast (host : MachineHost) (R : Saved → Deferred → Type 0) (waiting : List Frame)
    (v : List Value) (p : Progress) : Type 0 where
  pub state : Machine
  pub ends : step host state ≡ Some (over waiting state)
  pub alike : Alike R state.world p.world

abbrev pub last_state : (host : MachineHost) (R : Saved → Deferred → Type 0) (waiting : List Frame)
    (v : List Value) (p : Progress) → IsAtLast host R waiting v p → Machine
last_state host R waiting v p h = h.state

-- From its first instruction on the code of a listed script does what its start means, up to its
-- last instruction, for which a credit is left: as any object, whatever scripts wait for it, and
-- where scripts that it runs do what running them means.
abbrev pub StartRuns : Setting → MachineHost → ℕ → Listed → Type 0
StartRuns s host script l =
    (start : Option Starter) (self : ℕ) (waiting : List Frame) (p : Progress) (w : World Saved)
    → ExecutesIn s host start self waiting → Alike (Carries s) w p.world
    → Sim host (Carries s) (IsAtLast host (Carries s) waiting) (last_state host (Carries s) waiting)
    p.left 0 (start_state script self waiting w) (λ v. 1)
    (listed_started s (executing s start) script self (Some l) p)

-- so each listed script
abbrev pub StartsDo : Setting → MachineHost → Type 0
StartsDo s host = (script : ℕ) (l : Listed) → slice_get s.scripts script ≡ Some l
    → StartRuns s host script l

-- ---- the law

-- Scripts that are run do what running them means, where as many scripts more may wait as the
-- meaning allows.
abbrev pub ScriptsExecute : Type 0
ScriptsExecute =
    (s : Setting) (host : MachineHost) → IsHostOf host s → StartsDo s host
    → (room self : ℕ) (waiting : List Frame) → length waiting + room ≡ waiting_limit
    → ExecutesIn s host (next_starter s room) self waiting
