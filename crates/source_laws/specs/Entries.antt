-- That the run of an entry does what the entry means, and what steps and instructions cost each
-- other.
use Rattle.std.specs.Prelude.{◌≡◌, ◌≤◌, ℕ, ◌+◌, ◌*◌, List, [], Some, slice_get}
use Rattle.nwq_value.specs.declared.value.Value.{Value}
use Rattle.saved_state.specs.declared.saved.Saved.{Saved}
use Rattle.world_rules.specs.World.{World}
use Rattle.world_rules.specs.Alike.{Alike}
use Rattle.machine_rules.specs.Frames.{started, continued}
use Rattle.machine_rules.specs.Machine as machine
use Rattle.machine_rules.specs.Runs.{Ending, Over, ZeroDivisor, run, entry}
use Rattle.source_meaning.specs.Evaluation.{Deferred, Progress, Outcome, Gives, Divides, OutOfSteps}
use Rattle.source_meaning.specs.Scripts.{Listed, Setting, script_named, first_starter, call_resumed, run_script, run_deferred}
use Rattle.source_laws.specs.Ledger.{Machine, MachineHost, later, step_cost, Sim}
use Rattle.source_laws.specs.Carries.{Carries}
use Rattle.source_laws.specs.Executing.{IsHostOf, ExecutesIn, IsAtLast, last_state, StartsDo}

-- ---- a state that goes on

-- A captured state that carries a call does, once it goes on, what the call means, up to its last
-- instruction, for which a credit is left.
abbrev pub ResumesDo : Setting → MachineHost → Type 0
ResumesDo s host =
    (c : Saved) (d : Deferred) (l : Listed) (self : ℕ) (p : Progress) (w : World Saved)
    → Carries s c d → slice_get s.scripts d.script ≡ Some l
    → ExecutesIn s host (first_starter s) self [] → Alike (Carries s) w p.world
    → Sim host (Carries s) (IsAtLast host (Carries s) []) (last_state host (Carries s) [])
    p.left 0 (entry (continued c self) w) (λ v. 1) (call_resumed s d self (Some l) p)

-- ---- an entry

-- The run from a state ends so after some instructions, in a world that is alike: at least one and
-- at most 16 instructions stand for each of the steps, of which there were n.
pub record EndsAs (host : MachineHost) (R : Saved → Deferred → Type 0) (n : ℕ) (ending : Ending)
    (m : Machine) (p : Progress) : Type 0 where
  pub count : ℕ
  pub last : Machine
  pub is : (more : ℕ) → run host (count + more) m
      ≡ record { ending = ending; count = count; last = last }
  pub alike : Alike R last.world p.world
  pub spent : p.left ≤ n
  pub paid : n ≤ p.left + count
  pub few : count + step_cost * p.left ≤ step_cost * n

-- The run from a state comes to another one, in a world that is alike, and goes on there: with an
-- instruction made for each of the n steps.
pub record StillRuns (host : MachineHost) (R : Saved → Deferred → Type 0) (n : ℕ) (m : Machine)
    (p : Progress) : Type 0 where
  pub count : ℕ
  pub state : Machine
  pub is : (more : ℕ) → run host (count + more) m ≡ later count (run host more state)
  pub alike : Alike R state.world p.world
  pub paid : n ≤ count
  pub few : count ≤ step_cost * n

-- What the run of an entry comes to by what the entry means that may take n steps. Where that ends,
-- the run ends, and by the same object's division; where one step more is wanted, the run has made
-- an instruction for each step and goes on.
abbrev pub EntryRuns : MachineHost → (Saved → Deferred → Type 0) → ℕ → Machine
    → Outcome (List Value) → Type 0
EntryRuns host R n m (Gives v p) = EndsAs host R n Over m p
EntryRuns host R n m (Divides self p) = (e : EndsAs host R n ZeroDivisor m p)
    × (e.last.running.self ≡ self)
EntryRuns host R n m (OutOfSteps p) = StillRuns host R n m p

-- Machine and meaning know the scripts by the same names. Each entry runs so: one that starts a
-- listed script, and one that runs a state that carries a deferred call.
pub record EntriesRun (s : Setting) (host : MachineHost) : Type 0 where
  pub named : (name : List ℕ) → machine.script_named host.scripts name ≡ script_named s.scripts name
  pub listed : (name : List ℕ) (script : ℕ) → script_named s.scripts name ≡ Some script
      → (l : Listed) × (slice_get s.scripts script ≡ Some l)
  pub starts : (n script self : ℕ) (l : Listed) (w : World Saved) (v : World Deferred)
      → slice_get s.scripts script ≡ Some l → Alike (Carries s) w v
      → EntryRuns host (Carries s) n (entry (started script self) w) (run_script s n script self v)
  pub resumes : (n self : ℕ) (c : Saved) (d : Deferred) (w : World Saved) (v : World Deferred)
      → Carries s c d → Alike (Carries s) w v
      → EntryRuns host (Carries s) n (entry (continued c self) w) (run_deferred s n d self v)

abbrev pub EntriesDo : Type 0
EntriesDo = (s : Setting) (host : MachineHost) → IsHostOf host s → StartsDo s host
    → ResumesDo s host → EntriesRun s host
