-- What the machine has done where an evaluation has come to some point, and what steps and
-- instructions cost each other.
use Rattle.std.specs.Prelude.{◌≡◌, ℕ, ◌+◌, ◌*◌, ◌≤◌, Some}
use Rattle.saved_state.specs.declared.saved.Saved.{Saved}
use Rattle.world_rules.specs.World.{World}
use Rattle.world_rules.specs.Alike.{Alike}
use Rattle.machine_rules.specs.Machine.{Host, State, Divided, step}
use Rattle.machine_rules.specs.Runs.{Ran, run}
use Rattle.source_meaning.specs.Evaluation.{Deferred, Progress, Outcome, Gives, Divides, OutOfSteps}

abbrev pub Machine : Type 0
Machine = State (World Saved)

abbrev pub MachineHost : Type 0
MachineHost = Host (World Saved)

-- a run with so many instructions before it
abbrev pub later : ℕ → Ran (World Saved) → Ran (World Saved)
later n r = record r { count = n + r.count }

-- at most so many instructions stand for a step
abbrev pub step_cost : ℕ
step_cost = 16

-- From a state, where n steps are left and c credits are there, instructions lead to another state,
-- where m and d are. Each step has an instruction of its own; each instruction costs a credit, and
-- each step brings as many as a step may cost.
pub record Took (host : MachineHost) (n c : ℕ) (s : Machine) (m d : ℕ) (t : Machine) : Type 0 where
  pub count : ℕ
  pub goes : (k : ℕ) → run host (count + k) s ≡ later count (run host k t)
  pub spent : m ≤ n
  pub paid : n ≤ m + count
  pub few : count + step_cost * m + d ≤ step_cost * n + c

-- The machine does from a state on what an evaluation comes to, where n steps are left and c
-- credits are there. Where it gives a value, the machine comes to the place that goes with it, with
-- so many credits. Where it divides by zero, the machine does so next, in a script of that object.
-- Where it is out of steps, the machine has made an instruction for each step and still runs.
abbrev pub Sim : {A : Type 0} → MachineHost → (Saved → Deferred → Type 0)
    → (B : A → Progress → Type 0) → ((a : A) (p : Progress) → B a p → Machine)
    → ℕ → ℕ → Machine → (A → ℕ) → Outcome A → Type 0
Sim host R B place n c s d (Gives a p) = (b : B a p) × Took host n c s p.left (d a) (place a p b)
Sim host R B place n c s d (Divides self p) =
    (t : Machine) × Took host n c s p.left 1 t × (step host t ≡ Some Divided)
    × (t.running.self ≡ self) × Alike R t.world p.world
Sim host R B place n c s d (OutOfSteps p) = (t : Machine) × Took host n c s 0 0 t
    × Alike R t.world p.world
