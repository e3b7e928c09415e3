-- What the steps of a run are asked for.
use Rattle.std.specs.Prelude.{◌≡◌, ◌≤◌, ℕ, List, length, Option, None, Some, slice_get, true}
use Rattle.nwq_value.specs.declared.value.Value.{Value}
use Rattle.nwq_value.specs.declared.engine.Routine.{Routine}
use Rattle.saved_state.specs.declared.saved.Saved.{Saved}
use Rattle.stack_shape.specs.Calls.{argument_types, is_callable}
use Rattle.machine_rules.specs.Cells.{value_types}
use Rattle.machine_rules.specs.Frames.{Frame}
use Rattle.machine_rules.specs.Machine.{State, Next, Goes, Ends, Divided}
use Rattle.stack_rules.specs.Laws.{HasType}
use Rattle.world_rules.specs.World.{World}
use Rattle.ncs_machine.specs.Host.{EngineView, engine_answer}
use Rattle.ncs_machine.specs.declared.machine.StepOutcome.{StepOutcome}
use Rattle.ncs_machine.specs.declared.machine.StepOutcome.TheVariants as code

-- the frames of a running entry: the one that runs, and those that wait, the newest first
pub record Frames : Type 0 where
  pub running : Frame
  pub waiting : List Frame

abbrev pub state : Frames → World Saved → State (World Saved)
state m w = record { running = m.running; waiting = m.waiting; world = w }

-- what the code's answer says of a step that leads to this state, if the entry goes on
abbrev pub next_of : StepOutcome → State (World Saved) → Next (World Saved)
next_of code.Goes t = Goes t
next_of code.Enters t = Goes t
next_of code.Ends t = Ends
next_of code.Divides t = Divided

-- A step is taken, and where the entry goes on, BP is a place of the running script's stack.
abbrev pub GoesWell : Option (Next (World Saved)) → Type 0
GoesWell None = ⊥
GoesWell (Some (Goes t)) = t.running.stack.bp ≤ length t.running.stack.cells
GoesWell (Some Ends) = Unit {0}
GoesWell (Some Divided) = Unit {0}

-- the arguments of a call that are values have the types of the routine's parameters
abbrev pub FitArguments : EngineView → ℕ → List Value → Type 0
FitArguments e n values = (r : Routine) → slice_get e.table.routines n ≡ Some r
    → value_types values ≡ argument_types r.params

-- each call of a routine that can be called has an answer of the routine's result type
abbrev pub AnswersTyped : EngineView → Type 0
AnswersTyped e = (n caller : ℕ) (r : Routine) (values : List Value) (action : Option Saved)
    (w : World Saved)
    → slice_get e.table.routines n ≡ Some r → is_callable r ≡ true
    → HasType r.result (engine_answer e n caller values action w).value

-- the world that a step leads to: where the entry ends, the one that was
abbrev pub world_behind : Option (Next (World Saved)) → World Saved → World Saved
world_behind None w = w
world_behind (Some (Goes t)) w = t.world
world_behind (Some Ends) w = w
world_behind (Some Divided) w = w

-- What is left of the world before a step that was cut short: it is as it was, or already as the
-- step's engine call left it.
pub data IsHalfway (before behind v : World Saved) : Type 0 where
  Untouched : v ≡ before → IsHalfway before behind v
  Called : v ≡ behind → IsHalfway before behind v

-- where the entry ends, the world is left as it is
abbrev pub Stays : StepOutcome → World Saved → World Saved → Type 0
Stays code.Goes w v = Unit {0}
Stays code.Enters w v = Unit {0}
Stays code.Ends w v = v ≡ w
Stays code.Divides w v = v ≡ w

-- Where the script goes on, the frames that run before and after a step are of the same one, and run
-- on the same object.
abbrev pub Remains : StepOutcome → ℕ → ℕ → Type 0
Remains code.Goes before after = after ≡ before
Remains code.Enters before after = Unit {0}
Remains code.Ends before after = Unit {0}
Remains code.Divides before after = Unit {0}

-- where a divisor is 0, the frames are left as they are
abbrev pub KeepsFrames : StepOutcome → Frames → Frames → Type 0
KeepsFrames code.Goes before after = Unit {0}
KeepsFrames code.Enters before after = Unit {0}
KeepsFrames code.Ends before after = Unit {0}
KeepsFrames code.Divides before after = after ≡ before
