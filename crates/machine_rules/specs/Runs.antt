-- An entry from its begin to its end, with a limit on its instructions.
use Rattle.std.specs.Prelude.{ℕ, zero, suc, [], Option, None, Some}
use Rattle.saved_state.specs.declared.saved.Saved.{Saved}
use Rattle.machine_rules.specs.Frames.{Frame, started, continued}
use Rattle.machine_rules.specs.Machine.{Host, State, Next, Goes, Ends, Divided, step}

-- how a run ends
pub data Ending : Type 0 where
  -- the entry's last script is over
  Over : Ending
  ZeroDivisor : Ending
  -- the next instruction would be one more than the limit allows
  OutOfInstructions : Ending
  StackFault : Ending

-- A run: how it ended; how many instructions it took in all its scripts, one that divides by 0
-- among them; and the state in which its last instruction stood, or the next one would.
pub record Ran (W : Type 0) : Type 0 where
  pub ending : Ending
  pub count : ℕ
  pub last : State W

abbrev pub one_step_longer : {W : Type 0} → Ran W → Ran W
one_step_longer r = record r { count = suc r.count }

-- what a step and the run from there come to
abbrev pub after_step : {W : Type 0} → Option (Next W) → State W → (State W → Ran W) → Ran W
after_step None s go = record { ending = StackFault; count = 0; last = s }
after_step (Some (Goes t)) s go = one_step_longer (go t)
after_step (Some Ends) s go = record { ending = Over; count = 1; last = s }
after_step (Some Divided) s go = record { ending = ZeroDivisor; count = 1; last = s }

-- at most so many instructions from this state on
abbrev pub run : {W : Type 0} → Host W → ℕ → State W → Ran W
run host zero s = record { ending = OutOfInstructions; count = 0; last = s }
run host (suc limit) s = after_step (step host s) s (run host limit)

-- ---- how an entry begins: with one script, for which none waits

abbrev pub entry : {W : Type 0} → Frame → W → State W
entry f world = record { running = f; waiting = []; world = world }

-- a script from its start, with this object as self
abbrev pub run_script : {W : Type 0} → Host W → ℕ → ℕ → ℕ → W → Ran W
run_script host limit script self world = run host limit (entry (started script self) world)

-- a captured state, with this object as self
abbrev pub run_stored : {W : Type 0} → Host W → ℕ → Saved → ℕ → W → Ran W
run_stored host limit saved self world = run host limit (entry (continued saved self) world)
