-- What a play of source texts comes to: the play of `world_rules`, with entries that are evaluated.
use Rattle.std.specs.Prelude.{ℕ, ◌-◌, List}
use Rattle.nwq_value.specs.declared.value.Value.{Value}
use Rattle.world_rules.specs.World.{World}
use Rattle.world_rules.specs.Plays.{Over, Divided, Stopped, Run, Runner, Played, play}
use Rattle.source_meaning.specs.Evaluation.{Deferred, Outcome, Gives, Divides, OutOfSteps}
use Rattle.source_meaning.specs.Scripts.{Setting, script_named, run_script, run_deferred}

-- what an entry comes to that may take n steps; what is counted are its steps
abbrev pub run_of : ℕ → Outcome (List Value) → Run Deferred
run_of n (Gives parts p) = record { ending = Over; count = n - p.left; world = p.world }
run_of n (Divides self p) = record { ending = Divided self; count = n - p.left; world = p.world }
run_of n (OutOfSteps p) = record { ending = Stopped; count = n; world = p.world }

-- how scripts run that may take n steps in an entry
abbrev pub runner : Setting → ℕ → Runner Deferred
runner s n = record {
  named = script_named s.scripts;
  script = λ script self world. run_of n (run_script s n script self world);
  stored = λ d self world. run_of n (run_deferred s n d self world);
}

-- the play of source texts from a world on: at most n steps in an entry, so many entries, and those
-- that are due by this time
abbrev pub source_play : Setting → ℕ → ℕ → ℕ → World Deferred → Played Deferred
source_play s n entries until world = play (runner s n) entries until world
