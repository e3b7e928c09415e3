-- The plan that the text of a play's plan has.
use Rattle.std.specs.Prelude.{◌≤◌, ℕ, ◌*◌, false, List, [], ◌∷◌, map, codes}
use Rattle.std.specs.List.{flat_map}
use Rattle.nwq_value.specs.Limits.{default_instruction_limit}
use Rattle.plan_text.specs.declared.plan.Line.{Line}
use Rattle.plan_text.specs.declared.plan.Line.TheVariants.{Event}
use Rattle.plan_text.specs.declared.plan.Plan.{Plan}
use Rattle.plan_text.specs.Plans.{HasPlan}
use Rattle.play_generator.specs.Made.{number_limit, creatures_of, rounds_of, below, tag_of, play_of}

abbrev pub event : ℕ → ℕ → Line
event round creature = Event (1000 * round) 0 (codes "ScriptHeartbeat") (tag_of creature)

abbrev pub round_events : ℕ → ℕ → List Line
round_events creatures round = map (event round) (below creatures)

-- the plan of so many rounds and creatures: a limit of entries and of time, one script, and an
-- event for each creature in each round
abbrev pub plan_made : ℕ → ℕ → Plan
plan_made rounds creatures = record {
  version = 1;
  limit = default_instruction_limit;
  entries = 1000000;
  until = 4294967295;
  random = [];
  scripts = record { name = codes "beat"; binary = false } ∷ [];
  events = flat_map (round_events creatures) (below rounds);
}

abbrev pub PlanIsRead : Type 0
PlanIsRead = (n : ℕ) → n ≤ number_limit
    → HasPlan (play_of n).plan (plan_made (rounds_of n) (creatures_of n))
