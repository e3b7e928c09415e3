-- The worlds of plans, before anything is played.
use Rattle.std.specs.Prelude.{◌≡◌, ◌≤◌, ◌⊎◌, length}
use Rattle.nwq_value.specs.Limits.{event_limit, random_limit, time_limit}
use Rattle.area_rules.specs.Area.{PlainArea}
use Rattle.plan_text.specs.declared.plan.Plan.{Plan}
use Rattle.plan_text.specs.Plans.{IsPlan}
use Rattle.saved_state.specs.declared.saved.Saved.{Saved}
use Rattle.world_rules.specs.World.{World}
use Rattle.world_rules.specs.InPlan.{IsDueBy}
use Rattle.world_rules.specs.Settled.{IsBetween}
use Rattle.play_worlds.specs.Worlds.{plan_world}

-- the world of an area at the beginning of a play: it is between entries, and inside a plan's
-- limits
pub record IsFresh (area : PlainArea) (w : World Saved) : Type 0 where
  pub between : IsBetween w
  pub clock : w.clock ≡ 0
  pub tree : w.area.tree ≡ area.tree
  pub version : (w.version ≡ 1) ⊎ (w.version ≡ 2)
  pub random : length w.random ≤ random_limit
  pub next : w.agenda.next ≤ event_limit
  pub due : IsDueBy time_limit w

abbrev pub PlanWorldsAreFresh : Type 0
PlanWorldsAreFresh = (area : PlainArea) (plan : Plan) → IsPlan plan
    → IsFresh area (plan_world area plan)
