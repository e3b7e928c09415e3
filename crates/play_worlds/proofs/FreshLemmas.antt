-- The worlds of plans are inside the plans' limits.
use Rattle.std.proofs.Common.{◌≡◌, ◌≤◌, suc, List, [], ◌∷◌, length, map, refl, sym, ap, subst, ◌∙◌}
use Rattle.std.specs.Prelude.{◌⊎◌}
use Rattle.std.specs.List.{AllByRecursion}
use Rattle.nwq_value.specs.Limits.{event_limit, random_limit, time_limit}
use Rattle.area_rules.specs.Area.{PlainArea}
use Rattle.plan_text.specs.declared.plan.Line.{Line}
use Rattle.plan_text.specs.declared.plan.Line.TheVariants.{Event, Start, Free}
use Rattle.plan_text.specs.Plans.{IsLine}
use Rattle.saved_state.specs.declared.saved.Saved.{Saved}
use Rattle.world_rules.specs.Turns.{Planned}
use Rattle.world_rules.specs.Settled.{NewIsBetween, NewIsPlanned}
use Rattle.play_worlds.specs.Worlds.{begun_by}
use Rattle.play_worlds.specs.Fresh.{PlanWorldsAreFresh}
use Rattle.play_worlds.proofs.ObjectLemmas.{all_within}

line_soon : (area : PlainArea) (line : Line) → IsLine line → (begun_by area line).due ≤ time_limit
line_soon area (Event due nth label tag) is = is.0
line_soon area (Start due nth name tag) is = is.0
line_soon area (Free due name) is = is.0

all_soon : (area : PlainArea) (lines : List Line) → AllByRecursion IsLine lines
    → AllByRecursion (λ (p : Planned). p.due ≤ time_limit) (map (begun_by area) lines)
all_soon area [] all = tt
all_soon area (line ∷ lines) all = (line_soon area line all.0, all_soon area lines all.1)

as_many : (area : PlainArea) (lines : List Line) → length (map (begun_by area) lines) ≡ length lines
as_many area [] = refl
as_many area (line ∷ lines) = ap suc (as_many area lines)

pub plan_worlds_are_fresh : NewIsBetween Saved → NewIsPlanned Saved → PlanWorldsAreFresh
plan_worlds_are_fresh between planned area plan is =
    let events = map (begun_by area) plan.events in
    let p = planned area plan.random events plan.version time_limit (all_soon area plan.events is.events) in
    record {
      between = between area plan.random events plan.version (all_within area plan.events);
      clock = p.clock;
      tree = p.tree;
      version = subst (λ n. (n ≡ 1) ⊎ (n ≡ 2)) (sym p.version) is.version;
      random = subst (λ ns. length ns ≤ random_limit) (sym p.random) is.few_randoms;
      next = subst (λ n. n ≤ event_limit) (sym (p.next ∙ as_many area plan.events)) is.few_events;
      due = p.due;
    }
