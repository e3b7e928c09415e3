-- The worlds in which plays begin: the objects of a plan's events are there, and a world is the one
-- that its events, area and numbers make.
use Rattle.std.proofs.Common.{◌≡◌, ◌≤◌, ℕ, List, [], ◌∷◌, length, map, sym, ap, ◌∙◌, subst}
use Rattle.std.specs.List.{AllByRecursion}
use Rattle.area_rules.specs.Area.{PlainArea, empty_area}
use Rattle.plan_text.specs.declared.plan.Line.{Line}
use Rattle.plan_text.specs.declared.plan.Plan.{Plan}
use Rattle.saved_state.specs.declared.saved.Saved.{Saved}
use Rattle.world_rules.specs.World.{World}
use Rattle.world_rules.specs.Turns.{Planned, new_world}
use Rattle.play_worlds.specs.Worlds.{start_of, first_world, begun_by, plan_world}
use Rattle.play_worlds.proofs.ObjectLemmas.{all_within}

pub first_is : (name random : List ℕ) (area : PlainArea) (events : List Planned) (w : World Saved) → area ≡ empty_area → random ≡ [] → events ≡ start_of name ∷ []
    → w ≡ new_world area random events 2 → w ≡ first_world name
first_is name random area events w empty no_random one is =
    is ∙ ap (λ es. new_world area random es 2) one ∙ ap (λ xs. new_world area xs (start_of name ∷ []) 2) no_random
    ∙ ap (λ a. new_world a [] (start_of name ∷ []) 2) empty

pub events_within : (area : PlainArea) (lines : List Line) (events : List Planned) → events ≡ map (begun_by area) lines
    → AllByRecursion (λ p. p.object ≤ length area.objects) events
events_within area lines events is = subst (AllByRecursion (λ p. p.object ≤ length area.objects)) (sym is) (all_within area lines)

pub world_is : (area : PlainArea) (plan : Plan) (events : List Planned) (w : World Saved) → events ≡ map (begun_by area) plan.events
    → w ≡ new_world area plan.random events plan.version → w ≡ plan_world area plan
world_is area plan events w same is = is ∙ ap (λ es. new_world area plan.random es plan.version) same
