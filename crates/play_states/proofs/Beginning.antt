-- The first entries of a plan have a state.
use Rattle.std.proofs.Common.{◌<◌, ◌≤◌, ◌+◌, ◌*◌, ◌-◌, ℕ, List, [], ◌∷◌, refl, sym, subst, arith}
use Rattle.std.specs.Prelude.{min, map}
use Rattle.std.specs.List.{AllByRecursion, fold}
use Rattle.std.proofs.Math.Nat.{mul-le-mul_left, mul-le-mul_right}
use Rattle.nwq_value.specs.Limits.{time_limit}
use Rattle.gff_tree.specs.Whole.{PlainGff}
use Rattle.area_rules.specs.Area.{area_of}
use Rattle.area_rules.specs.Laws.{ObjectsAreDistinct}
use Rattle.delay_agenda.specs.declared.entry.Entry.{Entry}
use Rattle.plan_text.specs.Plans.{limits_of}
use Rattle.saved_state.specs.declared.saved.Saved.{Saved}
use Rattle.world_rules.specs.World.{World}
use Rattle.world_rules.specs.Turns.{Planned, still, with_planned}
use Rattle.play_worlds.specs.Worlds.{begun_by, plan_world}
use Rattle.play_worlds.specs.Fresh.{IsFresh, PlanWorldsAreFresh}
use Rattle.play_room.specs.Laws.{PlanWorldsAreKept}
use Rattle.play_save.specs.Rules.{IsAreaOf, count_limit}
use Rattle.play_save.specs.Written.{KeepsObjects}
use Rattle.play_states.specs.Resting.{FirstEntriesHaveStates, PlaysComeToStates, PlaysCountFew}
use Rattle.ncs_machine.specs.FitLemmas.{new_fits}

-- its area is that of its tree
planned_area : (events : List Planned) (w : World Saved) → KeepsObjects w.area → KeepsObjects (fold with_planned w events).area
planned_area [] w is = is
planned_area (e ∷ events) w is = planned_area events (with_planned w e) is

-- nothing is due too late
due_soon : (es : List (Entry Saved)) → AllByRecursion (λ (e : Entry Saved). e.due ≤ time_limit) es → AllByRecursion (λ (e : Entry Saved). e.due < count_limit) es
due_soon [] all = tt
due_soon (e ∷ es) all = (let soon = all.0 in omega (arith, soon), due_soon es all.1)

-- so many times so much is at most the greatest of both
product : (a b most more : ℕ) → a ≤ most → b ≤ more → a * b ≤ most * more
product a b most more x y = let left = mul-le-mul_right b x in let right = mul-le-mul_left most y in omega (arith, left, right)

module _ (distinct : ObjectsAreDistinct) (fresh : PlanWorldsAreFresh) (kept : PlanWorldsAreKept) (come : PlaysComeToStates) (few : PlaysCountFew) where
  pub first_entries_have_states : FirstEntriesHaveStates
  first_entries_have_states cell header scripts listed bytes tree plan n cells table is area blob whole =
      let w : World Saved = plan_world (area_of tree) plan in
      let new : IsFresh (area_of tree) w = fresh (area_of tree) plan is in
      let counts = few cell listed.table scripts (limits_of plan) (min n plan.entries) 0 0 w in
      let most : min n plan.entries - 0 ≤ 1000000 = (let bound = is.entries.1 in omega (arith, bound)) in
      let executed = product (min n plan.entries - 0) plan.limit 1000000 16777216 most (let bound = is.limit.1 in omega (arith, bound)) in
      let posted = product (min n plan.entries - 0) (plan.limit + 2) 1000000 16777218 most (let bound = is.limit.1 in omega (arith, bound)) in
      come cell header scripts listed bytes (limits_of plan) (min n plan.entries) 0 0 w cells table
      (record {
        file = subst (λ (t : PlainGff). IsAreaOf t bytes) (sym new.tree) area;
        blob = blob;
        kept = planned_area (map (begun_by (area_of tree)) plan.events) (still (area_of tree) plan.random plan.version) (record { same = refl; distinct = distinct tree.top area.whole });
        between = new.between;
        version = new.version;
        random = new.random;
        next = (let few = new.next in omega (arith, few));
        due = due_soon w.agenda.entries new.due;
        fit = λ tables meet. new_fits scripts tables (area_of tree) plan.random (map (begun_by (area_of tree)) plan.events) plan.version;
      })
      (kept bytes tree plan blob.1 area.small area.stands is)
      (record { limit = is.limit; entries = is.entries; until = is.until.1 })
      (record { entries = omega arith; clock = (let start = new.clock in omega (arith, start)); instructions = omega arith })
      whole
      (record {
        posts = (let a = counts.1 in let b = new.next in omega (arith, a, b, posted));
        instructions = (let a = counts.0 in omega (arith, a, executed));
      })
