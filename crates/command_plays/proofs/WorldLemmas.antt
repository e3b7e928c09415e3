-- The world of a plan: no state is stored in it, and no line is kept.
use Rattle.std.proofs.Common.{◌≡◌, ◌≤◌, ◌+◌, suc, pos, List, [], ◌∷◌, length, map, refl, sym, ap, ◌∙◌, subst, arith}
use Rattle.std.specs.Prelude.{Result, Ok, Err, IfOk}
use Rattle.nwq_value.specs.Limits.{event_limit}
use Rattle.command_work.specs.declared.status.Status.{Status}
use Rattle.std.specs.List.{AllByRecursion, fold}
use Rattle.area_rules.specs.Area.{PlainArea}
use Rattle.delay_agenda.specs.declared.entry.Kind.TheVariants.{Event}
use Rattle.plan_text.specs.declared.plan.Line.{Line}
use Rattle.plan_text.specs.declared.plan.Plan.{Plan}
use Rattle.plan_text.specs.Plans.{IsPlan}
use Rattle.saved_state.specs.declared.saved.Saved.{Saved}
use Rattle.stack_rules.specs.Fits.{Tables}
use Rattle.machine_rules.specs.Machine.{Script}
use Rattle.world_rules.specs.World.{World}
use Rattle.world_rules.specs.Turns.{Planned, still, with_planned}
use Rattle.ncs_machine.specs.Settings.{CodeSetting, FitIn, scripts_in, tables_in}
use Rattle.ncs_machine.specs.Stored.{StatesFit, ThingsFit, EntryFits}
use Rattle.module_player.specs.declared.played.Played.{Played as Answer}
use Rattle.play_worlds.specs.Worlds.{begun_by, plan_world}
use Rattle.ncs_machine.specs.FitLemmas.{put_fits, idle_fit}
use Rattle.module_player.specs.Premises.{MayPlay}
use Rattle.command_plays.specs.Plays.{KeepsPart}

-- ---- what a plan's events leave as it was

still_quiet : (events : List Planned) (w : World Saved) → (fold with_planned w events).trace ≡ w.trace
still_quiet [] w = refl
still_quiet (e ∷ events) w = still_quiet events (with_planned w e)

still_things : (events : List Planned) (w : World Saved) → (fold with_planned w events).things ≡ w.things
still_things [] w = refl
still_things (e ∷ events) w = still_things events (with_planned w e)

next_number : (events : List Planned) (w : World Saved) → (fold with_planned w events).agenda.next ≡ w.agenda.next + length events
next_number [] w = omega arith
next_number (e ∷ events) w = next_number events (with_planned w e) ∙ omega arith

-- ---- captured states

module _ (scripts : List Script) (tables : Tables) where
  events_fit : (events : List Planned) (w : World Saved) → AllByRecursion (EntryFits scripts tables) w.agenda.entries
      → AllByRecursion (EntryFits scripts tables) (fold with_planned w events).agenda.entries
  events_fit [] w all = all
  events_fit (e ∷ events) w all =
      events_fit events (with_planned w e)
      (put_fits scripts tables (record { due = e.due; number = w.agenda.next; kind = Event e.object e.script (pos 0) }) w.agenda.entries tt all)

  plan_fits : (area : PlainArea) (plan : Plan) → StatesFit scripts tables (plan_world area plan)
  plan_fits area plan = record {
    agenda = events_fit (map (begun_by area) plan.events) (still area plan.random plan.version) tt;
    queues = subst (AllByRecursion (ThingsFit scripts tables)) (sym (still_things (map (begun_by area) plan.events) (still area plan.random plan.version)))
        (idle_fit scripts tables (length area.objects));
  }

-- ---- the world of a plan

length_begun : (area : PlainArea) (lines : List Line) → length (map (begun_by area) lines) ≡ length lines
length_begun area [] = refl
length_begun area (line ∷ lines) = ap suc (length_begun area lines)

module _ (area : PlainArea) (plan : Plan) (kept : IsPlan plan) (w : World Saved) (is : w ≡ plan_world area plan) where
  -- a plan begins few entries
  world_few : w.agenda.next ≤ event_limit
  world_few =
      let next : w.agenda.next ≡ 0 + length (map (begun_by area) plan.events) =
      ap (λ (v : World Saved). v.agenda.next) is ∙ next_number (map (begun_by area) plan.events) (still area plan.random plan.version) in
      omega (arith, next, length_begun area plan.events, kept.few_events)

  pub may_play : (s : CodeSetting) → MayPlay s w
  may_play s = record {
    fit = subst (FitIn s) (sym is) (plan_fits (scripts_in s) (tables_in s) area plan);
    quiet = ap (λ (v : World Saved). v.trace) is ∙ still_quiet (map (begun_by area) plan.events) (still area plan.random plan.version);
    next = let few = world_few in omega (arith, few);
  }

  -- so the first part of its play posts few in all
  pub first_keeps : {A : Type 0} → (told : A → Answer) (after : A → World Saved) (s : CodeSetting) (r : Result A Status)
      → IfOk r (λ a. KeepsPart s w.agenda.next 0 (told a) (after a)) → IfOk r (λ a. KeepsPart s event_limit 0 (told a) (after a))
  first_keeps told after s (Ok a) k = record { fit = k.fit; posted = let few = world_few in let p = k.posted in omega (arith, few, p); executed = k.executed }
  first_keeps told after s (Err status) k = tt
