-- What a plan of sources plays is what the sources mean.
use Rattle.std.proofs.Common.{◌≡◌, ℕ, List, map, Result, sym, subst, ap, ◌∙◌}
use Rattle.nwq_value.specs.Engine.{EngineTable}
use Rattle.nwq_outside.specs.Outside.{Contents}
use Rattle.area_rules.specs.Area.{PlainArea}
use Rattle.plan_text.specs.declared.plan.Plan.{Plan}
use Rattle.saved_state.specs.declared.saved.Saved.{Saved}
use Rattle.world_rules.specs.Pure.{CellLookup}
use Rattle.world_rules.specs.Trace.{trace_text}
use Rattle.world_rules.specs.Alike.{Alike}
use Rattle.world_rules.specs.declared.data.Line.{Line}
use Rattle.world_rules.specs.Plays.{PlayEnd, Played}
use Rattle.module_player.specs.CodePlays.{code_end_text}
use Rattle.source_meaning.specs.Evaluation.{Deferred}
use Rattle.source_meaning.specs.Scripts.{Listed, Setting}
use Rattle.source_laws.specs.Carries.{Carries}
use Rattle.source_laws.specs.Executing.{script_of}
use Rattle.source_laws.specs.StayAlike.{EntriesKeepAlike}
use Rattle.play_meaning.specs.Together.{PlaysAlike, whole}
use Rattle.play_meaning.specs.EndTexts.{source_end_text}
use Rattle.command_work.specs.declared.status.Status.{Status}
use Rattle.command_work.specs.Work.{Puts, Does, Finished}
use Rattle.play_worlds.specs.Worlds.{begun_by, plan_world}
use Rattle.command_play.specs.Games.{ends_by, tells, plays_plan}
use Rattle.command_meaning.specs.ListedPlays.{ListedPlaysEnd, ListedPlaysStop, ListedTextsAgree}
use Rattle.nwq_top.specs.SourcePlans.{listing_of, source_plan_world, source_plan_played, code_plan_played, tells_source, FewStepsPlayAsMeant, UnstoppedPlansPlayAsMeant, StoppedPlansBeginAsMeant}

module _ (cell : CellLookup) (header : EngineTable) (area : PlainArea) (plan : Plan) (scripts : List Listed) (to : List ℕ)
    (c : Contents) (t : List ℕ) (r : Result Finished Status) (c' : Contents) (t' : List ℕ) where
  plan_told : Does (plays_plan cell header area plan (map script_of scripts) to) c t r c' t'
      → Does (tells to (map script_of scripts) (code_plan_played cell header area plan scripts)) c t r c' t'
  unfolding plays_plan code_plan_played
  plan_told h = h

-- the work of the code's play is that of the source's, where the two are alike
same_work : ListedTextsAgree → (s : Setting) (to : List ℕ) (code : Played Saved) (source : Played Deferred)
    (c : Contents) (t : List ℕ) (r : Result Finished Status) (c' : Contents) (t' : List ℕ) → PlaysAlike (Carries s) code source
    → Does (tells to (map script_of s.scripts) code) c t r c' t' → Does (tells_source to s code.last.count source) c t r c' t'
same_work texts s to code source c t r c' t' alike does =
    let text : code_end_text (map script_of s.scripts) code ≡ source_end_text s code.last.count source = texts s code source alike in
    let area : code.last.world.area ≡ source.last.world.area = ap (λ u. u.area) (sym alike.world.left) ∙ ap (λ u. u.area) alike.world.right in
    subst (λ (lines : List Line). Does (Puts (trace_text lines) (ends_by source.ending to source.last.world.area (source_end_text s code.last.count source))) c t r c' t') alike.trace
    (subst (λ (e : PlayEnd). Does (Puts (trace_text code.last.trace) (ends_by e to source.last.world.area (source_end_text s code.last.count source))) c t r c' t') alike.ending
    (subst (λ (a : PlainArea). Does (Puts (trace_text code.last.trace) (ends_by code.ending to a (source_end_text s code.last.count source))) c t r c' t') area
    (subst (λ (end : List ℕ). Does (Puts (trace_text code.last.trace) (ends_by code.ending to code.last.world.area end)) c t r c' t') text does)))

pub plan_alike : EntriesKeepAlike → (s : Setting) (area : PlainArea) (plan : Plan) → Alike (Carries s) (plan_world area plan) (source_plan_world area plan)
plan_alike keep s area plan = (keep s).new area plan.random (map (begun_by area) plan.events) plan.version

module _ (texts : ListedTextsAgree) (keep : EntriesKeepAlike) where
  pub few_steps_play_as_meant : ListedPlaysEnd → FewStepsPlayAsMeant
  unfolding code_plan_played source_plan_played
  few_steps_play_as_meant ends cell header area plan scripts to c t r c' t' h n large goes =
      let s : Setting = listing_of cell header scripts in
      let alike = ends s h.table h.units n plan.limit (whole plan.entries plan.until) large
      (plan_world area plan) (source_plan_world area plan) (plan_alike keep s area plan) goes in
      record {
        alike = alike;
        does = same_work texts s to (code_plan_played cell header area plan scripts) (source_plan_played cell header area plan scripts n) c t r c' t' alike
            (plan_told cell header area plan scripts to c t r c' t' h.does);
      }

  pub unstopped_plans_play_as_meant : ListedPlaysStop → UnstoppedPlansPlayAsMeant
  unfolding code_plan_played source_plan_played
  unstopped_plans_play_as_meant stops cell header area plan scripts to c t r c' t' h goes =
      let s : Setting = listing_of cell header scripts in
      let so = stops s h.table h.units plan.limit (whole plan.entries plan.until)
      (plan_world area plan) (source_plan_world area plan) (plan_alike keep s area plan) in
      record {
        alike = so.ends goes;
        does = same_work texts s to (code_plan_played cell header area plan scripts) (source_plan_played cell header area plan scripts plan.limit) c t r c' t'
            (so.ends goes) (plan_told cell header area plan scripts to c t r c' t' h.does);
      }

  pub stopped_plans_begin_as_meant : ListedPlaysStop → StoppedPlansBeginAsMeant
  unfolding code_plan_played source_plan_played
  stopped_plans_begin_as_meant stops cell header area plan scripts to c t r c' t' h stopped =
      let s : Setting = listing_of cell header scripts in
      let so = stops s h.table h.units plan.limit (whole plan.entries plan.until)
      (plan_world area plan) (source_plan_world area plan) (plan_alike keep s area plan) in
      let code = code_plan_played cell header area plan scripts in
      record {
        stopped = so.stopped stopped;
        begins = so.told stopped;
        does = subst (λ (e : PlayEnd). Does (Puts (trace_text code.last.trace) (ends_by e to code.last.world.area (code_end_text (map script_of scripts) code))) c t r c' t') stopped
            (plan_told cell header area plan scripts to c t r c' t' h.does);
      }
