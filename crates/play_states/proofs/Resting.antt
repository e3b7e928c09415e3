-- Plays of files come to worlds that rest, of which there is a state.
use Rattle.std.proofs.Common.{◌≡◌, ◌<◌, ◌≤◌, ◌-◌, ℕ, List, [], ◌∷◌, sym, subst, arith}
use Rattle.std.specs.Prelude.{◌⊎◌}
use Rattle.std.specs.List.{AllByRecursion}
use Rattle.nwq_value.specs.Limits.{random_limit}
use Rattle.gff_tree.specs.Whole.{PlainGff}
use Rattle.local_variables.specs.Laws.{PutKeepsDistinct, FilterKeepsDistinct}
use Rattle.delay_agenda.specs.declared.entry.Entry.{Entry}
use Rattle.saved_state.specs.declared.saved.Saved.{Saved}
use Rattle.machine_rules.specs.Machine.{Script}
use Rattle.stack_rules.specs.Fits.{Tables}
use Rattle.stack_rules.specs.Laws.{AllMeet, ScriptsAreSound, StatesAreSound, TablesTypeExecuteScript}
use Rattle.world_rules.specs.World.{World}
use Rattle.world_rules.specs.Plays.{Bounds, Progress, Played}
use Rattle.world_rules.specs.Settled.{HasSettled, KeepsToEngine, PlaysSettle}
use Rattle.world_core.specs.Answers.{AnswersHaveTypes}
use Rattle.ncs_machine.specs.declared.scripts.Begin.TheVariants.{Start, Stored}
use Rattle.ncs_machine.specs.Host.{EngineView, host}
use Rattle.ncs_machine.specs.Leading.{RunsLead}
use Rattle.ncs_machine.specs.Stored.{EngineKeepsFits, LinesKeepFits, BeginKeepsFits, TurnKeepsFits, TurnDoneKeepsFits, UnapplyKeepsFits}
use Rattle.module_player.specs.CodePlays.{code_runner, played_before}
use Rattle.play_room.specs.Laws.{KeptHasRoom, PlaysKeepValues}
use Rattle.play_save.specs.Rules.{IsAreaOf, count_limit}
use Rattle.play_save.specs.TableLemmas.{chosen, chosen_meet}
use Rattle.play_save.specs.Written.{PlaysHaveStates}
use Rattle.play_states.specs.Resting.{play_from, PlaysRest, PlaysComeToStates}
use Rattle.ncs_machine.specs.HostLemmas.{host_is_sound}
use Rattle.play_states.proofs.Keeping.{KeepsFit, plays_kept}

-- ---- however the machine runs scripts of files, it keeps to the engine

code_keeps : RunsLead → (scripts : List Script) (e : EngineView) (limit : ℕ) → KeepsToEngine (code_runner (host scripts e) limit)
unfolding code_runner
code_keeps lead scripts e limit = record {
  script = λ script self w h most. lead scripts e limit script Start self w h most;
  stored = λ saved self w h most. lead scripts e limit 0 (Stored saved) self w h most;
}

-- ---- nothing is due too late

due_by : (es : List (Entry Saved)) → AllByRecursion (λ (e : Entry Saved). e.due < count_limit) es → AllByRecursion (λ (e : Entry Saved). e.due ≤ 2305843009213693951) es
due_by [] all = tt
due_by (e ∷ es) all = (let soon = all.0 in omega (arith, soon), due_by es all.1)

due_early : (es : List (Entry Saved)) → AllByRecursion (λ (e : Entry Saved). e.due ≤ 2305843009213693951) es → AllByRecursion (λ (e : Entry Saved). e.due < count_limit) es
due_early [] all = tt
due_early (e ∷ es) all = (let soon = all.0 in omega (arith, soon), due_early es all.1)

-- ---- the world at the end of a play

module _ (settle : PlaysSettle Saved) (lead : RunsLead) (puts : PutKeepsDistinct) (filters : FilterKeepsDistinct) (run_sound : ScriptsAreSound (World Saved))
    (stored_sound : StatesAreSound (World Saved)) (engine : EngineKeepsFits) (lines : LinesKeepFits) (begins : BeginKeepsFits) (turns : TurnKeepsFits)
    (turns_done : TurnDoneKeepsFits) (unapplies : UnapplyKeepsFits) (types : TablesTypeExecuteScript) (answers : AnswersHaveTypes Saved) where
  pub plays_rest : PlaysRest
  plays_rest cell header scripts listed area limits stop taken done w table rests limited counted whole few =
      let e : EngineView = record { table = listed.table; cell = cell } in
      let bounds : Bounds = record { entries = limits.1; until = limits.2; stop = stop } in
      let p : Progress Saved = played_before taken done w in
      let q : Played Saved = play_from cell listed.table scripts limits stop taken done w in
      let h : HasSettled bounds (stop - taken) p q =
      settle (code_runner (host scripts e) limits.0) bounds (stop - taken) p (code_keeps lead scripts e limits.0) rests.between in
      let kept : (tables : Tables) → AllMeet listed.table scripts tables
      → KeepsFit scripts tables q.last.world =
      λ tables meet. plays_kept puts filters scripts tables e (λ first. host_is_sound scripts tables e first types answers table meet) run_sound stored_sound engine lines
      begins turns turns_done unapplies limits.0 bounds (stop - taken) p (record { fits = rests.fit tables meet; area = rests.kept }) in (
        record {
          file = subst (λ (t : PlainGff). IsAreaOf t area) (sym h.plan.tree) rests.file;
          blob = rests.blob;
          kept = (kept (chosen listed.table scripts listed.stacked) (chosen_meet listed.table scripts listed.stacked)).area;
          between = h.between whole;
          version = subst (λ n. (n ≡ 1) ⊎ (n ≡ 2)) (sym h.plan.version) rests.version;
          random = h.plan.random random_limit rests.random;
          next = few.posts;
          due = due_early q.last.world.agenda.entries
              (h.plan.due counted.clock 2305843009213693951 (let early = limited.until in omega (arith, early)) (due_by w.agenda.entries rests.due));
          fit = λ tables meet. (kept tables meet).fits;
        },
        record { entries = h.entries counted.entries; clock = h.plan.clock counted.clock; instructions = few.instructions },
      )

  pub plays_come_to_states : PlaysKeepValues → KeptHasRoom → PlaysHaveStates → PlaysComeToStates
  plays_come_to_states keep rooms have cell header scripts listed area limits stop taken done w cells table rests values limited counted whole few =
      let end = plays_rest cell header scripts listed area limits stop taken done w table rests limited counted whole few in
      let kept = keep cell listed.table scripts limits.0 limits.1 limits.2 stop taken done w cells table listed.code listed.few values in
      have header scripts area limits (play_from cell listed.table scripts limits stop taken done w).last.entries (play_from cell listed.table scripts limits stop taken done w).last.count
      (play_from cell listed.table scripts limits stop taken done w).last.world listed end.0 limited end.1
      (rooms (play_from cell listed.table scripts limits stop taken done w).last.world kept (let posts = end.0.next in omega (arith, posts)))
