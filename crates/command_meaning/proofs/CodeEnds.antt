-- No play of checked files comes to a stack fault.
use Rattle.std.proofs.Common.{◌≡◌, ◌≢◌, ℕ, zero, suc, Bool, true, false, List, [], ◌∷◌, Option, Some, None, if◌then◌else◌, refl, subst, ◌∙◌}
use Rattle.std.specs.Prelude.{◌==◌}
use Rattle.nwq_value.specs.Engine.{EngineTable}
use Rattle.delay_agenda.specs.declared.entry.Kind.{Kind}
use Rattle.delay_agenda.specs.declared.entry.Kind.TheVariants.{Event, Stored, Turn, Unapply}
use Rattle.saved_state.specs.declared.saved.Saved.{Saved}
use Rattle.machine_rules.specs.Machine.{Script, script_named}
use Rattle.machine_rules.specs.Runs.{Ran, run_script, run_stored}
use Rattle.machine_rules.specs.Runs as runs
use Rattle.stack_rules.specs.Tables.{ShapeTable}
use Rattle.stack_rules.specs.Rules.{MeetsRules}
use Rattle.stack_rules.specs.Fits.{Tables, IsListed, FitsOne, FitsAction}
use Rattle.stack_rules.specs.Laws.{AllMeet, IsReached, Unchanged, ByCall, ByMissing, ByDepth, IsWellStackedHost, ScriptsAreSound, StatesAreSound, TablesTypeExecuteScript}
use Rattle.world_rules.specs.World.{World}
use Rattle.world_rules.specs.Turns.{Begun, begin, turn, turn_done, fault, new_world}
use Rattle.world_rules.specs.Plays.{StoppedInside, Bounds, Progress, Played, Run, Entered, entry_entered, entered_as, event_entry, turn_entry, named_entry, finished, finished_as, further, full}
use Rattle.world_rules.specs.Plays.{after_entry, next_entry, plays, unplayed}
use Rattle.world_core.specs.Answers.{AnswersHaveTypes}
use Rattle.ncs_machine.specs.Host.{EngineView, host, no_table}
use Rattle.ncs_machine.specs.Stored.{StatesFit, KindFits, BegunFits, EngineKeepsFits, LinesKeepFits, BeginKeepsFits, TurnKeepsFits, TurnDoneKeepsFits, UnapplyKeepsFits}
use Rattle.module_player.specs.CodePlays.{code_runner, ending_of, run_of}
use Rattle.command_meaning.specs.CodeEnds.{CodeEnd, Ends, named_ending, event_ending, turn_ending, kind_ending, entry_ending, ends_after, next_ends, code_ends, AreStacked, CheckedPlaysGoOn}
use Rattle.command_meaning.specs.CodeEnds.{CheckedPlaysHaveNoFault}
use Rattle.ncs_machine.specs.HostLemmas.{host_is_sound, named_listed}
use Rattle.ncs_machine.specs.FitLemmas.{new_fits}

-- ---- a table of shapes for each script

abbrev table_of : (header : EngineTable) (scripts : List Script) → AreStacked header scripts → ℕ → ShapeTable
table_of header [] h number = no_table
table_of header (s ∷ scripts) h zero = h.0.0
table_of header (s ∷ scripts) h (suc number) = table_of header scripts h.1 number

all_meet : (header : EngineTable) (scripts : List Script) (h : AreStacked header scripts) → AllMeet header scripts (table_of header scripts h)
all_meet header [] h number script is = absurd cc
all_meet header (s ∷ scripts) h zero script is =
    let same : s ≡ script = cc in subst (λ (x : Script). MeetsRules header x.code h.0.0) same h.0.1
all_meet header (s ∷ scripts) h (suc number) script is = all_meet header scripts h.1 number script is

-- ---- entries

-- what is left of a play where an entry was stopped or not
abbrev by_stop : Bool → CodeEnd → CodeEnd
by_stop true rest = Ends StoppedInside
by_stop false rest = rest

module _ (scripts : List Script) (tables : Tables) (e : EngineView) (sound : (first : World Saved) → IsWellStackedHost (host scripts e) tables first)
    (run_sound : ScriptsAreSound (World Saved)) (stored_sound : StatesAreSound (World Saved)) (engine : EngineKeepsFits) (lines : LinesKeepFits)
    (begins : BeginKeepsFits) (turns : TurnKeepsFits) (turns_done : TurnDoneKeepsFits) (unapplies : UnapplyKeepsFits) (limit : ℕ) where
  abbrev Fit : World Saved → Type 0
  Fit w = StatesFit scripts tables w

  reached_fits : (first w : World Saved) → IsReached (host scripts e) tables first w → Fit first → Fit w
  unfolding host
  reached_fits first w Unchanged f = f
  reached_fits first w (ByCall number caller r values action world listed callable types fits before) f =
      engine scripts tables e number caller values action world fits (reached_fits first world before f)
  reached_fits first w (ByMissing target name world before) f = lines.no_script scripts tables target name world (reached_fits first world before f)
  reached_fits first w (ByDepth target name world before) f =
      let g = reached_fits first world before f in record { agenda = g.agenda; queues = g.queues }

  -- a run comes to no fault, and leaves all states fitting
  record RunsWell (r : Ran (World Saved)) : Type 0 where
    pub no_fault : r.ending ≢ runs.StackFault
    pub fits : Fit r.last.world

  script_runs : (script o : ℕ) (w : World Saved) → IsListed scripts script → Fit w → RunsWell (run_script (host scripts e) limit script o w)
  unfolding host
  script_runs script o w listed f =
      let s = run_sound (host scripts e) tables w limit script o w (sound w) listed Unchanged in
      record { no_fault = s.no_fault; fits = reached_fits w (run_script (host scripts e) limit script o w).last.world s.world f }

  stored_runs : (saved : Saved) (o : ℕ) (w : World Saved) → FitsOne scripts tables saved → Fit w → RunsWell (run_stored (host scripts e) limit saved o w)
  unfolding host
  stored_runs saved o w fits f =
      let s = stored_sound (host scripts e) tables w limit saved o w (sound w) fits Unchanged in
      record { no_fault = s.no_fault; fits = reached_fits w (run_stored (host scripts e) limit saved o w).last.world s.world f }

  -- an entry is stopped as its scripts are, and leaves all states fitting
  record GoesWell (ending : runs.Ending) (x : Entered Saved) : Type 0 where
    pub goes : (rest : CodeEnd) → ends_after ending rest ≡ by_stop x.stopped rest
    pub fits : Fit x.world

  finished_goes : (ending : runs.Ending) (self : ℕ) (rest : World Saved → World Saved) (r : Run Saved) → ending ≢ runs.StackFault → Fit r.world
      → ((w : World Saved) → Fit w → Fit (rest w)) → GoesWell ending (finished_as (ending_of ending self) rest r)
  finished_goes runs.Over self rest r no_fault f keeps = record { goes = λ go. refl; fits = keeps r.world f }
  finished_goes runs.ZeroDivisor self rest r no_fault f keeps =
      record { goes = λ go. refl; fits = keeps (fault self r.world) (lines.fault scripts tables self r.world f) }
  finished_goes runs.OutOfInstructions self rest r no_fault f keeps = record { goes = λ go. refl; fits = f }
  finished_goes runs.StackFault self rest r no_fault f keeps = absurd (no_fault refl)

  ran_goes : (r : Ran (World Saved)) → RunsWell r → (rest : World Saved → World Saved) → ((w : World Saved) → Fit w → Fit (rest w)) → GoesWell r.ending (finished rest (run_of r))
  ran_goes r well rest keeps = finished_goes r.ending r.last.running.self rest (run_of r) well.no_fault well.fits keeps

  named_goes : (o : ℕ) (name : List ℕ) (found : Option ℕ) → script_named scripts name ≡ found → (w : World Saved) → Fit w
      → GoesWell (named_ending (host scripts e) limit o found w) (named_entry (code_runner (host scripts e) limit) o name found w)
  unfolding code_runner
  named_goes o name None is w f = record { goes = λ go. refl; fits = lines.no_script scripts tables o name w f }
  named_goes o name (Some script) is w f =
      ran_goes (run_script (host scripts e) limit script o w) (script_runs script o w (named_listed scripts name script is) f) (λ v. v) (λ v h. h)

  event_goes : (o : ℕ) (name : List ℕ) (w : World Saved) → Fit w
      → GoesWell (event_ending (host scripts e) limit o name w) (event_entry (code_runner (host scripts e) limit) o name w)
  unfolding code_runner host
  event_goes o [] w f = record { goes = λ go. refl; fits = f }
  event_goes o (b ∷ name) w f = named_goes o (b ∷ name) (script_named scripts (b ∷ name)) refl w f

  turn_goes : (o : ℕ) (action : Option Saved) (w : World Saved) → FitsAction scripts tables action → Fit w
      → GoesWell (turn_ending (host scripts e) limit o action w) (turn_entry (code_runner (host scripts e) limit) o action w)
  unfolding code_runner
  turn_goes o None w fits f = record { goes = λ go. refl; fits = f }
  turn_goes o (Some saved) w fits f =
      ran_goes (run_stored (host scripts e) limit saved o w) (stored_runs saved o w fits f) (turn_done o) (λ v h. turns_done scripts tables o v h)

  kind_goes : (k : Kind Saved) (number : ℕ) (w : World Saved) → KindFits scripts tables k → Fit w
      → GoesWell (kind_ending (host scripts e) limit k w) (entered_as (code_runner (host scripts e) limit) k number w)
  unfolding code_runner
  kind_goes (Event o name user) number w fits f = event_goes o name w f
  kind_goes (Stored o saved) number w fits f =
      ran_goes (run_stored (host scripts e) limit saved o w) (stored_runs saved o w fits f) (λ v. v) (λ v h. h)
  kind_goes (Turn o) number w fits f =
      let t = turns scripts tables o w f in turn_goes o (turn o w).action (turn o w).world t.action t.world
  kind_goes (Unapply o) number w fits f = record { goes = λ go. refl; fits = unapplies scripts tables o number w f }

  -- ---- plays

  module _ (bounds : Bounds) where
    abbrev EndSame : (Progress Saved → CodeEnd) → (Progress Saved → Played Saved) → Type 0
    EndSame go on = (p : Progress Saved) → Fit p.world → go p ≡ Ends (on p).ending

    after_same : (go : Progress Saved → CodeEnd) (on : Progress Saved → Played Saved) → EndSame go on → (x : Entered Saved) → Fit x.world → (p : Progress Saved) (stopped : Bool)
        → by_stop stopped (go (further x p)) ≡ Ends (after_entry stopped (further x p) on).ending
    after_same go on rest x f p true = refl
    after_same go on rest x f p false = rest (further x p) (lines.drained scripts tables x.world f)

    next_same : (go : Progress Saved → CodeEnd) (on : Progress Saved → Played Saved) → EndSame go on → (b : Option (Begun Saved)) → BegunFits scripts tables b → (p : Progress Saved)
        → next_ends (host scripts e) limit b p go ≡ Ends (next_entry (code_runner (host scripts e) limit) b p on).ending
    next_same go on rest None fits p = refl
    next_same go on rest (Some b) fits p =
        let x = entry_entered (code_runner (host scripts e) limit) b in
        let well : GoesWell (entry_ending (host scripts e) limit b) x = kind_goes b.entry.kind b.entry.number b.world fits.0 fits.1 in
        well.goes (go (further x p)) ∙ after_same go on rest x well.fits p x.stopped

    turn_same : (go : Progress Saved → CodeEnd) (on : Progress Saved → Played Saved) → EndSame go on → (is_full : Bool) (b : Option (Begun Saved)) → BegunFits scripts tables b → (p : Progress Saved)
        → (if is_full then Ends (full b) else next_ends (host scripts e) limit b p go)
        ≡ Ends (if is_full then record { ending = full b; last = p } else next_entry (code_runner (host scripts e) limit) b p on).ending
    turn_same go on rest true b fits p = refl
    turn_same go on rest false b fits p = next_same go on rest b fits p

    plays_same : (left : ℕ) → EndSame (code_ends (host scripts e) limit bounds left) (plays (code_runner (host scripts e) limit) bounds left)
    plays_same zero p f = refl
    plays_same (suc left) p f =
        turn_same (code_ends (host scripts e) limit bounds left) (plays (code_runner (host scripts e) limit) bounds left) (plays_same left)
        (p.entries == bounds.entries) (begin bounds.until p.world) (begins scripts tables bounds.until p.world f) p

pub checked_plays_go_on : ScriptsAreSound (World Saved) → StatesAreSound (World Saved) → EngineKeepsFits → LinesKeepFits → BeginKeepsFits → TurnKeepsFits → TurnDoneKeepsFits → UnapplyKeepsFits
    → TablesTypeExecuteScript → AnswersHaveTypes Saved → CheckedPlaysGoOn
checked_plays_go_on run_sound stored_sound engine lines begins turns turns_done unapplies types answers cell header scripts tables limit bounds p table meet fit =
    let e : EngineView = record { table = header; cell = cell } in
    plays_same scripts tables e (λ first. host_is_sound scripts tables e first types answers table meet)
    run_sound stored_sound engine lines begins turns turns_done unapplies limit bounds _ p fit

pub checked_plays_have_no_fault : CheckedPlaysGoOn → CheckedPlaysHaveNoFault
checked_plays_have_no_fault go_on cell header scripts limit bounds area random events version table stacked =
    let tables = table_of header scripts stacked in
    go_on cell header scripts tables limit bounds (unplayed (new_world area random events version)) table (all_meet header scripts stacked)
    (new_fits scripts tables area random events version)
