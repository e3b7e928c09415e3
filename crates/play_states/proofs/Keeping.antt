-- What every play keeps: its area is one, and each captured state fits.
use Rattle.std.proofs.Common.{◌≡◌, ℕ, zero, suc, Bool, true, false, List, [], ◌∷◌, Option, Some, None, refl}
use Rattle.std.specs.Prelude.{◌==◌, nat_le, if◌then◌else◌}
use Rattle.std.specs.List.{find}
use Rattle.local_variables.specs.Laws.{PutKeepsDistinct, FilterKeepsDistinct}
use Rattle.play_save.specs.Written.{KeepsObjects}
use Rattle.action_queue.specs.declared.queue.Item.{Item}
use Rattle.action_queue.specs.declared.queue.Item.TheVariants.{Do, Wait, Speak}
use Rattle.delay_agenda.specs.declared.entry.Entry.{Entry}
use Rattle.delay_agenda.specs.declared.entry.Kind.{Kind}
use Rattle.delay_agenda.specs.declared.entry.Kind.TheVariants.{Event, Stored, Turn, Unapply}
use Rattle.saved_state.specs.declared.saved.Saved.{Saved}
use Rattle.machine_rules.specs.Machine.{Script, script_named}
use Rattle.machine_rules.specs.Runs.{run_script, run_stored}
use Rattle.stack_rules.specs.Fits.{Tables, IsListed, FitsOne, FitsAction}
use Rattle.stack_rules.specs.Laws.{IsReached, Unchanged, ByCall, ByMissing, ByDepth, IsWellStackedHost, ScriptsAreSound, StatesAreSound}
use Rattle.world_rules.specs.declared.data.Stood.{Stood}
use Rattle.world_rules.specs.World.{World, queue_of, effects_of}
use Rattle.world_rules.specs.Changes.{is_numbered}
use Rattle.world_rules.specs.AlikeLaws.{call}
use Rattle.world_rules.specs.Turns.{Begun, begin, entry_begun, turn, turned, turn_done, next_turn, expired, fault}
use Rattle.world_rules.specs.Plays as plays
use Rattle.world_rules.specs.Plays.{Ending, Over, Divided, Stopped, Bounds, Progress, Played, Run, Entered, entry_entered, entered_as, event_entry, turn_entry, named_entry, finished_as, further}
use Rattle.world_rules.specs.Plays.{after_entry, next_entry, full}
use Rattle.ncs_machine.specs.Host.{EngineView, host}
use Rattle.ncs_machine.specs.Stored.{StatesFit, KindFits, BegunFits, EngineKeepsFits, LinesKeepFits, BeginKeepsFits, TurnKeepsFits, TurnDoneKeepsFits, UnapplyKeepsFits}
use Rattle.module_player.specs.CodePlays.{code_runner, run_of}
use Rattle.play_states.proofs.Calls.{engine_leaves}
use Rattle.ncs_machine.specs.HostLemmas.{named_listed}

-- ---- what entries do leaves the area as it is

abbrev SameArea : World Saved → World Saved → Type 0
SameArea w v = KeepsObjects w.area → KeepsObjects v.area

abbrev BegunSame : World Saved → Option (Begun Saved) → Type 0
BegunSame w None = Unit {0}
BegunSame w (Some b) = SameArea w b.world

begun_by : (w : World Saved) (b : Bool) (x : Begun Saved) → SameArea w x.world → BegunSame w (if b then Some x else None)
begun_by w true x same = same
begun_by w false x same = tt

begun_same : (until : ℕ) (es : List (Entry Saved)) (w : World Saved) → BegunSame w (entry_begun until es w)
begun_same until [] w = tt
begun_same until (e ∷ rest) w = begun_by w (nat_le e.due until) _ (λ is. is)

done_same : (o : ℕ) (items : List (Item Saved)) (w : World Saved) → SameArea w (next_turn o items w)
done_same o [] w is = is
done_same o (item ∷ rest) w is = is

turned_same : (o : ℕ) (items : List (Item Saved)) (w : World Saved) → SameArea w (turned o items w).world
turned_same o [] w is = is
turned_same o (Do x ∷ rest) w is = is
turned_same o (Wait ms ∷ rest) w is = is
turned_same o (Speak bytes ∷ rest) w is = done_same o _ _ is

expired_same : (o number : ℕ) (s : Option Stood) (w : World Saved) → SameArea w (expired o number s w)
expired_same o number None w is = is
expired_same o number (Some s) w is = is

-- ---- entries

pub record KeepsFit (scripts : List Script) (tables : Tables) (w : World Saved) : Type 0 where
  pub fits : StatesFit scripts tables w
  pub area : KeepsObjects w.area

module _ (puts : PutKeepsDistinct) (filters : FilterKeepsDistinct)
    (scripts : List Script) (tables : Tables) (e : EngineView) (sound : (first : World Saved) → IsWellStackedHost (host scripts e) tables first)
    (run_sound : ScriptsAreSound (World Saved)) (stored_sound : StatesAreSound (World Saved)) (engine : EngineKeepsFits) (lines : LinesKeepFits)
    (begins : BeginKeepsFits) (turns : TurnKeepsFits) (turns_done : TurnDoneKeepsFits) (unapplies : UnapplyKeepsFits) (limit : ℕ) where
  abbrev IsKept : World Saved → Type 0
  IsKept w = KeepsFit scripts tables w

  reached_kept : (first w : World Saved) → IsReached (host scripts e) tables first w → IsKept first → IsKept w
  unfolding host
  reached_kept first w Unchanged k = k
  reached_kept first w (ByCall number caller r values action world listed callable types fits before) k =
      let b = reached_kept first world before k in
      record {
        fits = engine scripts tables e number caller values action world fits b.fits;
        area = (engine_leaves puts filters e.table e.cell number (call caller values action) world).area b.area;
      }
  reached_kept first w (ByMissing target name world before) k =
      let b = reached_kept first world before k in record { fits = lines.no_script scripts tables target name world b.fits; area = b.area }
  reached_kept first w (ByDepth target name world before) k =
      let b = reached_kept first world before k in record { fits = record { agenda = b.fits.agenda; queues = b.fits.queues }; area = b.area }

  script_kept : (script o : ℕ) (w : World Saved) → IsListed scripts script → IsKept w → IsKept (run_script (host scripts e) limit script o w).last.world
  unfolding host
  script_kept script o w listed k =
      let s = run_sound (host scripts e) tables w limit script o w (sound w) listed Unchanged in
      reached_kept w (run_script (host scripts e) limit script o w).last.world s.world k

  stored_kept : (saved : Saved) (o : ℕ) (w : World Saved) → FitsOne scripts tables saved → IsKept w → IsKept (run_stored (host scripts e) limit saved o w).last.world
  unfolding host
  stored_kept saved o w fits k =
      let s = stored_sound (host scripts e) tables w limit saved o w (sound w) fits Unchanged in
      reached_kept w (run_stored (host scripts e) limit saved o w).last.world s.world k

  finished_kept : (ending : Ending) (rest : World Saved → World Saved) (r : Run Saved) → IsKept r.world → ((w : World Saved) → IsKept w → IsKept (rest w))
      → IsKept (finished_as ending rest r).world
  finished_kept Over rest r k keeps = keeps r.world k
  finished_kept (Divided self) rest r k keeps =
      keeps (fault self r.world) (record { fits = lines.fault scripts tables self r.world k.fits; area = k.area })
  finished_kept Stopped rest r k keeps = k

  done_kept : (o : ℕ) (w : World Saved) → IsKept w → IsKept (turn_done o w)
  done_kept o w k = record { fits = turns_done scripts tables o w k.fits; area = done_same o (queue_of o w).actions w k.area }

  named_kept : (o : ℕ) (name : List ℕ) (found : Option ℕ) → script_named scripts name ≡ found → (w : World Saved) → IsKept w
      → IsKept (named_entry (code_runner (host scripts e) limit) o name found w).world
  unfolding code_runner
  named_kept o name None is w k = record { fits = lines.no_script scripts tables o name w k.fits; area = k.area }
  named_kept o name (Some script) is w k =
      let r = run_script (host scripts e) limit script o w in
      finished_kept (run_of r).ending (λ v. v) (run_of r) (script_kept script o w (named_listed scripts name script is) k) (λ v h. h)

  event_kept : (o : ℕ) (name : List ℕ) (w : World Saved) → IsKept w → IsKept (event_entry (code_runner (host scripts e) limit) o name w).world
  unfolding code_runner host
  event_kept o [] w k = k
  event_kept o (b ∷ name) w k = named_kept o (b ∷ name) (script_named scripts (b ∷ name)) refl w k

  turn_kept : (o : ℕ) (action : Option Saved) (w : World Saved) → FitsAction scripts tables action → IsKept w
      → IsKept (turn_entry (code_runner (host scripts e) limit) o action w).world
  unfolding code_runner
  turn_kept o None w fits k = k
  turn_kept o (Some saved) w fits k =
      let r = run_stored (host scripts e) limit saved o w in
      finished_kept (run_of r).ending (turn_done o) (run_of r) (stored_kept saved o w fits k) (done_kept o)

  kind_kept : (kind : Kind Saved) (number : ℕ) (w : World Saved) → KindFits scripts tables kind → IsKept w
      → IsKept (entered_as (code_runner (host scripts e) limit) kind number w).world
  unfolding code_runner
  kind_kept (Event o name user) number w fits k = event_kept o name w k
  kind_kept (Stored o saved) number w fits k =
      let r = run_stored (host scripts e) limit saved o w in
      finished_kept (run_of r).ending (λ v. v) (run_of r) (stored_kept saved o w fits k) (λ v h. h)
  kind_kept (Turn o) number w fits k =
      let t = turns scripts tables o w k.fits in
      turn_kept o (turn o w).action (turn o w).world t.action (record { fits = t.world; area = turned_same o (queue_of o w).actions w k.area })
  kind_kept (Unapply o) number w fits k = record {
    fits = unapplies scripts tables o number w k.fits;
    area = expired_same o number (find (is_numbered number) (effects_of o w)) w k.area;
  }

  -- ---- plays

  module _ (bounds : Bounds) where
    abbrev AllKept : (Progress Saved → Played Saved) → Type 0
    AllKept on = (p : Progress Saved) → IsKept p.world → IsKept (on p).last.world

    after_kept : (on : Progress Saved → Played Saved) → AllKept on → (x : Entered Saved) → IsKept x.world → (p : Progress Saved) (stopped : Bool)
        → IsKept (after_entry stopped (further x p) on).last.world
    after_kept on rest x k p true = record { fits = lines.drained scripts tables x.world k.fits; area = k.area }
    after_kept on rest x k p false = rest (further x p) (record { fits = lines.drained scripts tables x.world k.fits; area = k.area })

    next_kept : (on : Progress Saved → Played Saved) → AllKept on → (b : Option (Begun Saved)) (p : Progress Saved) → BegunFits scripts tables b → BegunSame p.world b → IsKept p.world
        → IsKept (next_entry (code_runner (host scripts e) limit) b p on).last.world
    next_kept on rest None p fits same k = k
    next_kept on rest (Some b) p fits same k =
        let x = entry_entered (code_runner (host scripts e) limit) b in
        after_kept on rest x (kind_kept b.entry.kind b.entry.number b.world fits.0 (record { fits = fits.1; area = same k.area })) p x.stopped

    due_kept : (on : Progress Saved → Played Saved) → AllKept on → (is_full : Bool) (b : Option (Begun Saved)) (p : Progress Saved) → BegunFits scripts tables b → BegunSame p.world b
        → IsKept p.world → IsKept (if is_full then record { ending = full b; last = p } else next_entry (code_runner (host scripts e) limit) b p on).last.world
    due_kept on rest true b p fits same k = k
    due_kept on rest false b p fits same k = next_kept on rest b p fits same k

    pub plays_kept : (left : ℕ) → AllKept (plays.plays (code_runner (host scripts e) limit) bounds left)
    plays_kept zero p k = k
    plays_kept (suc left) p k =
        due_kept (plays.plays (code_runner (host scripts e) limit) bounds left) (plays_kept left) (p.entries == bounds.entries) (begin bounds.until p.world) p
        (begins scripts tables bounds.until p.world k.fits) (begun_same bounds.until p.world.agenda.entries p.world) k
