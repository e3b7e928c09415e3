-- So do whole plays, whose lines are one line of text each.
use Rattle.std.proofs.Common.{ℕ, ◌+◌, ◌-◌, zero, suc, Bool, true, false, List, [], ◌∷◌, Option, None, Some}
use Rattle.std.specs.Prelude.{if◌then◌else◌, ◌==◌, nat_le}
use Rattle.std.specs.List.{find, fold}
use Rattle.action_queue.specs.declared.queue.Item.{Item}
use Rattle.action_queue.specs.declared.queue.Item.TheVariants.{Do, Wait, Speak}
use Rattle.delay_agenda.specs.declared.entry.Entry.{Entry}
use Rattle.delay_agenda.specs.declared.entry.Kind.{Kind}
use Rattle.delay_agenda.specs.declared.entry.Kind.TheVariants.{Event, Stored, Turn, Unapply}
use Rattle.saved_state.specs.declared.saved.Saved.{Saved}
use Rattle.machine_rules.specs.Machine.{Script}
use Rattle.world_rules.specs.declared.data.Stood.{Stood}
use Rattle.world_rules.specs.declared.data.Told.TheVariants as line
use Rattle.world_rules.specs.World.{World, queue_of, effects_of}
use Rattle.world_rules.specs.Changes.{told, with_actions, with_effects, without_first, is_numbered}
use Rattle.world_rules.specs.Turns.{Planned, with_planned, still, new_world, user_number, Begun, with_entries, entry_begun, begin, next_turn, turn_done, turned, turn, expired, fault}
use Rattle.world_rules.specs.Plays.{Ending, Over, Divided, Stopped, Run, Runner, Entered, finished_as, named_entry, event_entry, turn_entry, entered_as, entry_entered, Progress, further, Played}
use Rattle.world_rules.specs.Plays.{Bounds, full, after_entry, next_entry, plays, unplayed}
use Rattle.ncs_machine.specs.Host.{EngineView, host}
use Rattle.module_player.specs.CodePlays.{code_runner, code_play}
use Rattle.trace_lines.specs.Lines.{ArePlain, HasPlainNames}
use Rattle.trace_lines.specs.Laws.{PlaysTellLines}
use Rattle.trace_lines.proofs.Calls.{Plain, all_plain, told_plain}
use Rattle.trace_lines.proofs.Runs.{script_plain, stored_plain}
use Rattle.trace_lines.proofs.Texts.{one_lines}

-- ---- what entries do beside the scripts that they run

next_turn_plain : {X : Type 0} (o : ℕ) (items : List (Item X)) (w : World X) → Plain w → Plain (next_turn o items w)
next_turn_plain o [] w h = h
next_turn_plain o (item ∷ items) w h = h

turned_plain : {X : Type 0} (o : ℕ) (items : List (Item X)) (w : World X) → Plain w → Plain (turned o items w).world
turned_plain o [] w h = h
turned_plain o (Do x ∷ rest) w h = h
turned_plain o (Wait ms ∷ rest) w h = h
turned_plain o (Speak bytes ∷ rest) w h =
    let v = told o (line.Speak bytes) (with_actions o rest w) in
    next_turn_plain o (queue_of o v).actions v (told_plain o (line.Speak bytes) (with_actions o rest w) tt h)

expired_plain : {X : Type 0} (o number : ℕ) (s : Option Stood) (w : World X) → Plain w → Plain (expired o number s w)
expired_plain o number None w h = h
expired_plain o number (Some s) w h = told_plain o (line.Expire s.effect) (with_effects o (without_first (is_numbered number) (effects_of o w)) w) tt h

-- ---- entries, where the runs of scripts tell such lines

record RunnerTells {X : Type 0} (runner : Runner X) : Type 0 where
  script : (script self : ℕ) (w : World X) → Plain w → Plain (runner.script script self w).world
  stored : (x : X) (self : ℕ) (w : World X) → Plain w → Plain (runner.stored x self w).world

finished_plain : {X : Type 0} (ending : Ending) (rest : World X → World X) (r : Run X) → ((w : World X) → Plain w → Plain (rest w)) → Plain r.world → Plain (finished_as ending rest r).world
finished_plain Over rest r keeps h = keeps r.world h
finished_plain (Divided self) rest r keeps h = keeps (fault self r.world) (told_plain self line.Divide r.world tt h)
finished_plain Stopped rest r keeps h = h

module _ {X : Type 0} (runner : Runner X) (tells : RunnerTells runner) where
  named_plain : (o : ℕ) (name : List ℕ) (script : Option ℕ) (w : World X) → Plain w → Plain (named_entry runner o name script w).world
  named_plain o name None w h = told_plain o (line.NoScript name) w tt h
  named_plain o name (Some script) w h = let r = runner.script script o w in finished_plain r.ending (λ v. v) r (λ v k. k) (tells.script script o w h)

  event_plain : (o : ℕ) (name : List ℕ) (w : World X) → Plain w → Plain (event_entry runner o name w).world
  event_plain o [] w h = h
  event_plain o (b ∷ name) w h = named_plain o (b ∷ name) (runner.named (b ∷ name)) w h

  action_plain : (o : ℕ) (action : Option X) (w : World X) → Plain w → Plain (turn_entry runner o action w).world
  action_plain o None w h = h
  action_plain o (Some x) w h = let r = runner.stored x o w in
      finished_plain r.ending (turn_done o) r (λ v k. next_turn_plain o (queue_of o v).actions v k) (tells.stored x o w h)

  kind_plain : (k : Kind X) (number : ℕ) (w : World X) → Plain w → Plain (entered_as runner k number w).world
  kind_plain (Event o name user) number w h = event_plain o name w h
  kind_plain (Stored o x) number w h = let r = runner.stored x o w in finished_plain r.ending (λ v. v) r (λ v k. k) (tells.stored x o w h)
  kind_plain (Turn o) number w h = action_plain o (turn o w).action (turn o w).world (turned_plain o (queue_of o w).actions w h)
  kind_plain (Unapply o) number w h = expired_plain o number (find (is_numbered number) (effects_of o w)) w h

  -- ---- entry after entry

  abbrev ProgressPlain : Progress X → Type 0
  ProgressPlain p = ArePlain p.trace × Plain p.world

  abbrev BegunPlain : Option (Begun X) → Type 0
  BegunPlain None = Unit {0}
  BegunPlain (Some b) = Plain b.world

  begun_plain : (until : ℕ) (entries : List (Entry X)) (w : World X) → Plain w → BegunPlain (entry_begun until entries w)
  begun_plain until [] w h = tt
  begun_plain until (e ∷ rest) w h = on (nat_le e.due until)
    where
      on : (b : Bool) → BegunPlain (if b then Some (record { entry = e; world = record (with_entries rest w) { clock = e.due; user = user_number e.kind } }) else None)
      on true = h
      on false = tt

  further_plain : (e : Entered X) (p : Progress X) → Plain e.world → ArePlain p.trace → ProgressPlain (further e p)
  further_plain e p h k = (all_plain p.trace e.world.trace k h, tt)

  after_plain : (stopped : Bool) (p : Progress X) (go : Progress X → Played X) → ProgressPlain p → ((q : Progress X) → ProgressPlain q → ArePlain (go q).last.trace)
      → ArePlain (after_entry stopped p go).last.trace
  after_plain true p go h rest = h.0
  after_plain false p go h rest = rest p h

  next_plain : (b : Option (Begun X)) (p : Progress X) (go : Progress X → Played X) → BegunPlain b → ProgressPlain p → ((q : Progress X) → ProgressPlain q → ArePlain (go q).last.trace)
      → ArePlain (next_entry runner b p go).last.trace
  next_plain None p go k h rest = h.0
  next_plain (Some b) p go k h rest =
      let e = entry_entered runner b in after_plain e.stopped (further e p) go (further_plain e p (kind_plain b.entry.kind b.entry.number b.world k) h.0) rest

  either_plain : (b : Bool) (p q : Played X) → ArePlain p.last.trace → ArePlain q.last.trace → ArePlain (if b then p else q).last.trace
  either_plain true p q h k = h
  either_plain false p q h k = k

  plays_plain : (bounds : Bounds) (left : ℕ) (p : Progress X) → ProgressPlain p → ArePlain (plays runner bounds left p).last.trace
  plays_plain bounds zero p h = h.0
  plays_plain bounds (suc left) p h =
      let b = begin bounds.until p.world in
      let go = plays runner bounds left in
      either_plain (p.entries == bounds.entries) (record { ending = full b; last = p }) (next_entry runner b p go) h.0
      (next_plain b p go (begun_plain bounds.until p.world.agenda.entries p.world h.1) h (plays_plain bounds left))

-- ---- the play of files

planned_plain : {X : Type 0} (events : List Planned) (w : World X) → Plain w → Plain (fold with_planned w events)
planned_plain [] w h = h
planned_plain (p ∷ events) w h = planned_plain events (with_planned w p) h

code_tells : (scripts : List Script) (e : EngineView) (limit : ℕ) → HasPlainNames e.table → RunnerTells (code_runner (host scripts e) limit)
unfolding code_runner
code_tells scripts e limit names = record {
  script = λ script self w h. script_plain scripts e names limit script self w h;
  stored = λ saved self w h. stored_plain scripts e names limit saved self w h;
}

pub plays_tell_lines : PlaysTellLines
plays_tell_lines scripts e limit entries until area random events version names =
    let w : World Saved = new_world area random events version in
    one_lines (code_play (host scripts e) limit entries until w).last.trace
    (plays_plain (code_runner (host scripts e) limit) (code_tells scripts e limit names) (record { entries = entries; until = until; stop = entries + 1 }) (entries + 1 - 0) (unplayed w)
    (tt, planned_plain events (still area random version) tt))
