-- Plays keep the values of their worlds.
use Rattle.std.proofs.Common.{◌≡◌, ◌-◌, ◌≤◌, ℕ, zero, suc, Bool, true, false, List, [], ◌∷◌, length, Option, Some, None, refl}
use Rattle.std.specs.Prelude.{◌==◌, if◌then◌else◌}
use Rattle.std.specs.List.{AllByRecursion}
use Rattle.nwq_value.specs.Engine.{EngineTable, IsTable}
use Rattle.nwq_value.specs.Limits.{script_limit}
use Rattle.ncs_code.specs.File.{IsCode}
use Rattle.delay_agenda.specs.declared.entry.Kind.{Kind}
use Rattle.delay_agenda.specs.declared.entry.Kind.TheVariants.{Event, Stored, Turn, Unapply}
use Rattle.saved_state.specs.declared.saved.Saved.{Saved}
use Rattle.machine_rules.specs.Machine.{Script, script_named}
use Rattle.machine_rules.specs.Runs.{run_script, run_stored}
use Rattle.world_rules.specs.Pure.{CellLookup}
use Rattle.world_rules.specs.World.{World}
use Rattle.world_rules.specs.Turns.{Begun, begin, turn, turn_done, fault}
use Rattle.world_rules.specs.Plays as plays
use Rattle.world_rules.specs.Plays.{Ending, Over, Divided, Stopped, Bounds, Progress, Played, Run, Entered, entry_entered, entered_as, event_entry, turn_entry, named_entry, finished_as, further}
use Rattle.world_rules.specs.Plays.{after_entry, next_entry, full}
use Rattle.ncs_machine.specs.Host.{EngineView, host}
use Rattle.module_player.specs.CodePlays.{code_runner, code_play_on, run_of, played_before}
use Rattle.state_format.specs.Parts.{IsNumber}
use Rattle.play_room.specs.Room.{KindHasRoom}
use Rattle.play_room.specs.Kept.{CellsAreBytes, ActionHasRoom, object_of, WorldIsKept}
use Rattle.play_room.proofs.Keeps.{BegunIsKept, WorldKeepsValues}
use Rattle.play_room.proofs.Running.{script_kept, saved_kept, named_number}

module _ (laws : WorldKeepsValues) (cell : CellLookup) (table : EngineTable) (bytes : CellsAreBytes cell) (is : IsTable table)
    (scripts : List Script) (codes : AllByRecursion (λ (s : Script). IsCode s.code) scripts) (few : length scripts ≤ script_limit) (limit : ℕ) where
  abbrev view : EngineView
  view = record { table = table; cell = cell }

  -- ---- entries

  finished_kept : (ending : Ending) (rest : World Saved → World Saved) (r : Run Saved) → WorldIsKept r.world → ((w : World Saved) → WorldIsKept w → WorldIsKept (rest w))
      → WorldIsKept (finished_as ending rest r).world
  finished_kept Over rest r k keeps = keeps r.world k
  finished_kept (Divided self) rest r k keeps = keeps (fault self r.world) (laws.fault self r.world k)
  finished_kept Stopped rest r k keeps = k

  named_kept : (o : ℕ) (name : List ℕ) (found : Option ℕ) → script_named scripts name ≡ found → (w : World Saved) → IsNumber 4 o → WorldIsKept w
      → WorldIsKept (named_entry (code_runner (host scripts view) limit) o name found w).world
  unfolding code_runner
  named_kept o name None same w object k = laws.no_script o name w k
  named_kept o name (Some script) same w object k =
      let r = run_script (host scripts view) limit script o w in
      finished_kept (run_of r).ending (λ v. v) (run_of r)
      (script_kept laws cell table bytes is scripts codes few limit script o w (named_number laws cell table bytes is scripts codes few name script same) object k) (λ v h. h)

  event_kept : (o : ℕ) (name : List ℕ) (w : World Saved) → IsNumber 4 o → WorldIsKept w → WorldIsKept (event_entry (code_runner (host scripts view) limit) o name w).world
  unfolding code_runner host
  event_kept o [] w object k = k
  event_kept o (b ∷ name) w object k = named_kept o (b ∷ name) (script_named scripts (b ∷ name)) refl w object k

  turn_kept : (o : ℕ) (action : Option Saved) (w : World Saved) → IsNumber 4 o → ActionHasRoom action → WorldIsKept w
      → WorldIsKept (turn_entry (code_runner (host scripts view) limit) o action w).world
  unfolding code_runner
  turn_kept o None w object room k = k
  turn_kept o (Some saved) w object room k =
      let r = run_stored (host scripts view) limit saved o w in
      finished_kept (run_of r).ending (turn_done o) (run_of r) (saved_kept laws cell table bytes is scripts codes few limit saved o w room object k)
      (λ v h. laws.turn_done o v object h)

  kind_kept : (kind : Kind Saved) (number : ℕ) (w : World Saved) → IsNumber 4 (object_of kind) → KindHasRoom kind → WorldIsKept w
      → WorldIsKept (entered_as (code_runner (host scripts view) limit) kind number w).world
  unfolding code_runner
  kind_kept (Event o name user) number w object room k = event_kept o name w object k
  kind_kept (Stored o saved) number w object room k =
      let r = run_stored (host scripts view) limit saved o w in
      finished_kept (run_of r).ending (λ v. v) (run_of r) (saved_kept laws cell table bytes is scripts codes few limit saved o w room object k) (λ v h. h)
  kind_kept (Turn o) number w object room k = let t = laws.turn o w object k in turn_kept o (turn o w).action (turn o w).world object t.0 t.1
  kind_kept (Unapply o) number w object room k = laws.unapply o number w k

  -- ---- plays

  module _ (bounds : Bounds) where
    abbrev AllKept : (Progress Saved → Played Saved) → Type 0
    AllKept on = (p : Progress Saved) → WorldIsKept p.world → WorldIsKept (on p).last.world

    after_kept : (on : Progress Saved → Played Saved) → AllKept on → (x : Entered Saved) → WorldIsKept x.world → (p : Progress Saved) (stopped : Bool)
        → WorldIsKept (after_entry stopped (further x p) on).last.world
    after_kept on rest x k p true = laws.drained x.world k
    after_kept on rest x k p false = rest (further x p) (laws.drained x.world k)

    next_kept : (on : Progress Saved → Played Saved) → AllKept on → (b : Option (Begun Saved)) (p : Progress Saved) → BegunIsKept b → WorldIsKept p.world
        → WorldIsKept (next_entry (code_runner (host scripts view) limit) b p on).last.world
    next_kept on rest None p begun k = k
    next_kept on rest (Some b) p begun k =
        let x = entry_entered (code_runner (host scripts view) limit) b in
        after_kept on rest x (kind_kept b.entry.kind b.entry.number b.world begun.0.0 begun.0.1 begun.1) p x.stopped

    due_kept : (on : Progress Saved → Played Saved) → AllKept on → (is_full : Bool) (b : Option (Begun Saved)) (p : Progress Saved) → BegunIsKept b → WorldIsKept p.world
        → WorldIsKept (if is_full then record { ending = full b; last = p } else next_entry (code_runner (host scripts view) limit) b p on).last.world
    due_kept on rest true b p begun k = k
    due_kept on rest false b p begun k = next_kept on rest b p begun k

    plays_kept : (left : ℕ) → AllKept (plays.plays (code_runner (host scripts view) limit) bounds left)
    plays_kept zero p k = k
    plays_kept (suc left) p k =
        due_kept (plays.plays (code_runner (host scripts view) limit) bounds left) (plays_kept left) (p.entries == bounds.entries) (begin bounds.until p.world) p
        (laws.begin bounds.until p.world k) k

  pub play_kept : (entries until stop taken done : ℕ) (w : World Saved) → WorldIsKept w → WorldIsKept (code_play_on (host scripts view) limit entries until stop taken done w).last.world
  play_kept entries until stop taken done w k =
      plays_kept (record { entries = entries; until = until; stop = stop }) (stop - taken) (played_before taken done w) k
