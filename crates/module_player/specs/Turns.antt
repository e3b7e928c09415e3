-- One turn of a play: the next entry, where one is due.
use Rattle.std.specs.Prelude.{◌≡◌, ◌≤◌, ◌+◌, ℕ, Bool, true, false, List, [], ◌++◌, Option, None, Some}
use Rattle.nwq_outside.specs.Outside.{Rises, TookPrefix}
use Rattle.saved_state.specs.declared.saved.Saved.{Saved}
use Rattle.world_rules.specs.declared.data.Line.{Line}
use Rattle.world_rules.specs.Trace.{trace_text}
use Rattle.world_rules.specs.World.{World}
use Rattle.world_rules.specs.Turns.{Begun, drained}
use Rattle.world_rules.specs.Plays.{Entered, Runner, entry_entered}
use Rattle.ncs_machine.specs.Settings.{CodeSetting, FitIn}
use Rattle.module_player.specs.declared.turn.TurnOutcome.{TurnOutcome}
use Rattle.module_player.specs.declared.turn.TurnOutcome.TheVariants.{Goes, Stops, Rests, Fault, NoMemory}

-- ---- an entry that was taken, and its lines

-- an entry came to this, and left this world, in which no line is kept
pub record IsTaken (ending : Bool) (n : ℕ) (e : Entered Saved) (v : World Saved) : Type 0 where
  pub stopped : e.stopped ≡ ending
  pub count : e.count ≡ n
  pub world : v ≡ drained e.world

-- what keeps a play inside its bounds
pub record IsInside (s : CodeSetting) (limit n : ℕ) (w v : World Saved) : Type 0 where
  pub within : n ≤ limit
  pub fit : FitIn s v
  pub few : v.agenda.next ≤ w.agenda.next + (limit + 2)

-- what an answer tells of the entry that is due
abbrev pub Takes : TurnOutcome → CodeSetting → ℕ → Entered Saved → World Saved → World Saved
    → Type 0
Takes (Goes n) s limit e w v = IsTaken false n e v × IsInside s limit n w v
Takes (Stops n) s limit e w v = IsTaken true n e v × IsInside s limit n w v
Takes Rests s limit e w v = ⊥
Takes Fault s limit e w v = Unit {0}
Takes NoMemory s limit e w v = Unit {0}

-- the text of its lines
abbrev pub lines_text : Entered Saved → List ℕ
lines_text e = trace_text e.world.trace

-- what a sink takes of the lines' text
abbrev pub TakesText : TurnOutcome → List ℕ → List ℕ → List ℕ → Type 0
TakesText (Goes n) text before after = after ≡ before ++ text
TakesText (Stops n) text before after = after ≡ before ++ text
TakesText Rests text before after = after ≡ before
TakesText Fault text before after = TookPrefix text before after
TakesText NoMemory text before after = TookPrefix text before after

-- the sink's faults rise with that answer alone
abbrev pub CountsNext : TurnOutcome → ℕ → ℕ → Type 0
CountsNext (Goes n) before now = now ≡ before
CountsNext (Stops n) before now = now ≡ before
CountsNext Rests before now = now ≡ before
CountsNext Fault before now = Rises before now
CountsNext NoMemory before now = now ≡ before

-- ---- a turn, by the entry that is due

-- the lines that it tells
abbrev pub lines_of : Runner Saved → Option (Begun Saved) → List Line
lines_of runner None = []
lines_of runner (Some b) = (entry_entered runner b).world.trace

-- what an answer tells of a turn
abbrev pub Turns : TurnOutcome → CodeSetting → ℕ → Runner Saved → Option (Begun Saved) → World Saved
    → World Saved → Type 0
Turns Rests s limit runner None w v = v ≡ w
Turns Rests s limit runner (Some b) w v = ⊥
Turns (Goes n) s limit runner None w v = ⊥
Turns (Goes n) s limit runner (Some b) w v = Takes (Goes n) s limit (entry_entered runner b) w v
Turns (Stops n) s limit runner None w v = ⊥
Turns (Stops n) s limit runner (Some b) w v = Takes (Stops n) s limit (entry_entered runner b) w v
Turns Fault s limit runner b w v = Unit {0}
Turns NoMemory s limit runner b w v = Unit {0}
