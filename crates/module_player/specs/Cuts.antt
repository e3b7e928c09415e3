-- Where plays stand that are cut short, by a fault of the sink or for want of memory.
use Rattle.std.specs.Prelude.{◌≡◌, ℕ, true, List, Option, Some}
use Rattle.saved_state.specs.declared.saved.Saved.{Saved}
use Rattle.machine_rules.specs.Machine.{Host}
use Rattle.world_rules.specs.World.{World}
use Rattle.world_rules.specs.Trace.{trace_text}
use Rattle.world_rules.specs.Turns.{Begun, begin, drained}
use Rattle.world_rules.specs.Plays as plays
use Rattle.world_rules.specs.Plays.{Entered, Run, entry_entered}
use Rattle.module_player.specs.CodePlays.{code_runner}
use Rattle.module_player.specs.Turns.{lines_of}
use Rattle.module_player.specs.declared.played.How.{How}
use Rattle.module_player.specs.declared.played.How.TheVariants as how
use Rattle.module_player.specs.declared.scripts.Ended.{Ended}
use Rattle.module_player.specs.declared.scripts.Ended.TheVariants as ended
use Rattle.module_player.specs.declared.turn.TurnOutcome.{TurnOutcome}
use Rattle.module_player.specs.declared.turn.TurnOutcome.TheVariants as next

-- Scripts left this world when they were cut short: it is as if they were stopped after so many
-- instructions. `runs` tells their run by how many they may take.
pub record IsRunCut (runs : ℕ → Run Saved) (v : World Saved) : Type 0 where
  pub count : ℕ
  pub stopped : (runs count).ending ≡ plays.Stopped
  pub world : v ≡ (runs count).world

-- An entry that began in the one world left the other when it was cut short. `comes` tells what it
-- comes to by how many instructions it may take.
pub data IsCutIn (comes : ℕ → Entered Saved) (limit : ℕ) (w v : World Saved) : Type 0 where
  -- nothing was done yet
  Unbegun : v ≡ w → IsCutIn comes limit w v
  -- it is as if it were stopped after so many instructions
  Inside : (count : ℕ) → (comes count).stopped ≡ true → v ≡ (comes count).world
      → IsCutIn comes limit w v
  -- all was done, but its lines are kept
  Over : v ≡ (comes limit).world → IsCutIn comes limit w v
  -- and they were handed out, of which the sink may have taken a prefix
  Told : v ≡ drained (comes limit).world → IsCutIn comes limit w v

-- what is left where the next entry is this one, or where none is due
pub data IsCutAt (h : Host (World Saved)) (limit : ℕ) (b : Option (Begun Saved))
    (w v : World Saved) : Type 0 where
  Before : v ≡ w → IsCutAt h limit b w v
  In : (d : Begun Saved) → b ≡ Some d
      → IsCutIn (λ n. entry_entered (code_runner h n) d) limit d.world v → IsCutAt h limit b w v

-- So many entries were finished, in so many instructions, when a play was cut short: the same play
-- that is broken off behind them comes to this. The world is the one behind them, or in the next
-- entry.
pub record IsCutShort (h : Host (World Saved)) (limit until : ℕ) (finished : plays.Played Saved)
    (number executed : ℕ) (v : World Saved) : Type 0 where
  pub ending : finished.ending ≡ plays.Paused
  pub entries : number ≡ finished.last.entries
  pub instructions : executed ≡ finished.last.count
  pub world : IsCutAt h limit (begin until finished.last.world) finished.last.world v

-- the text of the next entry's lines, behind those of a play that is broken off
abbrev pub cut_lines : Host (World Saved) → ℕ → ℕ → plays.Played Saved → List ℕ
cut_lines h limit until finished = trace_text
    (lines_of (code_runner h limit) (begin until finished.last.world))

-- ---- facts of what was cut short alone

abbrev pub WhereCut : How → Type 0 → Type 0
WhereCut how.Done fact = Unit {0}
WhereCut how.InstrStop fact = Unit {0}
WhereCut how.EntryStop fact = Unit {0}
WhereCut how.Pause fact = Unit {0}
WhereCut how.Fault fact = fact
WhereCut how.NoMemory fact = fact

abbrev pub WhereCutIn : TurnOutcome → Type 0 → Type 0
WhereCutIn (next.Goes n) fact = Unit {0}
WhereCutIn (next.Stops n) fact = Unit {0}
WhereCutIn next.Rests fact = Unit {0}
WhereCutIn next.Fault fact = fact
WhereCutIn next.NoMemory fact = fact

-- a script divided by zero
abbrev pub IsDivided : Ended → Type 0
IsDivided ended.Over = ⊥
IsDivided (ended.Divided self) = Unit {0}
IsDivided ended.Stopped = ⊥
