-- What is told of an entry's scripts, and of an entry.
use Rattle.std.specs.Prelude.{◌≡◌, ◌≤◌, ◌+◌, ℕ, List}
use Rattle.machine_rules.specs.Machine.{Script}
use Rattle.stack_rules.specs.Fits.{Tables}
use Rattle.saved_state.specs.declared.saved.Saved.{Saved}
use Rattle.world_rules.specs.World.{World}
use Rattle.world_rules.specs.Turns.{turn}
use Rattle.world_rules.specs.Plays as plays
use Rattle.world_rules.specs.Plays.{Ending, Run, Runner, turn_entry}
use Rattle.ncs_machine.specs.Endings.{IsLeft}
use Rattle.ncs_machine.specs.Settings.{CodeSetting, FitIn}
use Rattle.ncs_machine.specs.Stored.{StatesFit}
use Rattle.module_player.specs.declared.scripts.Ended.{Ended}
use Rattle.module_player.specs.declared.scripts.Ended.TheVariants.{Over, Divided, Stopped}
use Rattle.module_player.specs.declared.entry.Entered.{Entered}

abbrev pub ending : Ended → Ending
ending Over = plays.Over
ending (Divided o) = plays.Divided o
ending Stopped = plays.Stopped

-- how a run ended that counted so many and led to this world
abbrev pub run_with_ending : Ended → ℕ → World Saved → Run Saved
run_with_ending ended count w = record { ending = ending ended; count = count; world = w }

-- Scripts ran from the one world to the other: how they ended, and after how many instructions.
pub record HasRun (s : CodeSetting) (limit : ℕ) (ended : Ended) (count : ℕ) (r : Run Saved)
    (w v : World Saved) : Type 0 where
  pub is : r ≡ run_with_ending ended count v
  pub within : count ≤ limit
  pub fit : FitIn s v
  pub left : IsLeft limit w v

-- an entry that was taken comes to this
abbrev pub as_entered : Entered → World Saved → plays.Entered Saved
as_entered e w = record { stopped = e.stopped; count = e.count; world = w }

-- whatever fits a list of scripts and their tables, all states in the one world do, where those of
-- the other do
abbrev pub KeepsFits : World Saved → World Saved → Type 0
KeepsFits w v = (scripts : List Script) (tables : Tables) → StatesFit scripts tables w
    → StatesFit scripts tables v

-- An entry led from the one world to the other, and posted so many entries at most.
pub record Comes (s : CodeSetting) (limit : ℕ) (posts : ℕ) (e : Entered) (p : plays.Entered Saved)
    (w v : World Saved) : Type 0 where
  pub is : p ≡ as_entered e v
  pub within : e.count ≤ limit
  pub fit : FitIn s v
  pub few : v.agenda.next ≤ w.agenda.next + posts

-- a Turn's action: an entry for each instruction, and the next Turn
abbrev pub HasActed : CodeSetting → ℕ → Entered → plays.Entered Saved → World Saved → World Saved
    → Type 0
HasActed s limit e p w v = Comes s limit (limit + 1) e p w v

-- and an entry for what a Turn posts before
abbrev pub HasEntered : CodeSetting → ℕ → Entered → plays.Entered Saved → World Saved → World Saved
    → Type 0
HasEntered s limit e p w v = Comes s limit (limit + 2) e p w v

-- a Turn of an object
abbrev pub turn_taken : Runner Saved → ℕ → World Saved → plays.Entered Saved
turn_taken runner o w = turn_entry runner o (turn o w).action (turn o w).world
