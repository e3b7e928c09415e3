-- What a play's answer tells.
use Rattle.std.specs.Prelude.{◌≡◌, ◌≤◌, ◌<◌, ◌+◌, ◌^◌, ℕ, Bool, IsTrue, List, [], ◌++◌}
use Rattle.nwq_outside.specs.Outside.{Rises, TookPrefix}
use Rattle.saved_state.specs.declared.saved.Saved.{Saved}
use Rattle.world_rules.specs.Trace.{trace_text}
use Rattle.world_rules.specs.World.{World}
use Rattle.world_rules.specs.Plays as plays
use Rattle.world_rules.specs.Plays.{PlayEnd, Progress}
use Rattle.ncs_machine.specs.Settings.{CodeSetting, FitIn}
use Rattle.module_player.specs.declared.played.How.{How}
use Rattle.module_player.specs.declared.played.Played.{Played}
use Rattle.module_player.specs.declared.played.How.TheVariants.{Done, InstrStop, EntryStop, Pause, Fault, NoMemory}

-- how the play ends
abbrev pub EndsAs : How → PlayEnd → Type 0
EndsAs Done ending = ending ≡ plays.Done
EndsAs InstrStop ending = ending ≡ plays.StoppedInside
EndsAs EntryStop ending = ending ≡ plays.OutOfEntries
EndsAs Pause ending = ending ≡ plays.Paused
EndsAs Fault ending = Unit {0}
EndsAs NoMemory ending = Unit {0}

-- a fact of every play but one that was cut short, by a fault of the sink or for want of memory
abbrev pub WherePlayed : How → Type 0 → Type 0
WherePlayed Done fact = fact
WherePlayed InstrStop fact = fact
WherePlayed EntryStop fact = fact
WherePlayed Pause fact = fact
WherePlayed Fault fact = Unit {0}
WherePlayed NoMemory fact = Unit {0}

-- a sink takes the play's text, or a prefix of it where the play was cut short
abbrev pub TakesTrace : How → List ℕ → List ℕ → List ℕ → Type 0
TakesTrace Done text before after = after ≡ before ++ text
TakesTrace InstrStop text before after = after ≡ before ++ text
TakesTrace EntryStop text before after = after ≡ before ++ text
TakesTrace Pause text before after = after ≡ before ++ text
TakesTrace Fault text before after = TookPrefix text before after
TakesTrace NoMemory text before after = TookPrefix text before after

-- a sink's faults rise with that answer alone
abbrev pub CountsPlay : How → ℕ → ℕ → Type 0
CountsPlay Done before now = now ≡ before
CountsPlay InstrStop before now = now ≡ before
CountsPlay EntryStop before now = now ≡ before
CountsPlay Pause before now = now ≡ before
CountsPlay Fault before now = Rises before now
CountsPlay NoMemory before now = now ≡ before

-- An answer tells of this play, which went on from there and led to this world.
pub record IsPlayed (s : CodeSetting) (answer : Played) (first : Progress Saved)
    (p : plays.Played Saved)
    (v : World Saved) : Type 0 where
  pub ending : EndsAs answer.how p.ending
  pub entries : WherePlayed answer.how (answer.entries ≡ p.last.entries)
  pub instructions : WherePlayed answer.how (answer.instructions ≡ p.last.count)
  pub world : WherePlayed answer.how (v ≡ p.last.world)
  pub fit : WherePlayed answer.how (FitIn s v)
  pub quiet : WherePlayed answer.how (v.trace ≡ [])
  pub next : WherePlayed answer.how (v.agenda.next < 2 ^ 62)
  pub posted : WherePlayed answer.how (v.agenda.next ≤ first.world.agenda.next + 2 ^ 45)
  pub executed : WherePlayed answer.how (answer.instructions ≤ first.count + 2 ^ 45)

-- the same with what a sink took, and its faults
pub record HasPlayed (s : CodeSetting) (answer : Played) (first : Progress Saved)
    (p : plays.Played Saved)
    (tells : Bool) (before after : List ℕ) (faults now : ℕ) (v : World Saved) : Type 0 where
  pub played : IsPlayed s answer first p v
  pub text : IsTrue tells → TakesTrace answer.how (trace_text p.last.trace) before after
  pub counts : CountsPlay answer.how faults now

-- how a play ends that has taken as many entries as it may
abbrev pub IsLastEnd : How → PlayEnd → Type 0
IsLastEnd Done ending = ending ≡ plays.Done
IsLastEnd EntryStop ending = ending ≡ plays.OutOfEntries
IsLastEnd InstrStop ending = ⊥
IsLastEnd Pause ending = ⊥
IsLastEnd Fault ending = ⊥
IsLastEnd NoMemory ending = ⊥
