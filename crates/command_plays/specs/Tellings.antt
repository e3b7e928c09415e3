-- What is told of a play's answer.
use Rattle.std.specs.Prelude.{◌≡◌, ℕ, List, ◌++◌, Option, None, Some, Result, Ok, Err}
use Rattle.nwq_outside.specs.Outside.{TookPrefix}
use Rattle.command_work.specs.declared.status.Status.{Status}
use Rattle.command_work.specs.declared.status.Status.TheVariants as status
use Rattle.command_work.specs.Work.{CutsShort}
use Rattle.saved_state.specs.declared.saved.Saved.{Saved}
use Rattle.world_rules.specs.Plays as plays
use Rattle.world_rules.specs.Trace.{trace_text}
use Rattle.module_player.specs.declared.played.How.{How}
use Rattle.module_player.specs.declared.played.How.TheVariants.{Done, InstrStop, EntryStop, Pause, Fault, NoMemory}

-- the status of a play that was cut short
abbrev pub cut_of : How → Option Status
cut_of Done = None
cut_of InstrStop = None
cut_of EntryStop = None
cut_of Pause = None
cut_of Fault = Some status.Fault
cut_of NoMemory = Some status.Memory

-- what a sink took of a text, by the answer: all of it, or a prefix where the work was cut
abbrev pub TakesText : {A : Type 0} → List ℕ → List ℕ → Result A Status → List ℕ → Type 0
TakesText text t (Ok a) t' = t' ≡ t ++ text
TakesText text t (Err cut) t' = CutsShort cut × TookPrefix text t t'

-- so of the lines of a play
abbrev pub TakesLines : {S A : Type 0} → (S → List ℕ) → plays.Played Saved → S → Result A Status → S
    → Type 0
TakesLines taken p out r out' = TakesText (trace_text p.last.trace) (taken out) r (taken out')
