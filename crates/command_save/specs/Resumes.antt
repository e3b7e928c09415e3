-- A saved play that goes on.
use Rattle.std.specs.Prelude.{◌≡◌, ℕ, ◌+◌, min, List, map}
use Rattle.nwq_value.specs.Engine.{EngineTable}
use Rattle.nwq_outside.specs.Outside.{Contents}
use Rattle.saved_state.specs.declared.saved.Saved.{Saved}
use Rattle.world_rules.specs.Pure.{CellLookup}
use Rattle.world_rules.specs.World.{World}
use Rattle.world_rules.specs.Plays.{Played}
use Rattle.machine_rules.specs.Machine.{Script}
use Rattle.state_format.specs.declared.parts.Parts.{Parts}
use Rattle.state_format.specs.Place.{StateOf, StateStopsAt}
use Rattle.play_save.specs.Rules.{IsHeaderOf, IsAccepted, IsUnfit}
use Rattle.play_save.specs.States.{IsWorldOf}
use Rattle.command_work.specs.declared.flaw.AreaFlaw.TheVariants as flaw
use Rattle.command_work.specs.Refusal.{BadArea}
use Rattle.command_work.specs.Work.{Work, Gives, Refused, Finds, then, Finished, file_named}
use Rattle.command_plays.specs.Plays.{played_on}
use Rattle.command_play.specs.Games.{tells}
use Rattle.command_save.specs.Saves.{file_of, AreSpelled}

-- ---- the state in a file

-- what comes of bytes: a state from which a play can go on, the place at which they stop being
-- those of a state, or the first rule that the state breaks
pub data StateFate : Type 0 where
  Whole : (s : Parts) → StateFate
  Stops : (place : ℕ) → StateFate
  Unfit : (rule : ℕ) → StateFate

pub data IsStateFate (bytes : List ℕ) : StateFate → Type 0 where
  whole : (s : Parts) → StateOf bytes s → IsAccepted s → IsStateFate bytes (Whole s)
  stops : (place : ℕ) → StateStopsAt bytes place → IsStateFate bytes (Stops place)
  unfit : (s : Parts) (rule : ℕ) → StateOf bytes s → IsUnfit rule s → IsStateFate bytes (Unfit rule)

abbrev pub state_by : List ℕ → StateFate → Work Parts
state_by name (Whole s) = Gives s
state_by name (Stops place) = Refused (BadArea name (flaw.State place))
state_by name (Unfit rule) = Refused (BadArea name (flaw.Unfit rule))

-- the state of bytes, which are those of the file of this name
unfoldable pub state_in : List ℕ → List ℕ → Work Parts
state_in name bytes = Finds (λ (c : Contents) fate. IsStateFate bytes fate) (state_by name)

-- the state in the file of this name
unfoldable pub state_named : List ℕ → Work Parts
state_named name = then (file_named name) (state_in name)

-- ---- what a play goes on from

pub record Going : Type 0 where
  pub table : EngineTable
  pub scripts : List Script
  pub world : World Saved

-- it is what the state tells
pub record GoesFrom (s : Parts) (g : Going) : Type 0 where
  pub header : IsHeaderOf s.header g.table
  pub scripts : s.scripts ≡ map file_of g.scripts
  pub spelled : AreSpelled g.scripts
  pub world : IsWorldOf s g.world

-- ---- the play

-- the rest of the play, by the limits and counts of its state
abbrev pub played_rest : CellLookup → Parts → Going → Played Saved
played_rest cell s g = played_on cell g.table (s.limit, s.entries, s.until) g.scripts
    (s.entries + 1) s.taken s.done g.world

-- the same, broken off once so many entries were taken in all
abbrev pub played_further : CellLookup → Parts → Going → ℕ → Played Saved
played_further cell s g entries = played_on cell g.table (s.limit, s.entries, s.until) g.scripts
    (min entries s.entries) s.taken s.done g.world

-- it is told and written as every play
unfoldable pub resumes_from : CellLookup → List ℕ → Parts → Going → Work Finished
resumes_from cell to s g = tells to g.scripts (played_rest cell s g)

unfoldable pub resumes_state : CellLookup → List ℕ → Parts → Work Finished
resumes_state cell to s = Finds (λ (c : Contents) g. GoesFrom s g) (resumes_from cell to s)

-- the words name the file of a state, and the file in which the area is left
unfoldable pub resumes : CellLookup → List ℕ → List ℕ → Work Finished
resumes cell name to = then (state_named name) (resumes_state cell to)
