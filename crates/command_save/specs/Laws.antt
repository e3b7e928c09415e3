-- Statements about saved plays. Each stands on the contract of a function of `laws`.
use Rattle.std.specs.Prelude.{◌≡◌, ◌≢◌, ◌↔◌, ℕ, List, [], ◌++◌, Result, Ok, ◌+◌, ◌-◌, min}
use Rattle.std.specs.Result.{IsOk}
use Rattle.nwq_outside.specs.Outside.{Contents, content}
use Rattle.world_rules.specs.Pure.{CellLookup}
use Rattle.command_work.specs.declared.status.Status.{Status}
use Rattle.command_work.specs.Work.{Finished, IsCut, Does}
use Rattle.command_work.specs.Outcomes.{IsSure}
use Rattle.command_play.specs.Games.{plays}
use Rattle.command_save.specs.declared.inputs.HeaderFile.{HeaderFile}
use Rattle.command_save.specs.Saves.{IsStateAt, saved_line, saves}
use Rattle.command_save.specs.Resumes.{resumes, Going, GoesFrom, played_further, state_named}
use Rattle.nwq_value.specs.Engine.{EngineTable}
use Rattle.plan_text.specs.declared.plan.Plan.{Plan}
use Rattle.saved_state.specs.declared.saved.Saved.{Saved}
use Rattle.machine_rules.specs.Machine.{Script}
use Rattle.stack_rules.specs.Fits.{Tables}
use Rattle.stack_rules.specs.Laws.{AllMeet}
use Rattle.world_rules.specs.World.{World}
use Rattle.world_rules.specs.Plays.{Runner, Progress, Played, StoppedInside}
use Rattle.world_rules.specs.GoingOn.{continued}
use Rattle.ncs_machine.specs.Stored.{StatesFit}
use Rattle.module_player.specs.CodePlays.{code_runner}
use Rattle.state_format.specs.Fields.{parts_bytes}
use Rattle.state_format.specs.declared.parts.Parts.{Parts}
use Rattle.play_save.specs.Rules.{IsAccepted, IsHeaderOf}
use Rattle.command_plays.specs.Plays.{host_of, plan_played, played_first}
use Rattle.command_save.specs.Inputs.{header_of, area_named}

-- ---- what the files hold decides what comes of a command

abbrev pub SureSaves : Type 0
SureSaves = (cell : CellLookup) (header area plan : List ℕ) (n : ℕ) (name : List ℕ)
    → IsSure (saves cell header area plan n name)

abbrev pub SureResumes : Type 0
SureResumes = (cell : CellLookup) (name to : List ℕ) → IsSure (resumes cell name to)

-- ---- a saved play goes on as the unbroken one

-- Of an unbroken play the saved one told the front, and the resumed one the rest; both end alike,
-- and leave the same in the file of the area.
pub record GoOn (name to : List ℕ) (c2 c3 : Contents) (t t1 t2 t3 t4 : List ℕ)
    (r2 r3 : Result Finished Status) : Type 0 where
  pub front : List ℕ
  pub rest : List ℕ
  pub entries : ℕ
  pub saved : t1 ≡ t ++ front ++ saved_line name entries
  pub resumed : t3 ≡ t2 ++ rest
  pub unbroken : t4 ≡ t ++ front ++ rest
  pub answer : r2 ≡ r3
  pub area : IsOk r3 → content c2 to ≡ content c3 to

-- A play was saved after some entries, and resumed where the file of the state holds the same bytes,
-- whatever other files hold by then. Neither it nor the unbroken play was cut, which had the files
-- of the one that was saved.
abbrev pub SavedPlaysGoOn : Type 0
SavedPlaysGoOn = (cell : CellLookup) (header area plan name to : List ℕ) (n : ℕ)
    (c c1 d c2 c3 : Contents) (t t1 t2 t3 t4 : List ℕ)
    (done : Finished) (r2 r3 : Result Finished Status)
    → Does (saves cell header area plan n name) c t (Ok done) c1 t1
    → content d name ≡ content c1 name → Does (resumes cell name to) d t2 r2 c2 t3 → (IsCut r2 → ⊥)
    → Does (plays cell header area plan to) c t r3 c3 t4 → (IsCut r3 → ⊥)
    → GoOn name to c2 c3 t t1 t2 t3 t4 r2 r3

-- ---- saves compose

-- A state is one of the first play where it stands exactly if it is one of the second; and a state
-- of the one has the bytes of that of the other.
pub record SameStates (header : HeaderFile) (file : List ℕ) (plan : Plan) (scripts : List Script)
    (p q : Progress Saved) : Type 0 where
  pub alike : (t : Parts) → IsStateAt header file plan scripts p t ↔ IsStateAt header file plan scripts q t
  pub bytes : (t u : Parts) → IsStateAt header file plan scripts p t
      → IsStateAt header file plan scripts q u → parts_bytes t ≡ parts_bytes u

-- The state after n and m entries is the state after m more entries of the play that the state after
-- n tells, byte for byte.
abbrev pub SavesCompose : Type 0
SavesCompose = (cell : CellLookup) (header : HeaderFile) (file : List ℕ) (plan : Plan)
    (scripts : List Script) (n m : ℕ) (w : World Saved)
    → IsHeaderOf header.text header.table → w.trace ≡ []
    → (played_first cell header.table plan scripts n w).ending ≢ StoppedInside
    → (s : Parts) → IsStateAt header file plan scripts
    (played_first cell header.table plan scripts n w).last s → (g : Going) → GoesFrom s g
    → SameStates header file plan scripts
    (played_first cell header.table plan scripts (n + m) w).last
    (played_further cell s g (n + m)).last

-- ---- the parts of the work by themselves

abbrev pub SureHeaderFiles : Type 0
SureHeaderFiles = (word : List ℕ) → IsSure (header_of word)

abbrev pub SureAreaFiles : Type 0
SureAreaFiles = (name : List ℕ) → IsSure (area_named name)

abbrev pub SureStates : Type 0
SureStates = (name : List ℕ) → IsSure (state_named name)

-- what a state goes on from is one
abbrev pub OneGoing : Type 0
OneGoing = (s : Parts) (g h : Going) → GoesFrom s g → GoesFrom s h → g ≡ h

-- ---- the first entries

-- the play is these first entries, gone on with where they were broken off
abbrev pub IsFront : Runner Saved → Plan → ℕ → Played Saved → Played Saved → Type 0
IsFront runner plan n front all =
    all ≡ continued runner (record {
      entries = plan.entries;
      until = plan.until;
      stop = plan.entries + 1;
    }) (plan.entries + 1 - min n plan.entries) front.ending front

abbrev pub FrontsGoOn : Type 0
FrontsGoOn = (cell : CellLookup) (header : EngineTable) (plan : Plan) (scripts : List Script)
    (n : ℕ) (w : World Saved)
    → IsFront (code_runner (host_of cell header scripts) plan.limit) plan n
    (played_first cell header plan scripts n w) (plan_played cell header plan scripts w)

-- ---- what a state goes on from

-- a state from which a play can go on tells what it goes on from: scripts that are well stacked,
-- and a world in which each captured state fits
pub record GoesSafely (g : Going) : Type 0 where
  pub tables : Tables
  pub meet : AllMeet g.table g.scripts tables
  pub fit : StatesFit g.scripts tables g.world

abbrev pub StatesGoSafely : Type 0
StatesGoSafely = (s : Parts) (g : Going) → IsAccepted s → GoesFrom s g → GoesSafely g
