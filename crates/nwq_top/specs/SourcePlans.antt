-- What a plan of sources plays is what the sources mean.
use Rattle.std.specs.Prelude.{◌≡◌, ◌≢◌, ◌≤◌, ℕ, ◌*◌, List, map, Result}
use Rattle.nwq_value.specs.Engine.{EngineTable, IsTable}
use Rattle.nwq_outside.specs.Outside.{Contents}
use Rattle.area_rules.specs.Area.{PlainArea}
use Rattle.plan_text.specs.declared.plan.Plan.{Plan}
use Rattle.saved_state.specs.declared.saved.Saved.{Saved}
use Rattle.world_rules.specs.Pure.{CellLookup}
use Rattle.world_rules.specs.Trace.{trace_text}
use Rattle.world_rules.specs.Turns.{new_world}
use Rattle.world_rules.specs.World.{World}
use Rattle.world_rules.specs.Plays.{StoppedInside, Played, unplayed}
use Rattle.module_player.specs.CodePlays.{code_runner, code_end_text}
use Rattle.source_meaning.specs.Evaluation.{Deferred}
use Rattle.source_meaning.specs.Scripts.{Listed, Setting}
use Rattle.source_meaning.specs.Plays.{source_play}
use Rattle.source_laws.specs.Ledger.{step_cost}
use Rattle.source_laws.specs.Carries.{Carries}
use Rattle.source_laws.specs.Executing.{script_of}
use Rattle.play_meaning.specs.Together.{IsFirstPartOf, PlaysAlike, StoppedAt, whole}
use Rattle.play_meaning.specs.EndTexts.{source_end_text}
use Rattle.command_work.specs.declared.status.Status.{Status}
use Rattle.command_work.specs.declared.status.Status.TheVariants.{Limit}
use Rattle.command_work.specs.Work.{Work, Ends, Puts, Does, Finished}
use Rattle.command_plays.specs.Plays.{host_of, plan_played}
use Rattle.play_worlds.specs.Worlds.{begun_by, plan_world}
use Rattle.command_play.specs.Games.{ends_by, plays_plan}
use Rattle.command_meaning.specs.ListedPlays.{AreUnitsOf}

-- ---- the play of listed sources

-- all that is listed, under a header
abbrev pub listing_of : CellLookup → EngineTable → List Listed → Setting
listing_of cell header scripts = record { table = header; tables = cell; scripts = scripts }

-- the world of an area and a plan, as the play of code begins
abbrev pub source_plan_world : PlainArea → Plan → World Deferred
source_plan_world area plan = new_world area plan.random
    (map (begun_by area) plan.events) plan.version

-- what the sources mean, where an entry may take so many steps
unfoldable pub source_plan_played : CellLookup → EngineTable → PlainArea → Plan → List Listed → ℕ
    → Played Deferred
source_plan_played cell header area plan scripts n =
    source_play (listing_of cell header scripts) n plan.entries plan.until
    (source_plan_world area plan)

-- what their code does, where an entry may take as many instructions as the plan says
unfoldable pub code_plan_played : CellLookup → EngineTable → PlainArea → Plan → List Listed
    → Played Saved
code_plan_played cell header area plan scripts = plan_played cell header plan
    (map script_of scripts) (plan_world area plan)

-- ---- what is told and left of it

-- The work that a play of source comes to, for which so many instructions were made: its lines are
-- put; where it is done, its area goes into the file of this name; and the text of its end is put.
abbrev pub tells_source : List ℕ → Setting → ℕ → Played Deferred → Work Finished
tells_source to s count p = Puts (trace_text p.last.trace)
    (ends_by p.ending to p.last.world.area (source_end_text s count p))

-- Typed units are listed, and the plan was played over the area, from these contents and taken
-- bytes on.
pub record PlaysSources (cell : CellLookup) (header : EngineTable) (area : PlainArea) (plan : Plan)
    (scripts : List Listed) (to : List ℕ)
    (c : Contents) (t : List ℕ) (r : Result Finished Status) (c' : Contents)
    (t' : List ℕ) : Type 0 where
  pub table : IsTable header
  pub units : AreUnitsOf header scripts
  pub does : Does (plays_plan cell header area plan (map script_of scripts) to) c t r c' t'

-- The work of the source's play was done, and at least one and at most 16 instructions were made
-- for each step.
pub record DoesMeaning (to : List ℕ) (s : Setting) (code : Played Saved) (source : Played Deferred)
    (c : Contents) (t : List ℕ)
    (r : Result Finished Status) (c' : Contents) (t' : List ℕ) : Type 0 where
  pub alike : PlaysAlike (Carries s) code source
  pub does : Does (tells_source to s code.last.count source) c t r c' t'

-- The play was stopped in its last entry, for which all the instructions were made that it may
-- take. The lines that it tells are a beginning of those that the play of source tells, and no area
-- is left.
pub record DoesBeginning (cell : CellLookup) (header : EngineTable) (area : PlainArea) (plan : Plan)
    (scripts : List Listed) (c : Contents) (t : List ℕ)
    (r : Result Finished Status) (c' : Contents) (t' : List ℕ) : Type 0 where
  pub stopped : StoppedAt (code_runner (host_of cell header (map script_of scripts)) plan.limit)
      (whole plan.entries plan.until) plan.limit
      (unplayed (plan_world area plan)) (code_plan_played cell header area plan scripts)
  pub begins : IsFirstPartOf (code_plan_played cell header area plan scripts).last.trace
      (source_plan_played cell header area plan scripts plan.limit).last.trace
  pub does : Does (Puts (trace_text (code_plan_played cell header area plan scripts).last.trace)
      (Puts (code_end_text (map script_of scripts) (code_plan_played cell header area plan scripts))
      (Ends Limit))) c t r c' t'

-- ---- what is promised

-- Where each entry of the sources ends in so many steps, and 16 times as many instructions are
-- within the plan's limit, the plan is played as the sources mean.
abbrev pub FewStepsPlayAsMeant : Type 0
FewStepsPlayAsMeant =
    (cell : CellLookup) (header : EngineTable) (area : PlainArea) (plan : Plan)
    (scripts : List Listed) (to : List ℕ)
    (c : Contents) (t : List ℕ) (r : Result Finished Status) (c' : Contents) (t' : List ℕ)
    → PlaysSources cell header area plan scripts to c t r c' t'
    → (n : ℕ) → step_cost * n ≤ plan.limit
    → (source_plan_played cell header area plan scripts n).ending ≢ StoppedInside
    → DoesMeaning to (listing_of cell header scripts)
    (code_plan_played cell header area plan scripts)
    (source_plan_played cell header area plan scripts n) c t r c' t'

-- Where no entry of the code was stopped, it is played as the sources mean whose entries may take
-- as many steps as the plan allows instructions.
abbrev pub UnstoppedPlansPlayAsMeant : Type 0
UnstoppedPlansPlayAsMeant =
    (cell : CellLookup) (header : EngineTable) (area : PlainArea) (plan : Plan)
    (scripts : List Listed) (to : List ℕ)
    (c : Contents) (t : List ℕ) (r : Result Finished Status) (c' : Contents) (t' : List ℕ)
    → PlaysSources cell header area plan scripts to c t r c' t'
    → (code_plan_played cell header area plan scripts).ending ≢ StoppedInside
    → DoesMeaning to (listing_of cell header scripts)
    (code_plan_played cell header area plan scripts)
    (source_plan_played cell header area plan scripts plan.limit)
    c t r c' t'

-- Where one was stopped, what is told is a beginning of what the sources mean.
abbrev pub StoppedPlansBeginAsMeant : Type 0
StoppedPlansBeginAsMeant =
    (cell : CellLookup) (header : EngineTable) (area : PlainArea) (plan : Plan)
    (scripts : List Listed) (to : List ℕ)
    (c : Contents) (t : List ℕ) (r : Result Finished Status) (c' : Contents) (t' : List ℕ)
    → PlaysSources cell header area plan scripts to c t r c' t'
    → (code_plan_played cell header area plan scripts).ending ≡ StoppedInside
    → DoesBeginning cell header area plan scripts c t r c' t'
