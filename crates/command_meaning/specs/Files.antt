-- The play of the file of a typed unit.
use Rattle.std.specs.Prelude.{◌≢◌, ◌≤◌, ℕ, List, length, Result, Err}
use Rattle.nwq_value.specs.Limits.{file_limit}
use Rattle.nwq_value.specs.Engine.{EngineTable, IsTable}
use Rattle.nwq_outside.specs.Outside.{Contents}
use Rattle.typing_rules.specs.Typed.{TypedUnit}
use Rattle.emission_rules.specs.Units.{unit_file}
use Rattle.world_rules.specs.Pure.{CellLookup}
use Rattle.command_work.specs.declared.status.Status.{Status}
use Rattle.command_work.specs.declared.status.Status.TheVariants.{Code}
use Rattle.command_work.specs.Work.{Does, Finished}
use Rattle.command_plays.specs.Scripts.{plays_code, plays_file}
use Rattle.command_meaning.specs.Units.{code_of, IsUnitOf}

-- A typed unit's file, under the name of its script, was loaded, checked and played, from these
-- contents and taken bytes on.
pub record PlaysFile (cell : CellLookup) (header : EngineTable) (name : List ℕ) (u : TypedUnit)
    (c : Contents) (t : List ℕ) (r : Result Finished Status)
    (c' : Contents) (t' : List ℕ) : Type 0 where
  pub table : IsTable header
  pub unit : IsUnitOf header u
  pub small : length (unit_file u) ≤ file_limit
  -- the name of the file by which it would be refused
  pub file : List ℕ
  pub does : Does (plays_file cell header name file (unit_file u)) c t r c' t'

-- What comes of it comes of the play of the unit's code.
abbrev pub FilesPlayTheirCode : Type 0
FilesPlayTheirCode =
    (cell : CellLookup) (header : EngineTable) (name : List ℕ) (u : TypedUnit) (c : Contents)
    (t : List ℕ) (r : Result Finished Status) (c' : Contents) (t' : List ℕ)
    → PlaysFile cell header name u c t r c' t'
    → Does (plays_code cell header name (code_of u)) c t r c' t'

-- The file is never refused.
abbrev pub FilesAreNotRefused : Type 0
FilesAreNotRefused =
    (cell : CellLookup) (header : EngineTable) (name : List ℕ) (u : TypedUnit) (c : Contents)
    (t : List ℕ) (r : Result Finished Status) (c' : Contents) (t' : List ℕ)
    → PlaysFile cell header name u c t r c' t' → r ≢ Err Code
