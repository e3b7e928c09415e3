-- The typed unit of a script, by what the files hold.
use Rattle.std.specs.Prelude.{◌≡◌, ◌<◌, ℕ, ◌⊎◌, All, List, Some, Result, Err}
use Rattle.nwq_value.specs.Engine.{EngineTable, IsTable}
use Rattle.nwq_outside.specs.Outside.{Contents, content}
use Rattle.nss_include.specs.Names.{file_name}
use Rattle.typing_rules.specs.Typed.{TypedUnit}
use Rattle.typing_rules.specs.Meaning.{TypesUnit}
use Rattle.world_rules.specs.Pure.{CellLookup}
use Rattle.command_work.specs.declared.status.Status.{Status}
use Rattle.command_work.specs.Work.{Does, Finished, then}
use Rattle.command_sources.specs.Units.{PlainScript, Whole, IsUnitFate}
use Rattle.command_compile.specs.Files.{compiled_named}
use Rattle.command_plays.specs.Scripts.{plays_file}
use Rattle.command_meaning.specs.Units.{IsUnitOf}
use Rattle.command_meaning.specs.Files.{PlaysFile}

-- what stands under the name of a source text are bytes
abbrev pub HoldBytes : Contents → Type 0
HoldBytes c = (name bytes : List ℕ) → content c (file_name name) ≡ Some bytes
    → All (λ b. b < 256) bytes

-- The script of this name has this unit under a header: its tokens, with those of its includes,
-- have a tree that is typed so.
pub record IsScript (header : EngineTable) (c : Contents) (name : List ℕ)
    (u : TypedUnit) : Type 0 where
  pub script : PlainScript
  pub is : IsUnitFate (content c) name (Whole script)
  pub types : TypesUnit header script.tree u

-- Such a unit is one of at most 100,000 tokens, each literal of which has a value.
abbrev pub ScriptsHaveUnits : Type 0
ScriptsHaveUnits = (header : EngineTable) (c : Contents) (name : List ℕ) (u : TypedUnit)
    → HoldBytes c → IsScript header c name u → IsUnitOf header u

-- ---- a script that is compiled and played

-- The work of compiling a script ended, by a refusal or where it was cut.
pub record EndsCompiling (header : EngineTable) (name : List ℕ) (c : Contents) (t : List ℕ)
    (r : Result Finished Status) (c' : Contents) (t' : List ℕ) : Type 0 where
  pub status : Status
  pub is : r ≡ Err status
  pub does : Does (compiled_named header name) c t (Err status) c' t'

-- The script has a unit, and the unit's file was played.
pub record PlaysScript (cell : CellLookup) (header : EngineTable) (name : List ℕ) (c : Contents)
    (t : List ℕ) (r : Result Finished Status)
    (c' : Contents) (t' : List ℕ) : Type 0 where
  pub unit : TypedUnit
  pub script : IsScript header c name unit
  pub plays : PlaysFile cell header name unit c t r c' t'

-- A script that is compiled under a header and played ends as it is compiled, or its unit's file is
-- played.
abbrev pub ScriptsPlayUnits : Type 0
ScriptsPlayUnits =
    (cell : CellLookup) (header : EngineTable) (name file : List ℕ) (c : Contents) (t : List ℕ)
    (r : Result Finished Status) (c' : Contents) (t' : List ℕ)
    → IsTable header → HoldBytes c
    → Does (then (compiled_named header name) (plays_file cell header name file)) c t r c' t'
    → EndsCompiling header name c t r c' t' ⊎ PlaysScript cell header name c t r c' t'
