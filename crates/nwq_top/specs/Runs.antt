-- What the words `run HEADER SCRIPT` and `compile HEADER SCRIPT` mean.
use Rattle.std.specs.Prelude.{◌≡◌, ◌≢◌, ℕ, List, ◌++◌, length, Result, Ok}
use Rattle.nwq_value.specs.Engine.{EngineTable}
use Rattle.nwq_value.specs.Limits.{default_instruction_limit, default_entry_limit, default_until}
use Rattle.nwq_outside.specs.Outside.{Contents}
use Rattle.typing_rules.specs.Typed.{TypedUnit}
use Rattle.emission_rules.specs.Units.{unit_file}
use Rattle.world_rules.specs.Pure.{CellLookup}
use Rattle.world_rules.specs.Plays.{Done, StoppedInside}
use Rattle.command_work.specs.declared.status.Status.{Status}
use Rattle.command_work.specs.Refusal.{Refusal}
use Rattle.command_work.specs.Work.{Finished}
use Rattle.command_compile.specs.Files.{code_name, compiled_line}
use Rattle.play_worlds.specs.Worlds.{first_world}
use Rattle.command_plays.specs.Plays.{host_of}
use Rattle.command_plays.specs.Scripts.{listed}
use Rattle.command_meaning.specs.CodeEnds.{EndsWithoutFault}
use Rattle.command_meaning.specs.Once.{PlaysOnce, PlaysOnceWhereNothingWaits}
use Rattle.command_meaning.specs.Units.{code_of}
use Rattle.command_meaning.specs.Runs.{setting_of, source_played, code_played, sure_steps, TellsMeaning, TellsBeginning}
use Rattle.nwq_top.specs.Accepting.{HasHeader, Compiles, with_file}
use Rattle.nwq_top.specs.Refusing.{RefusesHeader, RefusesSource, IsRefused}

-- ---- headers and scripts

-- the script compiles under the header, to this unit
pub record AcceptsScript (header script : List ℕ) (c : Contents) (table : EngineTable)
    (unit : TypedUnit) : Type 0 where
  pub has_header : HasHeader c header table
  pub compiles : Compiles table c script unit

-- the header is refused, or else the script under it
pub data RefusesScript (header script : List ℕ) (c : Contents) : Refusal → Type 0 where
  of_header : (why : Refusal) → RefusesHeader c header why → RefusesScript header script c why
  of_source : (table : EngineTable) (why : Refusal) → HasHeader c header table
      → RefusesSource table c script why → RefusesScript header script c why

-- one or the other
pub data ScriptComes (header script : List ℕ) (c : Contents) : Type 0 where
  refused : (why : Refusal) → RefusesScript header script c why → ScriptComes header script c
  accepted : (table : EngineTable) (unit : TypedUnit) → AcceptsScript header script c table unit
      → ScriptComes header script c

-- ---- run

-- What is told of the play of a unit's source, which `source_played` gives with so many steps for
-- an entry. The play of its file is `code_played`, with 131,072 instructions for an entry.
pub record MeansScript (cell : CellLookup) (table : EngineTable) (name : List ℕ) (unit : TypedUnit)
    (c : Contents) (t : List ℕ) (r : Result Finished Status)
    (c' : Contents) (t' : List ℕ) : Type 0 where
  -- where each entry of the source ends in 8,192 steps, it is told as the source means
  pub few : (source_played cell table name unit sure_steps).ending ≢ StoppedInside
      → TellsMeaning (setting_of cell table name unit) (code_played cell table name unit)
      (source_played cell table name unit sure_steps) c t r c' t'
  -- so it is, with 131,072 steps for an entry, where no entry of the file was stopped
  pub unstopped : (code_played cell table name unit).ending ≢ StoppedInside
      → TellsMeaning (setting_of cell table name unit) (code_played cell table name unit)
      (source_played cell table name unit default_instruction_limit) c t r c' t'
  -- where one was stopped, 131,072 instructions were made in it, and the lines that were put are a
  -- beginning of the source's
  pub stopped : (code_played cell table name unit).ending ≡ StoppedInside
      → TellsBeginning cell table name unit c t r c' t'
  -- where the play of the source is done in 8,192 steps for an entry, so is this one
  pub complete : (source_played cell table name unit sure_steps).ending ≡ Done → r ≡ Ok tt
  -- for a unit without action arguments the play of the source has exactly one entry, and tells
  -- what its one evaluation tells
  pub once : PlaysOnce cell table name unit
  -- so it is for any unit where that evaluation leaves nothing due
  pub nothing_waits : PlaysOnceWhereNothingWaits cell table name unit
  -- the play of the file comes to no stack fault
  pub no_fault : EndsWithoutFault
      (host_of cell table (listed name
      (code_of unit))) default_instruction_limit default_entry_limit default_until
      (first_world name)

-- What `run HEADER SCRIPT` does, unless a failed call or want of memory cut it.
pub record MeansRun (cell : CellLookup) (header script : List ℕ) (c : Contents) (t : List ℕ)
    (r : Result Finished Status) (c' : Contents) (t' : List ℕ) : Type 0 where
  pub comes : ScriptComes header script c
  pub refused : (why : Refusal) → RefusesScript header script c why → IsRefused why c t r c' t'
  pub played : (table : EngineTable) (unit : TypedUnit) → AcceptsScript header script c table unit
      → MeansScript cell table script unit c t r c' t'

-- ---- compile

-- the file of a unit was written and its line put
pub record IsCompiled (script : List ℕ) (unit : TypedUnit) (c : Contents) (t : List ℕ)
    (r : Result Finished Status) (c' : Contents) (t' : List ℕ) : Type 0 where
  pub answer : r ≡ Ok tt
  pub taken : t' ≡ t ++ compiled_line (code_name script) (length (unit_file unit))
  pub contents : c' ≡ with_file c script unit

-- What `compile HEADER SCRIPT` does, unless it was cut.
pub record MeansCompile (header script : List ℕ) (c : Contents) (t : List ℕ)
    (r : Result Finished Status) (c' : Contents) (t' : List ℕ) : Type 0 where
  pub comes : ScriptComes header script c
  pub refused : (why : Refusal) → RefusesScript header script c why → IsRefused why c t r c' t'
  pub written : (table : EngineTable) (unit : TypedUnit) → AcceptsScript header script c table unit
      → IsCompiled script unit c t r c' t'
