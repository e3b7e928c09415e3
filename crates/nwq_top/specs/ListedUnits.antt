-- What a plan of sources lists are the typed units of its scripts.
use Rattle.std.specs.Prelude.{◌≡◌, ℕ, false, List, map, Some, Ok, slice_get}
use Rattle.std.specs.List.{AllByRecursion}
use Rattle.nwq_value.specs.Engine.{EngineTable, IsTable}
use Rattle.nwq_outside.specs.Outside.{Contents}
use Rattle.plan_text.specs.declared.plan.Script.{Script as ScriptLine}
use Rattle.machine_rules.specs.Machine.{Script}
use Rattle.source_meaning.specs.Scripts.{Listed}
use Rattle.source_laws.specs.Executing.{script_of}
use Rattle.command_work.specs.Work.{Does}
use Rattle.play_inputs.specs.Listings.{scripts_listed}
use Rattle.command_meaning.specs.Units.{IsUnitOf}
use Rattle.command_meaning.specs.Scripts.{HoldBytes, IsScript}

-- each line of the plan lists a source
abbrev pub AreSources : List ScriptLine → Type 0
AreSources lines = AllByRecursion (λ line. line.binary ≡ false) lines

-- a listed unit is that of the script of its name, by what the files held when it was read
pub record IsListedUnit (header : EngineTable) (l : Listed) : Type 0 where
  pub contents : Contents
  pub script : IsScript header contents l.name l.unit
  pub unit : IsUnitOf header l.unit

-- The scripts are the code of such units, under the names of the lines.
pub record AreListedUnits (header : EngineTable) (lines : List ScriptLine)
    (scripts : List Script) : Type 0 where
  pub listed : List Listed
  pub code : scripts ≡ map script_of listed
  pub names : map (λ (l : Listed). l.name) listed ≡ map (λ (line : ScriptLine). line.name) lines
  pub units : (script : ℕ) (l : Listed) → slice_get listed script ≡ Some l → IsListedUnit header l

-- What is listed of a plan of sources are their units.
abbrev pub PlansListUnits : Type 0
PlansListUnits =
    (header : EngineTable) (lines : List ScriptLine) (scripts : List Script) (c : Contents)
    (t : List ℕ) (c' : Contents) (t' : List ℕ)
    → IsTable header → HoldBytes c → AreSources lines
    → Does (scripts_listed header lines) c t (Ok scripts) c' t'
    → AreListedUnits header lines scripts
