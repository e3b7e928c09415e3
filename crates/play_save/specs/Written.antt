-- That there is a state of each play that rests in a world whose values have room in one.
use Rattle.std.specs.Prelude.{◌≡◌, ◌<◌, ◌≤◌, ◌⊎◌, ℕ, List, map, length, Option, IsTrue}
use Rattle.std.specs.List.{AllByRecursion, IsDistinct}
use Rattle.std.specs.Str.{bytes_eq}
use Rattle.nwq_value.specs.Engine.{EngineTable}
use Rattle.nwq_value.specs.Limits.{file_limit, script_limit, random_limit}
use Rattle.nwq_text.specs.Names.{is_script_name}
use Rattle.ncs_code.specs.Plain.{PlainOp}
use Rattle.ncs_code.specs.File.{IsCode, file_bytes}
use Rattle.plan_text.specs.Plans.{Limits}
use Rattle.saved_state.specs.declared.saved.Saved.{Saved}
use Rattle.area_rules.specs.Objects.{objects_of}
use Rattle.area_rules.specs.Area.{PlainArea, HaveDistinct, bare}
use Rattle.delay_agenda.specs.declared.entry.Entry.{Entry}
use Rattle.machine_rules.specs.Machine.{Script}
use Rattle.stack_rules.specs.Fits.{Tables}
use Rattle.stack_rules.specs.Laws.{AllMeet}
use Rattle.stack_rules.specs.Rules.{WellStacked}
use Rattle.ncs_machine.specs.Stored.{StatesFit}
use Rattle.world_rules.specs.World.{World}
use Rattle.world_rules.specs.Settled.{IsBetween}
use Rattle.state_format.specs.declared.parts.Script.{Script as ScriptPart}
use Rattle.state_format.specs.declared.parts.Parts.{Parts}
use Rattle.state_format.specs.Parts.{AreStateBytes, IsBlob, IsMaybe, HasForm}
use Rattle.state_format.specs.Fields.{parts_bytes}
use Rattle.play_room.specs.Room.{HasRoom}
use Rattle.play_save.specs.Rules.{IsHeaderOf, IsAreaOf, IsAccepted, count_limit}
use Rattle.play_save.specs.States.{resting, MayLimit, MayCount, IsPlayOf, HasCome, IsWorldOf}

-- ---- files of bytecode

-- the file of code is bytes
abbrev pub CodeIsBytes : Type 0
CodeIsBytes = (ops : List PlainOp) → IsCode ops → AreStateBytes (file_bytes ops)

-- ---- plays

-- a listed script as a state has it: its name, and the bytes of its file
abbrev pub listed_part : Script → ScriptPart
listed_part script = record { name = script.name; code = file_bytes script.code }

-- the scripts are well-stacked files that have names, no two the same, under a header
pub record AreListed (header : Option (List ℕ)) (scripts : List Script) : Type 0 where
  pub table : EngineTable
  pub headed : IsHeaderOf header table
  pub text : IsMaybe IsBlob header
  pub few : length scripts ≤ script_limit
  pub names : AllByRecursion (λ (s : Script). IsTrue (is_script_name s.name)) scripts
  pub distinct : IsDistinct bytes_eq (map (λ (s : Script). s.name) scripts)
  pub code : AllByRecursion (λ (s : Script). IsCode s.code) scripts
  pub stacked : AllByRecursion (λ (s : Script). WellStacked table s.code) scripts

-- the objects of an area are its tree's but for their variables, and no two variables of an object
-- have one type and name
pub record KeepsObjects (area : PlainArea) : Type 0 where
  pub same : map bare area.objects ≡ map bare (objects_of area.tree.top)
  pub distinct : HaveDistinct area.objects

-- the world of a play of these scripts between two of its entries, whose area is that of these
-- bytes
pub record Rests (table : EngineTable) (scripts : List Script) (area : List ℕ)
    (w : World Saved) : Type 0 where
  pub file : IsAreaOf w.area.tree area
  pub blob : IsBlob area
  pub kept : KeepsObjects w.area
  pub between : IsBetween w
  pub version : (w.version ≡ 1) ⊎ (w.version ≡ 2)
  pub random : length w.random ≤ random_limit
  pub next : w.agenda.next < count_limit
  pub due : AllByRecursion (λ (e : Entry Saved). e.due < count_limit) w.agenda.entries
  -- whatever tables of shapes meet the rules, each captured state fits them
  pub fit : (tables : Tables) → AllMeet table scripts tables → StatesFit scripts tables w

-- A state of a play. It can be written where it is no larger than a file may be.
pub record StateOfPlay (header : Option (List ℕ)) (scripts : List Script) (area : List ℕ)
    (limits : Limits) (taken done : ℕ) (w : World Saved) : Type 0 where
  pub state : Parts
  pub form : length (parts_bytes state) ≤ file_limit → HasForm state
  pub accepted : IsAccepted state
  pub play : IsPlayOf state header (map listed_part scripts) area limits
  pub come : HasCome state taken done
  pub world : IsWorldOf state (resting w)

-- There is one of each play that rests in a world which has room in a state.
abbrev pub PlaysHaveStates : Type 0
PlaysHaveStates =
    (header : Option (List ℕ)) (scripts : List Script) (area : List ℕ) (limits : Limits)
    (taken done : ℕ) (w : World Saved) (listed : AreListed header scripts)
    → Rests listed.table scripts area w → MayLimit limits → MayCount limits w taken done → HasRoom w
    → StateOfPlay header scripts area limits taken done w
