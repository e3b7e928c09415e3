-- What is saved of a play, and what a play goes on from.
use Rattle.std.specs.Prelude.{◌≡◌, ◌<◌, ◌≤◌, ◌⊎◌, ℕ, pos, false, List, [], map, length, Option, IsTrue}
use Rattle.std.specs.List.{AllByRecursion, IsDistinct}
use Rattle.std.specs.Str.{bytes_eq}
use Rattle.nwq_value.specs.Engine.{EngineTable}
use Rattle.nwq_value.specs.Limits.{file_limit, instruction_limit, entry_limit, time_limit, script_limit, random_limit}
use Rattle.nwq_text.specs.Names.{is_script_name}
use Rattle.plan_text.specs.Plans.{Limits}
use Rattle.gff_tree.specs.Whole.{PlainGff}
use Rattle.delay_agenda.specs.declared.entry.Entry.{Entry}
use Rattle.delay_agenda.specs.Waiting.{turn_count}
use Rattle.saved_state.specs.declared.saved.Saved.{Saved}
use Rattle.stack_rules.specs.Laws.{AllMeet}
use Rattle.stack_check.specs.Checked.{AllStand}
use Rattle.world_rules.specs.Kept.{turns_allowed}
use Rattle.world_rules.specs.World.{World, queue_of}
use Rattle.ncs_machine.specs.declared.scripts.Loaded.{Loaded}
use Rattle.ncs_machine.specs.Host.{scripts_of, tables_of}
use Rattle.ncs_machine.specs.Stored.{StatesFit}
use Rattle.state_format.specs.declared.parts.Script.{Script}
use Rattle.state_format.specs.declared.parts.Parts.{Parts}
use Rattle.ncs_code.specs.File.{IsCode}
use Rattle.state_format.specs.Parts.{HasForm}
use Rattle.state_format.specs.Fields.{parts_bytes}
use Rattle.state_format.specs.declared.fault.SaveFault.{SaveFault}
use Rattle.state_format.specs.declared.fault.SaveFault.TheVariants as unsaved
use Rattle.state_format.specs.Place.{StateOf, StateStopsAt}
use Rattle.play_save.specs.declared.fault.StateFault.{StateFault}
use Rattle.play_save.specs.declared.fault.StateFault.TheVariants as fault
use Rattle.state_parts.specs.World.{world_of}
use Rattle.play_save.specs.Scripts.{script_parts}
use Rattle.play_save.specs.Rules.{IsHeaderOf, IsAreaOf, IsAccepted, IsUnfit, count_limit}

-- ---- the world

-- the world is the one that the state tells
pub record IsWorldOf (s : Parts) (w : World Saved) : Type 0 where
  pub tree : PlainGff
  pub area : IsAreaOf tree s.area
  pub world : w ≡ world_of tree s

-- a world without the lines that it keeps, and without a running event
abbrev pub resting : World Saved → World Saved
resting w = record w { trace = []; user = pos 0 }

-- ---- which plays can be saved

-- each is inside its limits
pub record MayLimit (limits : Limits) : Type 0 where
  pub limit : (1 ≤ limits.0) × (limits.0 ≤ instruction_limit)
  pub entries : (1 ≤ limits.1) × (limits.1 ≤ entry_limit)
  pub until : limits.2 ≤ time_limit

-- the scripts have names, no two the same, and are checked under a table of the header
pub record MayList (header : Option (List ℕ)) (scripts : List Loaded) : Type 0 where
  pub table : EngineTable
  pub headed : IsHeaderOf header table
  pub few : length scripts ≤ script_limit
  pub names : AllByRecursion (λ (l : Loaded). IsTrue (is_script_name l.name)) scripts
  pub distinct : IsDistinct bytes_eq (map (λ (l : Loaded). l.name) scripts)
  pub meets : AllMeet table (scripts_of scripts) (tables_of scripts)
  pub stand : AllStand table (scripts_of scripts) (tables_of scripts)

-- the world of a play of these scripts between two of its entries, whose area is that of these
-- bytes
pub record MayRest (scripts : List Loaded) (area : List ℕ) (w : World Saved) : Type 0 where
  pub file : IsAreaOf w.area.tree area
  pub version : (w.version ≡ 1) ⊎ (w.version ≡ 2)
  pub random : length w.random ≤ random_limit
  pub next : w.agenda.next < count_limit
  pub due : AllByRecursion (λ (e : Entry Saved). e.due < count_limit) w.agenda.entries
  pub turns : (o : ℕ) → turn_count o w.agenda.entries ≡ turns_allowed (queue_of o w).busy
  pub idle : (o : ℕ) → (queue_of o w).busy ≡ false → (queue_of o w).actions ≡ []
  pub fit : StatesFit (scripts_of scripts) (tables_of scripts) w

-- how far the play has come
pub record MayCount (limits : Limits) (w : World Saved) (taken done : ℕ) : Type 0 where
  pub entries : taken ≤ limits.1
  pub clock : w.clock ≤ limits.2
  pub instructions : done < count_limit

-- ---- what a state says of a play

-- what a play is of: its header and scripts, its area as it was first read, and its limits
pub record IsPlayOf (s : Parts) (text : Option (List ℕ)) (listed : List Script) (file : List ℕ)
    (limits : Limits) : Type 0 where
  pub header : s.header ≡ text
  pub scripts : s.scripts ≡ listed
  pub area : s.area ≡ file
  pub limit : s.limit ≡ limits.0
  pub entries : s.entries ≡ limits.1
  pub until : s.until ≡ limits.2

-- how many entries it took, and how many instructions it executed
pub record HasCome (s : Parts) (entries instructions : ℕ) : Type 0 where
  pub taken : s.taken ≡ entries
  pub done : s.done ≡ instructions

-- a state of a play of these scripts that rests in this world: it can be written, a play can go on
-- from it, and it tells the very world, without the lines that it keeps
pub record IsStateFor (header : Option (List ℕ)) (scripts : List Loaded) (file : List ℕ)
    (limits : Limits) (taken done : ℕ) (w : World Saved) (s : Parts) : Type 0 where
  pub form : HasForm s
  pub accepted : IsAccepted s
  pub play : IsPlayOf s header (script_parts scripts) file limits
  pub come : HasCome s taken done
  pub world : IsWorldOf s (resting w)
  -- the scripts' files, which it has, are those of their instructions
  pub code : AllByRecursion (λ (l : Loaded). IsCode l.code.code) scripts

-- the bytes are those of a state that is so, and no more than a file may have
abbrev pub IsWrittenState : (Parts → Type 0) → List ℕ → Type 0
IsWrittenState Is bytes = (s : Parts) × Is s × (StateOf bytes s × (length bytes ≤ file_limit))

-- a state that is so has this many bytes, more than a file may have; or memory ran out
abbrev pub IsLargeState : (Parts → Type 0) → SaveFault → Type 0
IsLargeState Is (unsaved.Large size) = (s : Parts) × Is s
    × ((file_limit < length (parts_bytes s)) × (size ≡ length (parts_bytes s)))
IsLargeState Is unsaved.NoMemory = Unit {0}

-- ---- refusals

-- Why bytes are refused: they are no state's from a place on, or they are a state's, and this is
-- the first rule that it breaks.
abbrev pub Refuses : List ℕ → StateFault → Type 0
Refuses bytes (fault.Place at) = StateStopsAt bytes at
Refuses bytes (fault.Unfit n) = (s : Parts) × StateOf bytes s × IsUnfit n s
Refuses bytes fault.NoMemory = Unit {0}
