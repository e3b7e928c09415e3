-- How a play that rests is told as a state's parts, and put. No public clause speaks of it.
use Rattle.std.specs.Prelude.{◌≡◌, ℕ, List, [], ◌∷◌, ◌++◌, length, map, Option}
use Rattle.std.specs.List.{AllByRecursion}
use Rattle.std.specs.Option.{option_map}
use Rattle.ncs_code.specs.File.{IsCode}
use Rattle.area_rules.specs.Objects.{AreaObject}
use Rattle.delay_agenda.specs.declared.entry.Entry.{Entry}
use Rattle.saved_state.specs.declared.saved.Saved.{Saved}
use Rattle.world_rules.specs.declared.data.Things.{Things}
use Rattle.ncs_machine.specs.declared.scripts.Loaded.{Loaded}
use Rattle.state_format.specs.declared.parts.Script.{Script}
use Rattle.state_format.specs.declared.parts.Parts.{Parts}
use Rattle.state_format.specs.Fields.{Fields, magic, number, maybe_fields, blob_fields, script_fields, number_fields, object_fields, entry_fields, list_of}
use Rattle.state_format.specs.Parts.{IsNumber, IsMaybe, IsBlob, IsList, IsScript, IsEntry}
use Rattle.state_parts.specs.World.{entry_of}
use Rattle.state_parts.specs.Told.{object_parts, entry_part}
use Rattle.state_parts.specs.ShortTexts.{is_short_entry}
use Rattle.state_parts.specs.Keeping.{ArePartsOf}
use Rattle.play_save.specs.declared.told.Numbers.{Numbers}
use Rattle.play_save.specs.declared.told.Resting.{Resting}
use Rattle.play_save.specs.Scripts.{script_parts}
use Rattle.play_save.specs.Keeping.{AreObjectsOf}

-- ---- the parts

abbrev pub resting_parts : Resting → Parts
resting_parts p = record {
  header = option_map (λ text. text.items) p.header.now;
  scripts = script_parts p.scripts.now;
  area = p.file.now;
  version = p.numbers.version;
  limit = p.numbers.limit;
  entries = p.numbers.entries;
  until = p.numbers.until;
  clock = p.numbers.clock;
  taken = p.numbers.taken;
  done = p.numbers.done;
  next = p.numbers.next;
  random = p.random.now;
  objects = object_parts p.area.now.objects p.things.now;
  agenda = map entry_part p.entries.now;
}

-- ---- their fields

abbrev pub number_row : Numbers → Fields
number_row n = number 1 n.version ∷ number 8 n.limit ∷ number 8 n.entries ∷ number 8 n.until ∷ number 8 n.clock ∷ number 8 n.taken ∷ number 8 n.done ∷ number 8 n.next ∷ []

-- in front of the random numbers
abbrev pub front_fields : Option (List ℕ) → List Script → List ℕ → Numbers → Fields
front_fields header scripts file n = magic ∷
    (maybe_fields blob_fields header
    ++ (list_of script_fields scripts ++ (blob_fields file ++ number_row n)))

-- from there on
abbrev pub back_fields : List ℕ → List AreaObject → List (Things Saved) → List (Entry Saved)
    → Fields
back_fields random objects things entries =
    list_of (number_fields 4) random
    ++ (list_of object_fields (object_parts objects things)
    ++ list_of entry_fields (map entry_part entries))

-- ---- that they can be written, and tell the play

pub record FitNumbers (n : Numbers) : Type 0 where
  pub version : IsNumber 1 n.version
  pub limit : IsNumber 8 n.limit
  pub entries : IsNumber 8 n.entries
  pub until : IsNumber 8 n.until
  pub clock : IsNumber 8 n.clock
  pub taken : IsNumber 8 n.taken
  pub done : IsNumber 8 n.done
  pub next : IsNumber 8 n.next

pub record IsFrontTold (heading : Option (List ℕ)) (listed : List Loaded) (bytes : List ℕ)
    (n : Numbers) : Type 0 where
  pub header : IsMaybe IsBlob heading
  pub code : AllByRecursion (λ (l : Loaded). IsCode l.code.code) listed
  pub scripts : IsList IsScript (script_parts listed)
  pub file : IsBlob bytes
  pub numbers : FitNumbers n

pub record IsBackTold (left : List ℕ) (placed : List AreaObject) (things : List (Things Saved))
    (waiting : List (Entry Saved)) : Type 0 where
  pub random : IsList (IsNumber 4) left
  pub few_objects : IsNumber 4 (length (object_parts placed things))
  pub objects : AreObjectsOf placed things (object_parts placed things)
  pub few_entries : IsNumber 4 (length (map entry_part waiting))
  pub entries : ArePartsOf entry_of IsEntry is_short_entry waiting (map entry_part waiting)

pub record IsTold (p : Resting) : Type 0 where
  pub front : IsFrontTold (option_map
      (λ text. text.items) p.header.now) p.scripts.now p.file.now p.numbers
  pub back : IsBackTold p.random.now p.area.now.objects p.things.now p.entries.now

-- these are its parts
pub record IsToldAs (p : Resting) (s : Parts) : Type 0 where
  pub told : IsTold p
  pub is : s ≡ resting_parts p
