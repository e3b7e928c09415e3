-- What the tests of the rules find. No public clause speaks of it.
use Rattle.std.specs.Prelude.{◌≡◌, ◌⊎◌, ◌<◌, ◌≤◌, ℕ, suc, Bool, nat_eq, ◌||◌, List, [], ◌∷◌, length, map, take, Some, slice_get, if◌then◌else◌}
use Rattle.std.specs.List.{list_any, AllByRecursion}
use Rattle.std.specs.Option.{option_map}
use Rattle.std.specs.Ordering.{nat_cmp}
use Rattle.std.specs.BTreeSet.{BTreeSet, contains}
use Rattle.nwq_value.specs.Engine.{EngineTable}
use Rattle.nwq_value.specs.Limits.{script_limit, text_limit}
use Rattle.gff_tree.specs.Whole.{PlainGff}
use Rattle.area_rules.specs.Area.{PlainArea, area_of}
use Rattle.stack_rules.specs.Tables.{ShapeTable}
use Rattle.stack_rules.specs.Rules.{MeetsRules}
use Rattle.stack_check.specs.Checked.{CheckedCode, StoredStand, kept_table}
use Rattle.stack_rules.specs.Fits.{Fits}
use Rattle.delay_agenda.specs.Order.{IsBefore}
use Rattle.delay_agenda.specs.Waiting.{turn_count, is_turn_of}
use Rattle.world_rules.specs.Kept.{IsPlaced}
use Rattle.ncs_machine.specs.declared.scripts.Loaded.{Loaded}
use Rattle.state_format.specs.declared.parts.Captured.{Captured}
use Rattle.state_format.specs.declared.parts.Entry.{Entry}
use Rattle.state_format.specs.declared.parts.Script.{Script}
use Rattle.state_format.specs.declared.parts.Parts.{Parts}
use Rattle.play_save.specs.declared.fault.StateFault.{StateFault}
use Rattle.play_save.specs.declared.fault.StateFault.TheVariants as fault
use Rattle.state_parts.specs.World.{saved_of, kind_of, entry_of}
use Rattle.play_save.specs.Rules.{IsHeaderOf, IsFileOf, IsAreaOf, IsSound, HasStates, HasTurns, IsUnfit}
use Rattle.play_save.specs.declared.prepare.Prepared.{Prepared}

-- a refusal by the rule of this number, which isn't kept; or memory ran out
abbrev pub Breaks : ℕ → Type 0 → StateFault → Type 0
Breaks n Kept (fault.Place at) = ⊥
Breaks n Kept (fault.Unfit m) = (m ≡ n) × (Kept → ⊥)
Breaks n Kept fault.NoMemory = Unit {0}

-- the first rule that parts break
abbrev pub BreaksFirst : Parts → StateFault → Type 0
BreaksFirst s (fault.Place at) = ⊥
BreaksFirst s (fault.Unfit n) = IsUnfit n s
BreaksFirst s fault.NoMemory = Unit {0}

-- the sixth rule isn't kept; or it is, and the seventh isn't
abbrev pub BreaksLast : Parts → StateFault → Type 0
BreaksLast s (fault.Place at) = ⊥
BreaksLast s (fault.Unfit n) = ((n ≡ 6) × (HasStates s → ⊥))
    ⊎ ((n ≡ 7) × (HasStates s × (HasTurns s → ⊥)))
BreaksLast s fault.NoMemory = Unit {0}

-- ---- scripts

-- the code of a file, by a table of shapes that says of stored states what every one says
pub record IsCheckedOf (table : EngineTable) (bytes : List ℕ) (c : CheckedCode) : Type 0 where
  pub file : IsFileOf c.code bytes
  pub meets : MeetsRules table c.code (kept_table c)
  pub stand : (other : ShapeTable) → MeetsRules table c.code other
      → StoredStand (kept_table c) other

-- a script's part, checked; of its name only what a string holds
pub record IsScriptOf (table : EngineTable) (part : Script) (l : Loaded) : Type 0 where
  pub checked : IsCheckedOf table part.code l.code
  pub name : l.name ≡ take text_limit part.name

abbrev pub AreScriptsOf : EngineTable → List Script → List Loaded → Type 0
AreScriptsOf table [] [] = Unit {0}
AreScriptsOf table [] (l ∷ ls) = ⊥
AreScriptsOf table (part ∷ parts) [] = ⊥
AreScriptsOf table (part ∷ parts) (l ∷ ls) = IsScriptOf table part l × AreScriptsOf table parts ls

-- each is well stacked under the header
abbrev pub AreSound : EngineTable → List Script → Type 0
AreSound table parts = AllByRecursion (λ (part : Script). IsSound table part.code) parts

-- all are well stacked, and the first ones, as many as a play may have, are these
pub record KeepsScripts (table : EngineTable) (parts : List Script) (ls : List Loaded) : Type 0 where
  pub sound : AreSound table parts
  pub kept : AreScriptsOf table (take script_limit parts) ls

-- ---- the area

-- the area that bytes tell, with so many objects
pub record IsReadFrom (bytes : List ℕ) (objects : ℕ) (read : PlainArea) : Type 0 where
  pub tree : PlainGff
  pub of : IsAreaOf tree bytes
  pub area : read ≡ area_of tree
  pub counted : objects ≡ length read.objects

-- ---- the agenda

-- what is asked of an entry by itself
pub record IsWaiting (next clock objects : ℕ) (e : Entry) : Type 0 where
  pub below : e.number < next
  pub due : clock ≤ e.due
  pub placed : IsPlaced objects (kind_of e.kind)

-- it is taken before the first of these
abbrev pub IsBeforeFirst : Entry → List Entry → Type 0
IsBeforeFirst e [] = Unit {0}
IsBeforeFirst e (a ∷ rest) = IsBefore (entry_of e) (entry_of a)

abbrev pub has_number : BTreeSet ℕ → ℕ → Bool
has_number numbers n = contains nat_cmp numbers n

abbrev pub is_numbered : List Entry → ℕ → Bool
is_numbered entries n = list_any (λ (e : Entry). nat_eq n e.number) entries

-- the set has one number more
abbrev pub AddsNumber : BTreeSet ℕ → ℕ → BTreeSet ℕ → Type 0
AddsNumber before number after = (n : ℕ)
    → has_number after n ≡ (nat_eq n number || has_number before n)

-- the set has the numbers of these
abbrev pub HasNumbers : BTreeSet ℕ → List Entry → Type 0
HasNumbers numbers entries = (n : ℕ) → has_number numbers n ≡ is_numbered entries n

-- ---- captured states

-- the state fits the table that is kept for its script
pub record IsFitting (scripts : List Loaded) (c : Captured) : Type 0 where
  pub loaded : Loaded
  pub listed : slice_get scripts c.script ≡ Some loaded
  pub fits : Fits (kept_table loaded.code) (saved_of c)

-- ---- Turns

-- under each place how many Turns the object of the number above it has
abbrev pub CountsTurns : List ℕ → List Entry → ℕ → Type 0
CountsTurns counts entries objects = (i : ℕ) → i < objects
    → slice_get counts i ≡ Some (turn_count (suc i) (map entry_of entries))

-- an entry is a Turn of the object of this number, and 0 tells that it is none
abbrev pub IsTurnOnlyOf : ℕ → Entry → Type 0
IsTurnOnlyOf object e = (i : ℕ) → is_turn_of (suc i) (entry_of e) ≡ nat_eq object (suc i)

-- one count more, where the entry is a Turn
abbrev pub CountsOne : List ℕ → Entry → List ℕ → Type 0
CountsOne before e after = (i : ℕ)
    → slice_get after i ≡ option_map
    (λ (n : ℕ). if is_turn_of (suc i) (entry_of e) then suc n else n) (slice_get before i)

-- ---- what a state's bytes are of

pub record IsPreparedFor (s : Parts) (p : Prepared) : Type 0 where
  pub header : IsHeaderOf s.header p.table
  pub scripts : KeepsScripts p.table s.scripts p.scripts
  pub area : IsReadFrom s.area (length s.objects) p.area
