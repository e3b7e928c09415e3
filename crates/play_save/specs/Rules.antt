-- Which states a play can go on from: seven rules, and the first that is broken.
use Rattle.std.specs.Prelude.{◌≡◌, ◌<◌, ◌≤◌, ◌^◌, ◌⊎◌, ℕ, zero, suc, false, List, [], ◌∷◌, length, map, Option, None, Some, IsTrue, slice_get}
use Rattle.std.specs.List.{AllByRecursion, IsDistinct, list_all}
use Rattle.std.specs.Str.{bytes_eq}
use Rattle.nwq_value.specs.Engine.{EngineTable}
use Rattle.nwq_value.specs.HeaderTable.{header_table}
use Rattle.nwq_value.specs.Limits.{file_limit, instruction_limit, entry_limit, time_limit, script_limit, random_limit}
use Rattle.nwq_text.specs.Names.{is_script_name}
use Rattle.engine_table.specs.Headers.{HasTable}
use Rattle.ncs_code.specs.Plain.{PlainOp}
use Rattle.ncs_code.specs.File.{IsCode, file_bytes}
use Rattle.gff_tree.specs.Whole.{PlainGff}
use Rattle.gff_read.specs.Stands.{Stands}
use Rattle.local_variables.specs.Variables.{same_variable}
use Rattle.area_rules.specs.Objects.{objects_of}
use Rattle.area_rules.specs.Broken.{broken_places}
use Rattle.delay_agenda.specs.declared.entry.Entry.{Entry as AgendaEntry}
use Rattle.saved_state.specs.declared.saved.Saved.{Saved}
use Rattle.delay_agenda.specs.Waiting.{IsAgenda, turn_count}
use Rattle.world_rules.specs.Kept.{IsPlaced, turns_allowed}
use Rattle.stack_rules.specs.Tables.{ShapeTable}
use Rattle.stack_rules.specs.Rules.{MeetsRules, WellStacked}
use Rattle.stack_rules.specs.Fits.{Fits}
use Rattle.state_format.specs.declared.parts.Captured.{Captured}
use Rattle.state_format.specs.declared.parts.Item.{Item}
use Rattle.state_format.specs.declared.parts.Item.TheVariants as item
use Rattle.state_format.specs.declared.parts.Object.{Object}
use Rattle.state_format.specs.declared.parts.KindPart.{KindPart}
use Rattle.state_format.specs.declared.parts.KindPart.TheVariants as kind
use Rattle.state_format.specs.declared.parts.Entry.{Entry}
use Rattle.state_format.specs.declared.parts.Script.{Script}
use Rattle.state_format.specs.declared.parts.Parts.{Parts}
use Rattle.state_parts.specs.World.{saved_of, variables_of, kind_of, entry_of, entries_of}
use Rattle.state_parts.specs.ShortTexts.{has_short_items, is_short_entry}

-- ---- 1: the header

-- the bytes are a header with this table; without bytes it is the built-in one
abbrev pub IsHeaderOf : Option (List ℕ) → EngineTable → Type 0
IsHeaderOf None table = table ≡ header_table
IsHeaderOf (Some bytes) table = (length bytes ≤ file_limit) × HasTable bytes table

abbrev pub HasHeader : Parts → Type 0
HasHeader s = (table : EngineTable) × IsHeaderOf s.header table

-- ---- 2: the scripts

-- the bytes are a file of these instructions
pub record IsFileOf (ops : List PlainOp) (bytes : List ℕ) : Type 0 where
  pub code : IsCode ops
  pub spelled : bytes ≡ file_bytes ops

-- the bytes are a well-stacked file
pub record IsSound (table : EngineTable) (bytes : List ℕ) : Type 0 where
  pub ops : List PlainOp
  pub file : IsFileOf ops bytes
  pub stacked : WellStacked table ops

pub record HasScripts (s : Parts) : Type 0 where
  pub table : EngineTable
  pub header : IsHeaderOf s.header table
  pub scripts : AllByRecursion (λ (x : Script). IsSound table x.code) s.scripts

-- ---- 3: the area

-- the bytes stand for a tree that is an area
pub record IsAreaOf (tree : PlainGff) (bytes : List ℕ) : Type 0 where
  pub small : length bytes ≤ file_limit
  pub stands : Stands bytes tree
  pub whole : broken_places tree.top ≡ []

pub record HasArea (s : Parts) : Type 0 where
  pub tree : PlainGff
  pub area : IsAreaOf tree s.area
  pub counted : length s.objects ≡ length (objects_of tree.top)

-- ---- captured states, wherever they are

-- a captured state of an action, and of an entry, is so
abbrev pub ItemHolds : (Captured → Type 0) → Item → Type 0
ItemHolds Is (item.Do c) = Is c
ItemHolds Is (item.Wait ms) = Unit {0}
ItemHolds Is (item.Speak text) = Unit {0}

abbrev pub KindHolds : (Captured → Type 0) → KindPart → Type 0
KindHolds Is (kind.Event o script user) = Unit {0}
KindHolds Is (kind.Stored o c) = Is c
KindHolds Is (kind.Turn o) = Unit {0}
KindHolds Is (kind.Unapply o) = Unit {0}

-- ---- 4: limits, names and texts

-- numbers below this one leave room to go on counting
abbrev pub count_limit : ℕ
count_limit = 2 ^ 61

-- the limits that a plan may set
pub record HasBounds (s : Parts) : Type 0 where
  pub version : (s.version ≡ 1) ⊎ (s.version ≡ 2)
  pub limit : (1 ≤ s.limit) × (s.limit ≤ instruction_limit)
  pub entries : (1 ≤ s.entries) × (s.entries ≤ entry_limit)
  pub until : s.until ≤ time_limit
  pub scripts : length s.scripts ≤ script_limit
  pub random : length s.random ≤ random_limit

-- how far the play has come
pub record HasCounts (s : Parts) : Type 0 where
  pub taken : s.taken ≤ s.entries
  pub clock : s.clock ≤ s.until
  pub done : s.done < count_limit
  pub next : s.next < count_limit
  pub due : AllByRecursion (λ (e : Entry). e.due < count_limit) s.agenda

-- each script has the name of one, and no two have the same
pub record AreNamed (scripts : List Script) : Type 0 where
  pub names : AllByRecursion (λ (x : Script). IsTrue (is_script_name x.name)) scripts
  pub distinct : IsDistinct bytes_eq (map (λ (x : Script). x.name) scripts)

-- no two variables of an object have one type and name, and texts that are no variables' are as
-- long as a string may be
pub record HasTexts (s : Parts) : Type 0 where
  pub variables : AllByRecursion
      (λ (o : Object). IsDistinct same_variable (variables_of o)) s.objects
  pub items : IsTrue (list_all has_short_items s.objects)
  pub entries : IsTrue (list_all is_short_entry s.agenda)

pub record KeepsLimits (s : Parts) : Type 0 where
  pub bounds : HasBounds s
  pub counts : HasCounts s
  pub names : AreNamed s.scripts
  pub texts : HasTexts s

-- ---- 5: the agenda

-- Entries that wait: they are in order, their numbers distinct and below the next. None was due
-- before the clock, and their objects are there, of so many.
pub record AreWaiting (next clock objects : ℕ) (entries : List Entry) : Type 0 where
  pub agenda : IsAgenda (record { entries = map entry_of entries; next = next })
  pub due : AllByRecursion (λ (e : Entry). clock ≤ e.due) entries
  pub placed : AllByRecursion (λ (e : Entry). IsPlaced objects (kind_of e.kind)) entries

abbrev pub HasAgenda : Parts → Type 0
HasAgenda s = AreWaiting s.next s.clock (length s.objects) s.agenda

-- ---- 6: captured states

-- The state is one of a script that is there, and fits each table of shapes that meets the rules
-- for its code under the header.
pub record IsCapturedIn (s : Parts) (c : Captured) : Type 0 where
  pub script : Script
  pub listed : slice_get s.scripts c.script ≡ Some script
  pub fits : (table : EngineTable) (ops : List PlainOp) (shapes : ShapeTable)
      → IsHeaderOf s.header table → IsFileOf ops script.code
      → MeetsRules table ops shapes → Fits shapes (saved_of c)

pub record HasStates (s : Parts) : Type 0 where
  pub items : AllByRecursion
      (λ (o : Object). AllByRecursion (ItemHolds (IsCapturedIn s)) o.items) s.objects
  pub entries : AllByRecursion (λ (e : Entry). KindHolds (IsCapturedIn s) e.kind) s.agenda

-- ---- 7: Turns

-- an object with so many Turns on the agenda is busy where it has one; one that isn't busy has
-- none, and nothing to do
pub record IsSettledBy (turns : ℕ) (o : Object) : Type 0 where
  pub own : turns ≡ turns_allowed o.busy
  pub idle : o.busy ≡ false → o.items ≡ []

-- so is each object, by its number
abbrev pub AreSettled : List (AgendaEntry Saved) → List Object → Type 0
AreSettled entries objects = (i : ℕ) (o : Object) → slice_get objects i ≡ Some o
    → IsSettledBy (turn_count (suc i) entries) o

abbrev pub HasTurns : Parts → Type 0
HasTurns s = AreSettled (entries_of s) s.objects

-- ---- all of them

abbrev pub Rule : Type 1
Rule = Parts → Type 0

-- the rules in their order, numbered from 1
abbrev pub rules : List Rule
rules = HasHeader ∷ HasScripts ∷ HasArea ∷ KeepsLimits ∷ HasAgenda ∷ HasStates ∷ HasTurns ∷ []

abbrev pub KeepsAll : List Rule → Rule
KeepsAll [] s = Unit {0}
KeepsAll (rule ∷ rest) s = rule s × KeepsAll rest s

-- a play can go on from the state
abbrev pub IsAccepted : Parts → Type 0
IsAccepted s = KeepsAll rules s

-- the rule of this number, counted from 1, is broken, and all before it are kept
abbrev pub IsFirstBroken : ℕ → List Rule → Rule
IsFirstBroken n [] s = ⊥
IsFirstBroken zero (rule ∷ rest) s = ⊥
IsFirstBroken (suc zero) (rule ∷ rest) s = rule s → ⊥
IsFirstBroken (suc (suc n)) (rule ∷ rest) s = rule s × IsFirstBroken (suc n) rest s

abbrev pub IsUnfit : ℕ → Parts → Type 0
IsUnfit n s = IsFirstBroken n rules s
