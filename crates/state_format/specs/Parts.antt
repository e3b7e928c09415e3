-- Which parts can be written: numbers that their fields hold, bytes, and lists whose count a field
-- holds.
use Rattle.std.specs.Prelude.{◌<◌, ◌^◌, ℕ, ℤ, List, length, Option, None, Some, FitsSigned}
use Rattle.std.specs.List.{AllByRecursion}
use Rattle.std.specs.Int.{w32}
use Rattle.state_format.specs.declared.parts.Effect.{Effect}
use Rattle.state_format.specs.declared.parts.Cell.{Cell}
use Rattle.state_format.specs.declared.parts.Cell.TheVariants as cell
use Rattle.state_format.specs.declared.parts.Captured.{Captured}
use Rattle.state_format.specs.declared.parts.Variable.{Variable}
use Rattle.state_format.specs.declared.parts.Variable.TheVariants as variable
use Rattle.state_format.specs.declared.parts.Standing.{Standing}
use Rattle.state_format.specs.declared.parts.Item.{Item}
use Rattle.state_format.specs.declared.parts.Item.TheVariants as item
use Rattle.state_format.specs.declared.parts.Object.{Object}
use Rattle.state_format.specs.declared.parts.KindPart.{KindPart}
use Rattle.state_format.specs.declared.parts.KindPart.TheVariants as kind
use Rattle.state_format.specs.declared.parts.Entry.{Entry}
use Rattle.state_format.specs.declared.parts.Script.{Script}
use Rattle.state_format.specs.declared.parts.Parts.{Parts}

abbrev pub AreStateBytes : List ℕ → Type 0
AreStateBytes bytes = AllByRecursion (λ b. b < 256) bytes

-- a number of so many bytes
abbrev pub IsNumber : ℕ → ℕ → Type 0
IsNumber bytes n = n < 256 ^ bytes

abbrev pub IsSigned : ℤ → Type 0
IsSigned n = FitsSigned w32 n

-- bytes whose count fits
abbrev pub IsBlob : List ℕ → Type 0
IsBlob bytes = IsNumber 4 (length bytes) × AreStateBytes bytes

-- a list whose count fits, each member of this kind
abbrev pub IsList : {A : Type 0} → (A → Type 0) → List A → Type 0
IsList Is items = IsNumber 4 (length items) × AllByRecursion Is items

abbrev pub IsEffect : Effect → Type 0
IsEffect e = IsNumber 2 e.routine × IsList IsSigned e.ints

abbrev pub IsCell : Cell → Type 0
IsCell (cell.Int n) = IsSigned n
IsCell (cell.Text text) = IsBlob text
IsCell (cell.Object o) = IsNumber 4 o
IsCell (cell.Effect e) = IsEffect e
IsCell (cell.Event n) = IsSigned n

pub record IsCaptured (s : Captured) : Type 0 where
  pub script : IsNumber 4 s.script
  pub place : IsNumber 4 s.place
  pub globals : IsList IsCell s.globals
  pub locals : IsList IsCell s.locals

abbrev pub IsVariable : Variable → Type 0
IsVariable (variable.Int name n) = IsBlob name × IsSigned n
IsVariable (variable.Text name text) = IsBlob name × IsBlob text

abbrev pub IsMaybe : {A : Type 0} → (A → Type 0) → Option A → Type 0
IsMaybe Is None = Unit {0}
IsMaybe Is (Some x) = Is x

abbrev pub IsStanding : Standing → Type 0
IsStanding s = IsMaybe (IsNumber 8) s.number × IsEffect s.effect

abbrev pub IsItem : Item → Type 0
IsItem (item.Do s) = IsCaptured s
IsItem (item.Wait ms) = IsSigned ms
IsItem (item.Speak text) = IsBlob text

pub record IsObject (o : Object) : Type 0 where
  pub variables : IsList IsVariable o.variables
  pub effects : IsList IsStanding o.effects
  pub items : IsList IsItem o.items

abbrev pub IsKind : KindPart → Type 0
IsKind (kind.Event object script user) = IsNumber 4 object × (IsBlob script × IsSigned user)
IsKind (kind.Stored object state) = IsNumber 4 object × IsCaptured state
IsKind (kind.Turn object) = IsNumber 4 object
IsKind (kind.Unapply object) = IsNumber 4 object

pub record IsEntry (e : Entry) : Type 0 where
  pub due : IsNumber 8 e.due
  pub number : IsNumber 8 e.number
  pub kind : IsKind e.kind

abbrev pub IsScript : Script → Type 0
IsScript s = IsBlob s.name × IsBlob s.code

-- the parts can be written
pub record HasForm (s : Parts) : Type 0 where
  pub header : IsMaybe IsBlob s.header
  pub scripts : IsList IsScript s.scripts
  pub area : IsBlob s.area
  pub version : IsNumber 1 s.version
  pub limit : IsNumber 8 s.limit
  pub entries : IsNumber 8 s.entries
  pub until : IsNumber 8 s.until
  pub clock : IsNumber 8 s.clock
  pub taken : IsNumber 8 s.taken
  pub done : IsNumber 8 s.done
  pub next : IsNumber 8 s.next
  pub random : IsList (IsNumber 4) s.random
  pub objects : IsList IsObject s.objects
  pub agenda : IsList IsEntry s.agenda
