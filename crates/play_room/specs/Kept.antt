-- What every play keeps of the values in its world.
use Rattle.std.specs.Prelude.{◌<◌, ℕ, ℤ, List, length, Option, None, Some}
use Rattle.std.specs.List.{AllByRecursion}
use Rattle.nwq_value.specs.declared.value.Value.{Value}
use Rattle.saved_state.specs.declared.cell.Cell.{Cell}
use Rattle.saved_state.specs.declared.cell.Cell.TheVariants.{Value as Holds, Base}
use Rattle.saved_state.specs.declared.saved.Saved.{Saved}
use Rattle.area_rules.specs.Area.{PlainArea}
use Rattle.area_rules.specs.Objects.{AreaObject, Script}
use Rattle.delay_agenda.specs.declared.entry.Entry.{Entry}
use Rattle.delay_agenda.specs.declared.entry.Kind.{Kind}
use Rattle.delay_agenda.specs.declared.entry.Kind.TheVariants.{Event, Stored, Turn, Unapply}
use Rattle.world_rules.specs.declared.data.Stood.{Stood}
use Rattle.world_rules.specs.declared.data.Things.{Things}
use Rattle.world_rules.specs.Pure.{CellLookup}
use Rattle.world_rules.specs.World.{World}
use Rattle.state_format.specs.Parts.{AreStateBytes, IsMaybe, IsNumber, IsSigned}
use Rattle.play_room.specs.Room.{IsText, EffectHasRoom, ValueHasRoom, SavedHasRoom, ItemHasRoom, ObjectHasRoom, EntryHasRoom}

-- cells that are looked up in tables are bytes
abbrev pub CellsAreBytes : CellLookup → Type 0
CellsAreBytes cell = (table column : List ℕ) (row : ℤ) → AreStateBytes (cell table column row)

-- ---- a stack, where a base is a place of it

abbrev pub StackedHasRoom : Cell → Type 0
StackedHasRoom (Holds v) = ValueHasRoom v
StackedHasRoom (Base bp) = Unit {0}

abbrev pub MaybeValueHasRoom : Option Value → Type 0
MaybeValueHasRoom None = Unit {0}
MaybeValueHasRoom (Some v) = ValueHasRoom v

abbrev pub ActionHasRoom : Option Saved → Type 0
ActionHasRoom None = Unit {0}
ActionHasRoom (Some s) = SavedHasRoom s

-- ---- a world

-- the tag is bytes, and so are the names of scripts, which are short as well
pub record ObjectIsKept (o : AreaObject) : Type 0 where
  pub tag : AreStateBytes o.tag
  pub scripts : AllByRecursion (λ (s : Script). IsText s.name) o.scripts
  pub vars : ObjectHasRoom o

-- an area's objects are so few that each has a number, and what they have are bytes
pub record AreaIsKept (area : PlainArea) : Type 0 where
  pub few : IsNumber 4 (length area.objects)
  pub objects : AllByRecursion ObjectIsKept area.objects

-- an effect that ends has the number of an entry that was posted before
abbrev pub StoodIsKept : ℕ → Stood → Type 0
StoodIsKept next s = IsMaybe (λ n. n < next) s.number × EffectHasRoom s.effect

pub record ThingsAreKept (next : ℕ) (t : Things Saved) : Type 0 where
  pub effects : AllByRecursion (StoodIsKept next) t.effects
  pub items : AllByRecursion ItemHasRoom t.queue.actions

-- the object that an entry is of has a number that fits
abbrev pub object_of : Kind Saved → ℕ
object_of (Event o script user) = o
object_of (Stored o s) = o
object_of (Turn o) = o
object_of (Unapply o) = o

abbrev pub EntryIsKept : Entry Saved → Type 0
EntryIsKept e = IsNumber 4 (object_of e.kind) × EntryHasRoom e

pub record WorldIsKept (w : World Saved) : Type 0 where
  pub random : AllByRecursion (IsNumber 4) w.random
  pub area : AreaIsKept w.area
  pub things : AllByRecursion (ThingsAreKept w.agenda.next) w.things
  pub agenda : AllByRecursion EntryIsKept w.agenda.entries
  pub user : IsSigned w.user
