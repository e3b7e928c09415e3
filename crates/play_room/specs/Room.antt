-- Worlds whose numbers and texts have room in the fields of a state. How many members a list has
-- isn't asked: of a state that is small enough to be a file, every list has few.
use Rattle.std.specs.Prelude.{◌≤◌, ℕ, List, length}
use Rattle.std.specs.List.{AllByRecursion}
use Rattle.nwq_value.specs.Effect.{Effect}
use Rattle.nwq_value.specs.Limits.{text_limit}
use Rattle.nwq_value.specs.declared.value.Value.{Value}
use Rattle.nwq_value.specs.declared.value.Value.TheVariants as value
use Rattle.saved_state.specs.declared.cell.Cell.{Cell}
use Rattle.saved_state.specs.declared.cell.Cell.TheVariants.{Value as Holds, Base}
use Rattle.saved_state.specs.declared.saved.Saved.{Saved}
use Rattle.local_variables.specs.Variables.{Variable, IntVar, TextVar}
use Rattle.area_rules.specs.Objects.{AreaObject}
use Rattle.action_queue.specs.declared.queue.Item.{Item}
use Rattle.action_queue.specs.declared.queue.Item.TheVariants.{Do, Wait, Speak}
use Rattle.delay_agenda.specs.declared.entry.Entry.{Entry}
use Rattle.delay_agenda.specs.declared.entry.Kind.{Kind}
use Rattle.delay_agenda.specs.declared.entry.Kind.TheVariants.{Event, Stored, Turn, Unapply}
use Rattle.world_rules.specs.declared.data.Stood.{Stood}
use Rattle.world_rules.specs.declared.data.Things.{Things}
use Rattle.world_rules.specs.World.{World}
use Rattle.state_format.specs.Parts.{AreStateBytes, IsMaybe, IsNumber, IsSigned}

-- ---- values

-- bytes of a string
abbrev pub IsText : List ℕ → Type 0
IsText text = (length text ≤ text_limit) × AreStateBytes text

abbrev pub EffectHasRoom : Effect → Type 0
EffectHasRoom e = IsNumber 2 e.routine × AllByRecursion IsSigned e.ints

abbrev pub ValueHasRoom : Value → Type 0
ValueHasRoom (value.Int n) = IsSigned n
ValueHasRoom (value.Text text) = IsText text
ValueHasRoom (value.Object o) = IsNumber 4 o
ValueHasRoom (value.Effect e) = EffectHasRoom e
ValueHasRoom (value.Event n) = IsSigned n

-- a base has no field
abbrev pub CellHasRoom : Cell → Type 0
CellHasRoom (Holds v) = ValueHasRoom v
CellHasRoom (Base bp) = ⊥

pub record SavedHasRoom (s : Saved) : Type 0 where
  pub script : IsNumber 4 s.script
  pub place : IsNumber 4 s.place
  pub globals : AllByRecursion CellHasRoom s.globals
  pub locals : AllByRecursion CellHasRoom s.locals

-- ---- objects

abbrev pub VariableHasRoom : Variable → Type 0
VariableHasRoom (IntVar name n) = AreStateBytes name × IsSigned n
VariableHasRoom (TextVar name text) = AreStateBytes name × AreStateBytes text

abbrev pub StoodHasRoom : Stood → Type 0
StoodHasRoom s = IsMaybe (IsNumber 8) s.number × EffectHasRoom s.effect

abbrev pub ItemHasRoom : Item Saved → Type 0
ItemHasRoom (Do s) = SavedHasRoom s
ItemHasRoom (Wait ms) = IsSigned ms
ItemHasRoom (Speak text) = IsText text

pub record ThingsHaveRoom (t : Things Saved) : Type 0 where
  pub effects : AllByRecursion StoodHasRoom t.effects
  pub items : AllByRecursion ItemHasRoom t.queue.actions

abbrev pub ObjectHasRoom : AreaObject → Type 0
ObjectHasRoom o = AllByRecursion VariableHasRoom o.vars

-- ---- the agenda

abbrev pub KindHasRoom : Kind Saved → Type 0
KindHasRoom (Event o script user) = IsText script × IsSigned user
KindHasRoom (Stored o s) = SavedHasRoom s
KindHasRoom (Turn o) = Unit {0}
KindHasRoom (Unapply o) = Unit {0}

abbrev pub EntryHasRoom : Entry Saved → Type 0
EntryHasRoom e = KindHasRoom e.kind

-- ---- the whole

-- every number and text of the world has a field of a state that holds it
pub record HasRoom (w : World Saved) : Type 0 where
  pub random : AllByRecursion (IsNumber 4) w.random
  pub variables : AllByRecursion ObjectHasRoom w.area.objects
  pub things : AllByRecursion ThingsHaveRoom w.things
  pub agenda : AllByRecursion EntryHasRoom w.agenda.entries
