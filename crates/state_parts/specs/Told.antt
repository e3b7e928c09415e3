-- The part of a state that tells each value of a world.
use Rattle.std.specs.Prelude.{ℤ, pos, List, [], ◌∷◌, map}
use Rattle.nwq_value.specs.Effect.{Effect}
use Rattle.nwq_value.specs.declared.value.Value.TheVariants as value
use Rattle.saved_state.specs.declared.cell.Cell.{Cell}
use Rattle.saved_state.specs.declared.cell.Cell.TheVariants.{Value as Holds, Base}
use Rattle.saved_state.specs.declared.saved.Saved.{Saved}
use Rattle.local_variables.specs.Variables.{Variable, IntVar, TextVar}
use Rattle.area_rules.specs.Objects.{AreaObject}
use Rattle.action_queue.specs.declared.queue.Item.{Item}
use Rattle.action_queue.specs.declared.queue.Item.TheVariants.{Do, Wait, Speak}
use Rattle.delay_agenda.specs.declared.entry.Entry.{Entry}
use Rattle.delay_agenda.specs.declared.entry.Kind.{Kind}
use Rattle.delay_agenda.specs.declared.entry.Kind.TheVariants.{Event, Stored, Turn, Unapply}
use Rattle.world_rules.specs.declared.data.Stood.{Stood}
use Rattle.world_rules.specs.declared.data.Things.{Things}
use Rattle.state_format.specs.declared.parts.Effect.{Effect as EffectPart}
use Rattle.state_format.specs.declared.parts.Cell.{Cell as CellPart}
use Rattle.state_format.specs.declared.parts.Cell.TheVariants as cell
use Rattle.state_format.specs.declared.parts.Captured.{Captured}
use Rattle.state_format.specs.declared.parts.Variable.{Variable as VariablePart}
use Rattle.state_format.specs.declared.parts.Variable.TheVariants as variable
use Rattle.state_format.specs.declared.parts.Standing.{Standing}
use Rattle.state_format.specs.declared.parts.Item.{Item as ItemPart}
use Rattle.state_format.specs.declared.parts.Item.TheVariants as item
use Rattle.state_format.specs.declared.parts.Object.{Object}
use Rattle.state_format.specs.declared.parts.KindPart.{KindPart}
use Rattle.state_format.specs.declared.parts.KindPart.TheVariants as kind
use Rattle.state_format.specs.declared.parts.Entry.{Entry as EntryPart}

-- ---- captured states

abbrev pub effect_part : Effect → EffectPart
effect_part e = record { routine = e.routine; ints = e.ints }

-- no captured state has a base, which tells nothing
abbrev pub cell_part : Cell → CellPart
cell_part (Holds (value.Int n)) = cell.Int n
cell_part (Holds (value.Text text)) = cell.Text text
cell_part (Holds (value.Object o)) = cell.Object o
cell_part (Holds (value.Effect e)) = cell.Effect (effect_part e)
cell_part (Holds (value.Event n)) = cell.Event n
cell_part (Base bp) = cell.Int (pos 0)

abbrev pub saved_part : Saved → Captured
saved_part s = record {
  script = s.script;
  place = s.place;
  globals = map cell_part s.globals;
  locals = map cell_part s.locals;
}

-- ---- objects

abbrev pub variable_part : Variable → VariablePart
variable_part (IntVar name n) = variable.Int name n
variable_part (TextVar name text) = variable.Text name text

abbrev pub stood_part : Stood → Standing
stood_part s = record { number = s.number; effect = effect_part s.effect }

abbrev pub item_part : Item Saved → ItemPart
item_part (Do s) = item.Do (saved_part s)
item_part (Wait ms) = item.Wait ms
item_part (Speak text) = item.Speak text

-- an object with these variables in the area
abbrev pub object_with : List Variable → Things Saved → Object
object_with vars t = record {
  busy = t.queue.busy;
  variables = map variable_part vars;
  effects = map stood_part t.effects;
  items = map item_part t.queue.actions;
}

abbrev pub object_part : AreaObject → Things Saved → Object
object_part o t = object_with o.vars t

-- as many as are in both lists
abbrev pub object_parts : List AreaObject → List (Things Saved) → List Object
object_parts [] ts = []
object_parts (o ∷ os) [] = []
object_parts (o ∷ os) (t ∷ ts) = object_part o t ∷ object_parts os ts

-- ---- the agenda

abbrev pub kind_part : Kind Saved → KindPart
kind_part (Event o script user) = kind.Event o script user
kind_part (Stored o s) = kind.Stored o (saved_part s)
kind_part (Turn o) = kind.Turn o
kind_part (Unapply o) = kind.Unapply o

abbrev pub entry_part : Entry Saved → EntryPart
entry_part e = record { due = e.due; number = e.number; kind = kind_part e.kind }
