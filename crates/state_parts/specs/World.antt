-- The world that a state's parts tell.
use Rattle.std.specs.Prelude.{pos, List, [], ◌∷◌, map}
use Rattle.nwq_value.specs.Effect.{Effect}
use Rattle.nwq_value.specs.declared.value.Value.TheVariants as value
use Rattle.saved_state.specs.declared.cell.Cell.{Cell}
use Rattle.saved_state.specs.declared.cell.Cell.TheVariants.{Value as Holds}
use Rattle.saved_state.specs.declared.saved.Saved.{Saved}
use Rattle.local_variables.specs.Variables.{Variable, IntVar, TextVar}
use Rattle.action_queue.specs.declared.queue.Item.{Item}
use Rattle.action_queue.specs.declared.queue.Item.TheVariants.{Do, Wait, Speak}
use Rattle.delay_agenda.specs.declared.entry.Entry.{Entry}
use Rattle.delay_agenda.specs.declared.entry.Kind.{Kind}
use Rattle.delay_agenda.specs.declared.entry.Kind.TheVariants.{Event, Stored, Turn, Unapply}
use Rattle.gff_tree.specs.Whole.{PlainGff}
use Rattle.area_rules.specs.Objects.{AreaObject, objects_of}
use Rattle.area_rules.specs.Area.{PlainArea}
use Rattle.world_rules.specs.declared.data.Stood.{Stood}
use Rattle.world_rules.specs.declared.data.Things.{Things}
use Rattle.world_rules.specs.World.{World}
use Rattle.state_format.specs.declared.parts.Effect.{Effect as EffectPart}
use Rattle.state_format.specs.declared.parts.Cell.{Cell as CellPart}
use Rattle.state_format.specs.declared.parts.Cell.TheVariants as cell
use Rattle.state_format.specs.declared.parts.Captured.{Captured}
use Rattle.state_format.specs.declared.parts.Variable.{Variable as VariablePart}
use Rattle.state_format.specs.declared.parts.Variable.TheVariants as variable
use Rattle.state_format.specs.declared.parts.Standing.{Standing}
use Rattle.state_format.specs.declared.parts.Item.{Item as ItemPart}
use Rattle.state_format.specs.declared.parts.Item.TheVariants as item
use Rattle.state_format.specs.declared.parts.Object.{Object}
use Rattle.state_format.specs.declared.parts.KindPart.{KindPart}
use Rattle.state_format.specs.declared.parts.KindPart.TheVariants as kind
use Rattle.state_format.specs.declared.parts.Entry.{Entry as EntryPart}
use Rattle.state_format.specs.declared.parts.Parts.{Parts}

abbrev pub effect_of : EffectPart → Effect
effect_of e = record { routine = e.routine; ints = e.ints }

-- ---- captured states

abbrev pub cell_of : CellPart → Cell
cell_of (cell.Int n) = Holds (value.Int n)
cell_of (cell.Text text) = Holds (value.Text text)
cell_of (cell.Object o) = Holds (value.Object o)
cell_of (cell.Effect e) = Holds (value.Effect (effect_of e))
cell_of (cell.Event n) = Holds (value.Event n)

abbrev pub saved_of : Captured → Saved
saved_of c = record {
  script = c.script;
  place = c.place;
  globals = map cell_of c.globals;
  locals = map cell_of c.locals;
}

-- ---- objects

abbrev pub variable_of : VariablePart → Variable
variable_of (variable.Int name n) = IntVar name n
variable_of (variable.Text name text) = TextVar name text

abbrev pub variables_of : Object → List Variable
variables_of o = map variable_of o.variables

abbrev pub stood_of : Standing → Stood
stood_of s = record { number = s.number; effect = effect_of s.effect }

abbrev pub item_of : ItemPart → Item Saved
item_of (item.Do c) = Do (saved_of c)
item_of (item.Wait ms) = Wait ms
item_of (item.Speak text) = Speak text

abbrev pub things_of : Object → Things Saved
things_of o = record {
  queue = record { actions = map item_of o.items; busy = o.busy };
  effects = map stood_of o.effects;
}

-- objects of an area, each with the variables of one of these in the place of its own
abbrev pub with_variables : List AreaObject → List Object → List AreaObject
with_variables [] parts = []
with_variables (object ∷ objects) [] = object ∷ objects
with_variables (object ∷ objects)
    (part ∷ parts) = record object { vars = variables_of part } ∷ with_variables objects parts

-- ---- the agenda

abbrev pub kind_of : KindPart → Kind Saved
kind_of (kind.Event o script user) = Event o script user
kind_of (kind.Stored o c) = Stored o (saved_of c)
kind_of (kind.Turn o) = Turn o
kind_of (kind.Unapply o) = Unapply o

abbrev pub entry_of : EntryPart → Entry Saved
entry_of e = record { due = e.due; number = e.number; kind = kind_of e.kind }

abbrev pub entries_of : Parts → List (Entry Saved)
entries_of s = map entry_of s.agenda

-- ---- the whole

-- the area of a tree, whose objects have the state's variables
abbrev pub area_from : PlainGff → Parts → PlainArea
area_from tree s = record { tree = tree; objects = with_variables (objects_of tree.top) s.objects }

-- the world of a state whose area's bytes stand for this tree: no lines are kept, and no event runs
abbrev pub world_of : PlainGff → Parts → World Saved
world_of tree s = record {
  clock = s.clock;
  area = area_from tree s;
  things = map things_of s.objects;
  agenda = record { entries = entries_of s; next = s.next };
  trace = [];
  random = s.random;
  user = pos 0;
  version = s.version;
}
