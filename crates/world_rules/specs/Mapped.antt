-- A world with its stored actions changed, each by itself, and all else as it is.
use Rattle.std.specs.Prelude.{map}
use Rattle.std.specs.Option.{option_map}
use Rattle.action_queue.specs.Queued.{Queued}
use Rattle.action_queue.specs.declared.queue.Item.{Item}
use Rattle.action_queue.specs.declared.queue.Item.TheVariants.{Do, Wait, Speak}
use Rattle.delay_agenda.specs.Waiting.{Waiting}
use Rattle.delay_agenda.specs.declared.entry.Entry.{Entry}
use Rattle.delay_agenda.specs.declared.entry.Kind.{Kind}
use Rattle.delay_agenda.specs.declared.entry.Kind.TheVariants.{Event, Stored, Turn, Unapply}
use Rattle.world_rules.specs.declared.data.Things.{Things}
use Rattle.world_rules.specs.World.{World}
use Rattle.world_rules.specs.Rows.{Call, Answered}
use Rattle.world_rules.specs.Turns.{Begun, Turned}

abbrev pub map_kind : {X Y : Type 0} → (X → Y) → Kind X → Kind Y
map_kind f (Event o script user) = Event o script user
map_kind f (Stored o x) = Stored o (f x)
map_kind f (Turn o) = Turn o
map_kind f (Unapply o) = Unapply o

abbrev pub map_entry : {X Y : Type 0} → (X → Y) → Entry X → Entry Y
map_entry f e = record { due = e.due; number = e.number; kind = map_kind f e.kind }

abbrev pub map_waiting : {X Y : Type 0} → (X → Y) → Waiting X → Waiting Y
map_waiting f a = record { entries = map (map_entry f) a.entries; next = a.next }

abbrev pub map_item : {X Y : Type 0} → (X → Y) → Item X → Item Y
map_item f (Do x) = Do (f x)
map_item f (Wait ms) = Wait ms
map_item f (Speak bytes) = Speak bytes

abbrev pub map_queue : {X Y : Type 0} → (X → Y) → Queued X → Queued Y
map_queue f q = record { actions = map (map_item f) q.actions; busy = q.busy }

abbrev pub map_things : {X Y : Type 0} → (X → Y) → Things X → Things Y
map_things f t = record { queue = map_queue f t.queue; effects = t.effects }

abbrev pub map_world : {X Y : Type 0} → (X → Y) → World X → World Y
map_world f w = record {
  clock = w.clock;
  area = w.area;
  things = map (map_things f) w.things;
  agenda = map_waiting f w.agenda;
  trace = w.trace;
  random = w.random;
  user = w.user;
  version = w.version;
}

abbrev pub map_call : {X Y : Type 0} → (X → Y) → Call X → Call Y
map_call f c = record { caller = c.caller; values = c.values; action = option_map f c.action }

abbrev pub map_answered : {X Y : Type 0} → (X → Y) → Answered X → Answered Y
map_answered f a = record { value = a.value; world = map_world f a.world }

abbrev pub map_begun : {X Y : Type 0} → (X → Y) → Begun X → Begun Y
map_begun f b = record { entry = map_entry f b.entry; world = map_world f b.world }

abbrev pub map_turned : {X Y : Type 0} → (X → Y) → Turned X → Turned Y
map_turned f t = record { action = option_map f t.action; world = map_world f t.world }
