-- How a world begins, how its agenda entries are begun, and what those do that run no script.
use Rattle.std.specs.Prelude.{ℕ, ℤ, pos, false, nat_le, if◌then◌else◌, List, [], ◌∷◌, Option, None, Some, length, replicate}
use Rattle.std.specs.List.{find, fold}
use Rattle.action_queue.specs.declared.queue.Item.{Item}
use Rattle.action_queue.specs.declared.queue.Item.TheVariants.{Do, Wait, Speak}
use Rattle.area_rules.specs.Area.{PlainArea}
use Rattle.delay_agenda.specs.declared.entry.Entry.{Entry}
use Rattle.delay_agenda.specs.declared.entry.Kind.{Kind}
use Rattle.delay_agenda.specs.declared.entry.Kind.TheVariants.{Event, Stored, Turn, Unapply}
use Rattle.world_rules.specs.declared.data.Stood.{Stood}
use Rattle.world_rules.specs.declared.data.Things.{Things}
use Rattle.world_rules.specs.declared.data.Told.TheVariants as line
use Rattle.world_rules.specs.World.{World, queue_of, effects_of}
use Rattle.world_rules.specs.Changes.{told, post, later, with_actions, with_busy, with_effects, without_first, is_numbered}

-- ---- the world at the beginning of a play

-- an event or a start of a plan
pub record Planned : Type 0 where
  pub due : ℕ
  pub object : ℕ
  pub script : List ℕ

-- an object that has nothing to do, and on which no effect stands
abbrev pub idle : {X : Type 0} → Things X
idle = record { queue = record { actions = []; busy = false }; effects = [] }

-- the world of an area before anything is planned
abbrev pub still : {X : Type 0} → PlainArea → List ℕ → ℕ → World X
still area random version = record {
  clock = 0;
  area = area;
  things = replicate (length area.objects) idle;
  agenda = record { entries = []; next = 0 };
  trace = [];
  random = random;
  user = pos 0;
  version = version;
}

abbrev pub with_planned : {X : Type 0} → World X → Planned → World X
with_planned w p = post p.due (Event p.object p.script (pos 0)) w

-- the world of an area with the plan's events, which have the numbers from 0 on
abbrev pub new_world : {X : Type 0} → PlainArea → List ℕ → List Planned → ℕ → World X
new_world area random events version = fold with_planned (still area random version) events

-- ---- the next entry

-- the user number of an entry: an event's own, and 0 of every other
abbrev pub user_number : {X : Type 0} → Kind X → ℤ
user_number (Event o script user) = user
user_number (Stored o x) = pos 0
user_number (Turn o) = pos 0
user_number (Unapply o) = pos 0

-- an entry that is begun, and the world in which it runs
pub record Begun (X : Type 0) : Type 0 where
  pub entry : Entry X
  pub world : World X

abbrev pub with_entries : {X : Type 0} → List (Entry X) → World X → World X
with_entries entries w = record w { agenda = record w.agenda { entries = entries } }

abbrev pub entry_begun : {X : Type 0} → ℕ → List (Entry X) → World X → Option (Begun X)
entry_begun until [] w = None
entry_begun until (e ∷ rest) w =
    if nat_le e.due until
    then Some (record {
      entry = e;
      world = record (with_entries rest w) {
        clock = e.due;
        user = user_number e.kind;
      };
    }) else None

-- the entry that is taken next, where one is due by this time: the clock goes on to when it is due
abbrev pub begin : {X : Type 0} → ℕ → World X → Option (Begun X)
begin until w = entry_begun until w.agenda.entries w

-- ---- a Turn

-- after an action was done the object turns to the next one at once; where it has none, it isn't
-- busy any more
abbrev pub next_turn : {X : Type 0} → ℕ → List (Item X) → World X → World X
next_turn o [] w = with_busy o false w
next_turn o (item ∷ rest) w = post w.clock (Turn o) w

abbrev pub turn_done : {X : Type 0} → ℕ → World X → World X
turn_done o w = next_turn o (queue_of o w).actions w

-- what a Turn comes to: a stored action that is to be run, after which the Turn is done, or none
pub record Turned (X : Type 0) : Type 0 where
  pub action : Option X
  pub world : World X

abbrev pub turned : {X : Type 0} → ℕ → List (Item X) → World X → Turned X
turned o [] w = record { action = None; world = with_busy o false w }
turned o (Do x ∷ rest) w = record { action = Some x; world = with_actions o rest w }
turned o (Wait ms ∷ rest) w = record {
  action = None;
  world = post (later ms w) (Turn o) (with_actions o rest w);
}
turned o (Speak bytes ∷ rest) w = record {
  action = None;
  world = turn_done o (told o (line.Speak bytes) (with_actions o rest w));
}

-- the object turns to the first action of its queue
abbrev pub turn : {X : Type 0} → ℕ → World X → Turned X
turn o w = turned o (queue_of o w).actions w

-- ---- the end of an effect for a time

abbrev pub expired : {X : Type 0} → ℕ → ℕ → Option Stood → World X → World X
expired o number None w = w
expired o number (Some s) w =
    told o (line.Expire s.effect)
    (with_effects o (without_first (is_numbered number) (effects_of o w)) w)

-- the first effect of this number that stands on the object ends, where there is one
abbrev pub unapply : {X : Type 0} → ℕ → ℕ → World X → World X
unapply o number w = expired o number (find (is_numbered number) (effects_of o w)) w

-- ---- the end of an entry

-- a division by zero ended the entry, in a script of this object
abbrev pub fault : {X : Type 0} → ℕ → World X → World X
fault o w = told o line.Divide w

-- the lines were printed, and none is kept
abbrev pub drained : {X : Type 0} → World X → World X
drained w = record w { trace = [] }
