-- What entries begin with and what they do without a script keeps the values of a world.
use Rattle.std.proofs.Common.{ℕ, Bool, true, false, List, [], ◌∷◌, Option, None, Some}
use Rattle.std.specs.Prelude.{if◌then◌else◌, nat_le}
use Rattle.std.specs.List.{AllByRecursion, find}
use Rattle.action_queue.specs.declared.queue.Item.{Item}
use Rattle.action_queue.specs.declared.queue.Item.TheVariants.{Do, Wait, Speak}
use Rattle.delay_agenda.specs.declared.entry.Entry.{Entry}
use Rattle.delay_agenda.specs.declared.entry.Kind.{Kind}
use Rattle.delay_agenda.specs.declared.entry.Kind.TheVariants.{Event, Stored, Turn, Unapply}
use Rattle.saved_state.specs.declared.saved.Saved.{Saved}
use Rattle.state_format.specs.Parts.{IsNumber, IsSigned}
use Rattle.world_rules.specs.declared.data.Stood.{Stood}
use Rattle.world_rules.specs.declared.data.Told.TheVariants as line
use Rattle.world_rules.specs.World.{World, queue_of, effects_of}
use Rattle.world_rules.specs.Changes.{told, later, with_actions, with_effects, without_first, is_numbered}
use Rattle.world_rules.specs.Turns.{Begun, user_number, with_entries, entry_begun, next_turn, turned, expired}
use Rattle.play_room.specs.Room.{ItemHasRoom, KindHasRoom}
use Rattle.play_room.specs.Kept.{ActionHasRoom, StoodIsKept, EntryIsKept, WorldIsKept}
use Rattle.play_room.proofs.Keeps.{NoScriptKeepsValues, TooDeepKeepsValues, BegunIsKept, BeginKeepsValues, TurnKeepsValues, TurnDoneKeepsValues, FaultKeepsValues, UnapplyKeepsValues}
use Rattle.play_room.proofs.Keeps.{DrainedKeepsValues}
use Rattle.play_room.proofs.Texts.{zero_fits}
use Rattle.play_room.proofs.Changes.{told_kept, post_kept, items_of, stood_of, actions_kept, busy_kept, effects_kept, fewer_kept}

-- ---- what only tells

pub no_script_keeps : NoScriptKeepsValues
no_script_keeps o name w k = told_kept o (line.NoScript name) w k

pub too_deep_keeps : TooDeepKeepsValues
too_deep_keeps o name w k = told_kept o (line.Deep name) w k

pub fault_keeps : FaultKeepsValues
fault_keeps o w k = told_kept o line.Divide w k

pub drained_keeps : DrainedKeepsValues
drained_keeps w k = record { random = k.random; area = k.area; things = k.things; agenda = k.agenda; user = k.user }

-- ---- the next entry

user_fits : (kind : Kind Saved) → KindHasRoom kind → IsSigned (user_number kind)
user_fits (Event o script user) room = room.1
user_fits (Stored o saved) room = zero_fits
user_fits (Turn o) room = zero_fits
user_fits (Unapply o) room = zero_fits

begun_by : (b : Bool) (x : Begun Saved) → EntryIsKept x.entry → WorldIsKept x.world → BegunIsKept (if b then Some x else None)
begun_by true x e k = (e, k)
begun_by false x e k = tt

begun_kept : (until : ℕ) (es : List (Entry Saved)) (w : World Saved) → AllByRecursion EntryIsKept es → WorldIsKept w → BegunIsKept (entry_begun until es w)
begun_kept until [] w all k = tt
begun_kept until (e ∷ rest) w all k =
    begun_by (nat_le e.due until) (record { entry = e; world = record (with_entries rest w) { clock = e.due; user = user_number e.kind } }) all.0
    (record { random = k.random; area = k.area; things = k.things; agenda = all.1; user = user_fits e.kind all.0.1 })

pub begin_keeps : BeginKeepsValues
begin_keeps until w k = begun_kept until w.agenda.entries w k.agenda k

-- ---- a Turn

next_kept : (o : ℕ) (items : List (Item Saved)) (w : World Saved) → IsNumber 4 o → WorldIsKept w → WorldIsKept (next_turn o items w)
next_kept o [] w number k = busy_kept o false w k
next_kept o (item ∷ rest) w number k = post_kept w.clock (Turn o) w number tt k

pub turn_done_keeps : TurnDoneKeepsValues
turn_done_keeps o w number k = next_kept o (queue_of o w).actions w number k

turned_kept : (o : ℕ) (items : List (Item Saved)) (w : World Saved) → IsNumber 4 o → AllByRecursion ItemHasRoom items → WorldIsKept w
    → ActionHasRoom (turned o items w).action × WorldIsKept (turned o items w).world
turned_kept o [] w number all k = (tt, busy_kept o false w k)
turned_kept o (Do x ∷ rest) w number all k = (all.0, actions_kept o rest w all.1 k)
turned_kept o (Wait ms ∷ rest) w number all k = (tt, post_kept (later ms w) (Turn o) (with_actions o rest w) number tt (actions_kept o rest w all.1 k))
turned_kept o (Speak bytes ∷ rest) w number all k = (
  tt,
  turn_done_keeps o (told o (line.Speak bytes) (with_actions o rest w)) number (told_kept o (line.Speak bytes) (with_actions o rest w) (actions_kept o rest w all.1 k)),
)

pub turn_keeps : TurnKeepsValues
turn_keeps o w number k = turned_kept o (queue_of o w).actions w number (items_of o w k) k

-- ---- the end of an effect for a time

expired_kept : (o number : ℕ) (s : Option Stood) (w : World Saved) → WorldIsKept w → WorldIsKept (expired o number s w)
expired_kept o number None w k = k
expired_kept o number (Some s) w k =
    let rest = without_first (is_numbered number) (effects_of o w) in
    told_kept o (line.Expire s.effect) (with_effects o rest w)
    (effects_kept o rest w (fewer_kept (StoodIsKept w.agenda.next) (is_numbered number) (effects_of o w) (stood_of o w k)) k)

pub unapply_keeps : UnapplyKeepsValues
unapply_keeps o number w k = expired_kept o number (find (is_numbered number) (effects_of o w)) w k
