-- A world that is kept, and in which few entries were posted, has room in a state.
use Rattle.std.proofs.Common.{ℕ, ◌<◌, ◌^◌, Option, Some, None, arith}
use Rattle.area_rules.specs.Objects.{AreaObject}
use Rattle.delay_agenda.specs.declared.entry.Entry.{Entry}
use Rattle.saved_state.specs.declared.saved.Saved.{Saved}
use Rattle.world_rules.specs.declared.data.Stood.{Stood}
use Rattle.world_rules.specs.declared.data.Things.{Things}
use Rattle.world_rules.specs.World.{World}
use Rattle.state_format.specs.Parts.{IsMaybe, IsNumber}
use Rattle.play_room.specs.Room.{StoodHasRoom, ThingsHaveRoom, ObjectHasRoom, EntryHasRoom, HasRoom}
use Rattle.play_room.specs.Kept.{ObjectIsKept, StoodIsKept, ThingsAreKept, EntryIsKept, WorldIsKept}
use Rattle.play_room.proofs.Lists.{all_weaker}

number_room : (next : ℕ) → next < 2 ^ 64 → (number : Option ℕ) → IsMaybe (λ n. n < next) number → IsMaybe (IsNumber 8) number
number_room next few None h = tt
number_room next few (Some n) h = omega (arith, few, h)

things_room : (next : ℕ) → next < 2 ^ 64 → (t : Things Saved) → ThingsAreKept next t → ThingsHaveRoom t
things_room next few t k = record {
  effects = all_weaker (StoodIsKept next) StoodHasRoom (λ (s : Stood) h. (number_room next few s.number h.0, h.1)) t.effects k.effects;
  items = k.items;
}

pub kept_has_room : (w : World Saved) → WorldIsKept w → w.agenda.next < 2 ^ 64 → HasRoom w
kept_has_room w k few = record {
  random = k.random;
  variables = all_weaker ObjectIsKept ObjectHasRoom (λ (o : AreaObject) h. h.vars) w.area.objects k.area.objects;
  things = all_weaker (ThingsAreKept w.agenda.next) ThingsHaveRoom (things_room w.agenda.next few) w.things k.things;
  agenda = all_weaker EntryIsKept EntryHasRoom (λ (e : Entry Saved) h. h.1) w.agenda.entries k.agenda;
}
