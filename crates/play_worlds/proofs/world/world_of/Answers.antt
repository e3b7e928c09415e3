use Rattle.std.proofs.Common.{map}
use Rattle.world_core.specs.Calls.{planned}
use Rattle.play_worlds.proofs.WorldLemmas.{events_within}
use Rattle.play_worlds.proofs.world.world_of.Goals as goal

pub world_with-requires : goal.world_with-requires
world_with-requires c = record { objects = events_within c.args.area c.as_slice.result.now (map planned c.in-Ok.events) c.in-Ok.ensures.begun }
