use Rattle.std.proofs.Common.{◌≡◌, map, take}
use Rattle.state_parts.specs.World.{item_of}
use Rattle.state_objects.proofs.things.queue.Given as goal

abbrev pub invariant-loop-part : goal.invariant-loop-part
invariant-loop-part l = l.queue ≡ record { actions = map item_of (take l.part-index l.parts); busy = l.busy }
