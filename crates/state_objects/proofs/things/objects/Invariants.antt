use Rattle.std.proofs.Common.{◌≡◌, map, take}
use Rattle.state_parts.specs.World.{things_of}
use Rattle.state_objects.proofs.things.objects.Given as goal

abbrev pub invariant-loop-part : goal.invariant-loop-part
invariant-loop-part l = l.all ≡ map things_of (take l.part-index l.parts)
