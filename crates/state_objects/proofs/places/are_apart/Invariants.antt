use Rattle.std.proofs.Common.{◌≡◌, map, filter, take}
use Rattle.state_parts.specs.World.{variable_of}
use Rattle.state_objects.specs.Places.{shares_place}
use Rattle.state_objects.proofs.places.are_apart.Given as goal

abbrev pub invariant-loop-part : goal.invariant-loop-part
invariant-loop-part l = l.vars ≡ map variable_of (filter (shares_place l.counts) (take l.part-index l.parts))
