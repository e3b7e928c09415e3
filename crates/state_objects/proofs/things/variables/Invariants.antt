use Rattle.std.proofs.Common.{◌≡◌, map, take}
use Rattle.state_parts.specs.World.{variable_of}
use Rattle.state_objects.proofs.things.variables.Given as goal

abbrev pub invariant-loop-part : goal.invariant-loop-part
invariant-loop-part l = l.vars ≡ map variable_of (take l.part-index l.parts)
