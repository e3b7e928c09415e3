use Rattle.std.proofs.Common.{◌≡◌, take}
use Rattle.state_parts.specs.World.{with_variables}
use Rattle.play_save.proofs.world.give.Given as goal

abbrev pub invariant-loop-i : goal.invariant-loop-i
invariant-loop-i l = l.area ≡ record l.initial.area { objects = with_variables l.initial.area.objects (take l.i l.objects) }
