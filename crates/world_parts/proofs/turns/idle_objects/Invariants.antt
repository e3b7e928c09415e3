use Rattle.std.proofs.Common.{◌≡◌, replicate}
use Rattle.world_rules.specs.Turns.{idle}
use Rattle.world_parts.proofs.turns.idle_objects.Given as goal

abbrev pub invariant-loop-done : goal.invariant-loop-done
invariant-loop-done g l = l.objects.items ≡ replicate l.done idle
