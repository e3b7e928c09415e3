use Rattle.std.proofs.Common.{◌≡◌, take}
use Rattle.stack_reasons.proofs.shapes.copy_unders.Given as goal

abbrev pub invariant-loop-under : goal.invariant-loop-under
invariant-loop-under l = l.copy ≡ take l.under-index l.unders
