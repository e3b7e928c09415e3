use Rattle.std.proofs.Common.{◌≡◌, ◌++◌, map, reverse, take, length, ◌≤◌}
use Rattle.stack_shape.specs.declared.shape.Slot.TheVariants.{Of}
use Rattle.stack_reasons.proofs.shapes.put_types.Given as goal

abbrev pub invariant-loop-i : goal.invariant-loop-i
invariant-loop-i l = (l.i ≤ length l.types) × (map Of (take l.i l.types) ++ reverse l.slots ≡ map Of l.types ++ reverse l.fn.slots)

abbrev pub decreases-loop-i : goal.decreases-loop-i
decreases-loop-i l = l.i
