use Rattle.std.proofs.Common.{map}
use Rattle.stack_shape.specs.declared.shape.Slot.TheVariants.{Of}
use Rattle.stack_lists.proofs.Walks.{PutSoFar}
use Rattle.stack_lists.proofs.slots.put_types.Given as goal

abbrev pub invariant-loop-i : goal.invariant-loop-i
invariant-loop-i l = PutSoFar (map Of l.types) l.initial.lists l.lists l.number l.at l.i

abbrev pub decreases-loop-i : goal.decreases-loop-i
decreases-loop-i l = l.i
