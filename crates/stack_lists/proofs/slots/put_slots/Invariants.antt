use Rattle.stack_lists.proofs.Walks.{PutSoFar}
use Rattle.stack_lists.proofs.slots.put_slots.Given as goal

abbrev pub invariant-loop-i : goal.invariant-loop-i
invariant-loop-i l = PutSoFar l.slots l.initial.lists l.lists l.number l.at l.i

abbrev pub decreases-loop-i : goal.decreases-loop-i
decreases-loop-i l = l.i
