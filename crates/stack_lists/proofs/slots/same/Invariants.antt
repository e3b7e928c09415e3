use Rattle.stack_lists.specs.Shared.{read}
use Rattle.stack_lists.proofs.Walks.{SameSoFar}
use Rattle.stack_lists.proofs.slots.same.Given as goal

abbrev pub invariant-loop-x : goal.invariant-loop-x
invariant-loop-x l = SameSoFar (read l.lists l.a) (read l.lists l.b) (read l.lists l.x) (read l.lists l.y)

abbrev pub decreases-loop-x : goal.decreases-loop-x
decreases-loop-x l = l.x
