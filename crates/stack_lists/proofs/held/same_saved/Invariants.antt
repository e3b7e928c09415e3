use Rattle.std.proofs.Common.{map}
use Rattle.stack_lists.specs.Shared.{read}
use Rattle.stack_lists.proofs.Walks.{SameSoFar}
use Rattle.stack_lists.proofs.held.same_saved.Given as goal

abbrev pub invariant-loop-x : goal.invariant-loop-x
invariant-loop-x l =
    SameSoFar (map (read l.heap.slots) (read l.heap.saved l.a)) (map (read l.heap.slots) (read l.heap.saved l.b))
    (map (read l.heap.slots) (read l.heap.saved l.x)) (map (read l.heap.slots) (read l.heap.saved l.y))

abbrev pub decreases-loop-x : goal.decreases-loop-x
decreases-loop-x l = l.x
