use Rattle.stack_lists.specs.Shared.{read}
use Rattle.stack_lists.proofs.Walks.{TypesSoFar}
use Rattle.stack_lists.proofs.slots.types_on.Given as goal

abbrev pub invariant-loop-left : goal.invariant-loop-left
invariant-loop-left l = TypesSoFar (read l.lists l.number) (read l.lists l.at) l.count l.left l.types

abbrev pub decreases-loop-left : goal.decreases-loop-left
decreases-loop-left l = l.left
