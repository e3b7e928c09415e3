use Rattle.stack_lists.proofs.Waits.{PutSoFar}
use Rattle.stack_lists.proofs.todo.put_all.Given as goal

abbrev pub invariant-loop-call : goal.invariant-loop-call
invariant-loop-call l = PutSoFar l.calls l.initial.later.items l.initial.waits l.later.items l.waits l.number l.at

abbrev pub decreases-loop-call : goal.decreases-loop-call
decreases-loop-call l = l.at
