use Rattle.stack_lists.proofs.Worklists.{FirstSoFar}
use Rattle.stack_lists.proofs.todo.put_first.Given as goal

abbrev pub invariant-loop-call : goal.invariant-loop-call
invariant-loop-call l = FirstSoFar l.calls l.initial.first.items l.first.items l.number l.at

abbrev pub decreases-loop-call : goal.decreases-loop-call
decreases-loop-call l = l.at
