use Rattle.std.proofs.Common.{length}
use Rattle.stack_lists.specs.Worklist.{waiting}
use Rattle.stack_check.proofs.Costs.{DrainCounts}
use Rattle.stack_check.proofs.Ending.{DrainedSoFar}
use Rattle.stack_check.proofs.infer.drain.Given as goal

abbrev pub invariant-loop-spot : goal.invariant-loop-spot
invariant-loop-spot l = DrainedSoFar l.judged.table.now l.judged.code.now l.heap l.initial.facts l.facts l.todo
    × DrainCounts l.initial.todo l.todo l.initial.looks l.looks

abbrev pub decreases-loop-spot : goal.decreases-loop-spot
decreases-loop-spot l = length (waiting l.todo)
