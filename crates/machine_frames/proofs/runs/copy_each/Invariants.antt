use Rattle.machine_frames.proofs.runs.copy_each.Given as goal
use Rattle.machine_frames.proofs.RunLemmas.{CopiedDown}

abbrev pub invariant-loop-left : goal.invariant-loop-left
invariant-loop-left l = CopiedDown l.from l.onto l.count l.left l.fn.stack l.stack

abbrev pub decreases-loop-left : goal.decreases-loop-left
decreases-loop-left l = l.left
