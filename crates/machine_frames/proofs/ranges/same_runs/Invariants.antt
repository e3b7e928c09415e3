use Rattle.machine_frames.proofs.RangeLemmas.{AreSameSoFar}
use Rattle.machine_frames.proofs.ranges.same_runs.Given as goal

abbrev pub invariant-loop-i : goal.invariant-loop-i
invariant-loop-i l = AreSameSoFar l.count l.i l.stack.cells
