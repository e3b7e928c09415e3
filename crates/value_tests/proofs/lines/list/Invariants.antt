use Rattle.std.proofs.Common.{length}
use Rattle.value_tests.proofs.lines.list.Given as goal

abbrev pub decreases-loop-line : goal.decreases-loop-line
decreases-loop-line l = length l.lines.left
