use Rattle.std.proofs.Common.{length}
use Rattle.ncs_text.proofs.Passing.{SoFar}
use Rattle.ncs_text.proofs.assembler.read_lines.Given as goal

abbrev pub invariant-loop-line : goal.invariant-loop-line
invariant-loop-line l = SoFar l.text l.lines.read l.lines.left l.stop l.body.items l.size l.number

abbrev pub decreases-loop-line : goal.decreases-loop-line
decreases-loop-line l = length l.lines.left
