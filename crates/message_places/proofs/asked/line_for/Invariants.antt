use Rattle.std.proofs.Common.{◌≡◌, length}
use Rattle.message_places.proofs.asked.line_for.Given as goal

abbrev pub invariant-loop-line : goal.invariant-loop-line
invariant-loop-line l = l.lines.text ≡ l.text

abbrev pub decreases-loop-line : goal.decreases-loop-line
decreases-loop-line l = length l.lines.left
