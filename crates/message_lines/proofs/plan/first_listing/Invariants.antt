use Rattle.std.proofs.Common.{length}
use Rattle.message_lines.proofs.plan.first_listing.Given as goal

abbrev pub decreases-loop-line : goal.decreases-loop-line
decreases-loop-line l = length l.lines.left
