use Rattle.std.proofs.Common.{◌≤◌, ◌-◌, drop, length}
use Rattle.nss_lexer.specs.Splitting.{Gap}
use Rattle.nss_lexer.proofs.gap.past_gap.Given as goal

abbrev pub invariant-loop-n : goal.invariant-loop-n
invariant-loop-n l = Gap (drop l.at l.bytes) (drop l.place l.bytes) × (l.at ≤ l.place) × (l.place ≤ length l.bytes)

abbrev pub decreases-loop-n : goal.decreases-loop-n
decreases-loop-n l = length l.bytes - l.place
