use Rattle.std.proofs.Common.{length}
use Rattle.table_2da.proofs.RangeLemmas.{RangesSoFar}
use Rattle.table_2da.proofs.words.ranges_of.Given as goal

abbrev pub invariant-words : goal.invariant-words
invariant-words l = RangesSoFar l.part l.most l.place l.line l.at l.rest l.ranges

abbrev pub decreases-words : goal.decreases-words
decreases-words l = length l.rest
