use Rattle.stack_lists.proofs.Noting.{Ahead}
use Rattle.stack_lists.proofs.notes.search.Given as goal

abbrev pub invariant-loop-at : goal.invariant-loop-at
invariant-loop-at l = Ahead l.links l.older l.below l.slot l.at

abbrev pub decreases-loop-at : goal.decreases-loop-at
decreases-loop-at l = l.at
