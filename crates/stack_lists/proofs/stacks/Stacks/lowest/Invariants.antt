use Rattle.std.proofs.Common.{◌≤◌, length}
use Rattle.stack_lists.specs.Shared.{read}
use Rattle.stack_lists.specs.Stacks.{LiesOn}
use Rattle.stack_lists.proofs.stacks.Stacks.lowest.Given as goal

abbrev pub invariant-loop-at : goal.invariant-loop-at
invariant-loop-at l = LiesOn l.self l.number l.at × (l.depth ≤ length (read l.self l.at)) × (l.at ≤ l.number)

abbrev pub decreases-loop-at : goal.decreases-loop-at
decreases-loop-at l = l.at
