use Rattle.std.proofs.Common.{◌+◌, ◌*◌}
use Rattle.stack_reasons.specs.Walks.{TrailFits}
use Rattle.stack_reasons.proofs.walk.+walk.Given as goal

abbrev pub invariant-walk-loop-turn : goal.invariant-walk-loop-turn
invariant-walk-loop-turn l = TrailFits l.judged.table.now l.judged.code.now l.home l.trail

abbrev pub decreases-walk : goal.decreases-walk
decreases-walk l = 5 * l.depth + 4

abbrev pub decreases-turn : goal.decreases-turn
decreases-turn l = 5 * l.depth + 3

abbrev pub decreases-visit : goal.decreases-visit
decreases-visit l = 5 * l.depth + 2

abbrev pub decreases-visit_store : goal.decreases-visit_store
decreases-visit_store l = 5 * l.depth + 1

abbrev pub decreases-store : goal.decreases-store
decreases-store l = 5 * l.depth

abbrev pub decreases-call : goal.decreases-call
decreases-call l = 5 * l.depth
