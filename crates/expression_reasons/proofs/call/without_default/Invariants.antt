use Rattle.std.proofs.Common.{◌≡◌, ◌≤◌, ◌+◌, ◌-◌, drop, length}
use Rattle.expression_reasons.specs.Why.{without_default}
use Rattle.expression_reasons.proofs.call.without_default.Given as goal

abbrev pub invariant-loop-count : goal.invariant-loop-count
invariant-loop-count l = (l.count ≤ length l.params) × (l.count + without_default (drop l.count l.params) ≡ without_default l.params)

abbrev pub decreases-loop-count : goal.decreases-loop-count
decreases-loop-count l = length l.params - l.count
