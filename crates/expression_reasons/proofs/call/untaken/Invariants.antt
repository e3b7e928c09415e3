use Rattle.std.proofs.Common.{◌≡◌, ◌≤◌, ◌-◌, drop, length}
use Rattle.typing_rules.specs.Reading.{plain_all}
use Rattle.expression_reasons.specs.Why.{untaken}
use Rattle.expression_reasons.proofs.call.untaken.Given as goal

abbrev pub invariant-loop-number : goal.invariant-loop-number
invariant-loop-number l = untaken l.number (plain_all (drop l.number l.xs)) (drop l.number l.params) ≡ untaken 0 (plain_all l.xs) l.params

abbrev pub decreases-loop-number : goal.decreases-loop-number
decreases-loop-number l = length l.xs - l.number
