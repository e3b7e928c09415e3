use Rattle.std.proofs.Common.{◌≡◌, ◌≤◌, ◌-◌, drop, length}
use Rattle.typing_rules.specs.Rules.{params_of, same_types}
use Rattle.nss_types.proofs.function.same_types.Given as goal

abbrev pub invariant-loop-at : goal.invariant-loop-at
invariant-loop-at l =
    (same_types (drop l.at l.params) (params_of (drop l.at l.others)) ≡ same_types l.params (params_of l.others))
    × (l.at ≤ length l.params) × (length l.params ≡ length l.others)

abbrev pub decreases-loop-at : goal.decreases-loop-at
decreases-loop-at l = length l.params - l.at
