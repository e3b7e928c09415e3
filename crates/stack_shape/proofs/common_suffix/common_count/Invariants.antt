use Rattle.std.proofs.Common.{length, ◌-◌, ◌≡◌, reverse, take, ◌≤◌}
use Rattle.stack_shape.proofs.common_suffix.common_count.Given as goal

abbrev pub invariant-loop-count : goal.invariant-loop-count
invariant-loop-count l = (l.count ≤ length l.a) × (l.count ≤ length l.b) × (take l.count (reverse l.a) ≡ take l.count (reverse l.b))

abbrev pub decreases-loop-count : goal.decreases-loop-count
decreases-loop-count l = length l.a - l.count
