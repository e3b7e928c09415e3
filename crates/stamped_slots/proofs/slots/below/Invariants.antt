use Rattle.std.proofs.Common.{◌≤◌, ◌-◌, length}
use Rattle.stamped_slots.specs.Kept.{below}
use Rattle.stamped_slots.proofs.slots.below.Given as goal

-- the place is none of those that were passed
abbrev pub invariant-loop-low : goal.invariant-loop-low
invariant-loop-low g l = record {
  passed : l.low ≤ below l.stamp l.slots.items;
  left : below l.stamp l.slots.items ≤ l.high;
  inside : l.high ≤ length l.slots.items;
}

abbrev pub decreases-loop-low : goal.decreases-loop-low
decreases-loop-low g l = l.high - l.low
