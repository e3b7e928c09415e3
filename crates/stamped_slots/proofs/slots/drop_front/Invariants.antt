use Rattle.std.proofs.Common.{◌≡◌, length}
use Rattle.stamped_slots.specs.Kept.{seen, Ascend}
use Rattle.stamped_slots.proofs.slots.drop_front.Given as goal

abbrev pub invariant-loop-slots : goal.invariant-loop-slots
invariant-loop-slots g l = record {
  same : seen l.slots.items ≡ seen l.initial.slots.items;
  ascend : Ascend 0 l.slots.items;
}

abbrev pub decreases-loop-slots : goal.decreases-loop-slots
decreases-loop-slots g l = length l.slots.items
