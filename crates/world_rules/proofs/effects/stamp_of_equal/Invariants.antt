use Rattle.std.proofs.Common.{◌-◌}
use Rattle.stamped_slots.specs.Firsts.{NoneBefore}
use Rattle.world_rules.specs.Changes.{is_effect}
use Rattle.world_rules.proofs.effects.stamp_of_equal.Given as goal

abbrev pub invariant-loop-stamp : goal.invariant-loop-stamp
invariant-loop-stamp l = NoneBefore (is_effect l.effect) l.from l.all.items

abbrev pub decreases-loop-stamp : goal.decreases-loop-stamp
decreases-loop-stamp l = l.next - l.from
