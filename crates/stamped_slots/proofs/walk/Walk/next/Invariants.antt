use Rattle.std.proofs.Common.{◌≡◌, ◌-◌, drop, length}
use Rattle.stamped_slots.specs.Kept.{seen}
use Rattle.stamped_slots.proofs.walk.Walk.next.Given as goal

-- the slots that were passed are empty
abbrev pub invariant-loop-self : goal.invariant-loop-self
invariant-loop-self g l = seen (drop l.self-inside.at l.self-inside.slots.now.items) ≡ seen (drop l.initial.self-inside.at l.initial.self-inside.slots.now.items)

abbrev pub decreases-loop-self : goal.decreases-loop-self
decreases-loop-self g l = length l.self-inside.slots.now.items - l.self-inside.at
