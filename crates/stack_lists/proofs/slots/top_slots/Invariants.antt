use Rattle.std.proofs.Common.{◌≡◌, ◌++◌, take}
use Rattle.stack_lists.specs.Shared.{read}
use Rattle.stack_lists.proofs.slots.top_slots.Given as goal

abbrev pub invariant-loop-left : goal.invariant-loop-left
invariant-loop-left l = l.slots.items ++ take l.left (read l.lists l.at) ≡ take l.count (read l.lists l.number)

abbrev pub decreases-loop-left : goal.decreases-loop-left
decreases-loop-left l = l.left
