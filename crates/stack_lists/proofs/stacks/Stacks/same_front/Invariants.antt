use Rattle.std.proofs.Common.{take}
use Rattle.stack_lists.specs.Shared.{read}
use Rattle.stack_lists.proofs.Walks.{SameSoFar}
use Rattle.stack_lists.proofs.stacks.Stacks.same_front.Given as goal

abbrev pub invariant-loop-left : goal.invariant-loop-left
invariant-loop-left l =
    SameSoFar (take l.count (read l.self l.a)) (take l.count (read l.self l.b)) (take l.left (read l.self l.x)) (take l.left (read l.self l.y))

abbrev pub decreases-loop-left : goal.decreases-loop-left
decreases-loop-left l = l.left
