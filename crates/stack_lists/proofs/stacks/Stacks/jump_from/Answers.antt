use Rattle.std.proofs.Common.{arith}
use Rattle.stack_lists.proofs.Links.{jump_once, jump_twice}
use Rattle.stack_lists.proofs.stacks.Stacks.jump_from.Goals as goal

pub returns-then-link-far-clause-far : goal.returns-then-link-far-clause-far
returns-then-link-far-clause-far c =
    jump_twice c.args.self.now c.args.below c.depth-near.result c.depth-far.result c.in-Some.link c.in-Some-link.next c.in-Some.ensures c.in-Some-link.ensures
    c.depth-near.ensures.depth c.depth-far.ensures.depth (omega (arith, c.if-link-far.true))

pub returns-else-link-far-clause-far : goal.returns-else-link-far-clause-far
returns-else-link-far-clause-far c =
    jump_once c.args.self.now c.args.below c.depth-near.result c.depth-far.result c.in-Some.link c.in-Some-link.next c.in-Some.ensures c.in-Some-link.ensures
    c.depth-near.ensures.depth c.depth-far.ensures.depth (λ e. omega (arith, c.if-link-far.false, e))
