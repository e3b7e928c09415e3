use Rattle.std.proofs.Common.{arith}
use Rattle.stack_lists.proofs.Links.{lower_all}
use Rattle.stack_lists.proofs.stacks.Stacks.lower.Goals as goal

pub returns-then-count-depth-clause-reads : goal.returns-then-count-depth-clause-reads
returns-then-count-depth-clause-reads c =
    lower_all c.args.self.now c.args.number c.args.count c.depth-depth.result c.depth-depth.ensures.depth (omega (arith, c.if-count-depth.true))
