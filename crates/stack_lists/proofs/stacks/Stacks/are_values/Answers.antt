use Rattle.std.proofs.Common.{arith}
use Rattle.stack_lists.specs.Shared.{read}
use Rattle.stack_lists.proofs.Links.{are_typed}
use Rattle.stack_lists.proofs.stacks.Stacks.are_values.Goals as goal

pub returns-then-count-values-clause-there : goal.returns-then-count-values-clause-there
returns-then-count-values-clause-there c = λ e.
    are_typed c.args.count _ _ _ (read c.args.self.now c.args.number) c.depth.ensures.depth c.based.ensures.based c.saturating_sub-values.ensures
    (omega (arith, c.if-count-values.true))
