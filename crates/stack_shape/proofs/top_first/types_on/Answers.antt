use Rattle.std.proofs.Common.{rules, sym, subst, reverse, ◌+◌}
use Rattle.stack_shape.proofs.Tops.{SoFar, so_far_more}
use Rattle.stack_shape.proofs.top_first.types_on.Goals as goal

-- src/top_first.rt:41:5
pub loop-i-preserved : goal.loop-i-preserved
loop-i-preserved c = subst (SoFar (reverse c.args.slots.now) c.args.count (c.loop-i.i + 1)) (sym c.in_ok-push-in-Some-Of.ensures.ok)
    (so_far_more (reverse c.args.slots.now) c.args.count c.loop-i.i c.loop-i.types c.in-Some-Of.ty c.loop-i.invariant (search rules) (search rules))
