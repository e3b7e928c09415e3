use Rattle.std.proofs.Common.{arith, refl}
use Rattle.stack_lists.proofs.Walks.{list_step}
use Rattle.stack_lists.proofs.slots.top_slots.Goals as goal

pub loop-left-preserved : goal.loop-left-preserved
loop-left-preserved c =
    list_step _ _ _ _ _ _ _ _ c.loop-left.invariant c.in-Some.ensures.top (omega (arith, c.loop-left-test.true)) refl c.in_ok-push-in-Some.ensures.items
