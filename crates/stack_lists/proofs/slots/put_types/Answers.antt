use Rattle.std.proofs.Common.{arith, rules, refl}
use Rattle.stack_lists.proofs.Walks.{put_type}
use Rattle.stack_lists.proofs.slots.put_types.Goals as goal

pub loop-i-preserved : goal.loop-i-preserved
loop-i-preserved c =
    put_type _ _ _ _ _ _ _ _ _ _ c.loop-i.invariant (omega (arith, c.loop-i-test.true)) refl (search rules)
    c.in_ok-at.ensures.grows c.in_ok-at.ensures.inside c.in_ok-at.ensures.reads
