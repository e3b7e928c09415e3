use Rattle.std.proofs.Common.{arith}
use Rattle.state_parts.proofs.Keeping.{lent_none, lent_some, got_within}
use Rattle.state_parts.specs.PuttingLemmas.{asked_within}
use Rattle.state_parts.proofs.objects.count_items.Goals as goal

pub loop-i-preserved : goal.loop-i-preserved
loop-i-preserved c =
    let here = asked_within c.args.queue.now.actions c.loop-i.i _ (lent_some c.args.queue.now.actions c.loop-i.i c.at.result _ c.at.ensures.action c.in-Some.is) in
    omega (arith, here)

pub returns-in-None : goal.returns-in-None
returns-in-None c =
    let past = got_within c.args.queue.now.actions c.loop-i.i (lent_none c.args.queue.now.actions c.loop-i.i c.at.result c.at.ensures.action c.in-None.is) in
    record { count = omega (arith, past, c.loop-i.invariant); few = omega (arith, c.loop-i.auto.i-end) }
