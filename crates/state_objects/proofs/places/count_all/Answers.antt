use Rattle.std.proofs.Common.{arith}
use Rattle.state_objects.proofs.Sharing.{counts_step}
use Rattle.state_objects.proofs.places.count_all.Goals as goal

pub loop-part-preserved : goal.loop-part-preserved
loop-part-preserved c = (
  counts_step c.loop-part.counts c.count_one.new.counts c.args.parts.now c.loop-part.part-index c.part-item.result c.loop-part.invariant.0 c.count_one.ensures.counts
      c.count_one.ensures.len c.loop-part-test.true c.part-item.is,
  omega (arith, c.count_one.ensures.len, c.loop-part.invariant.1),
)
