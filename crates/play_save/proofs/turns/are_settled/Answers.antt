use Rattle.std.proofs.Common.{rules, arith, refl}
use Rattle.play_save.proofs.Turning.{object_inside, settled_more}
use Rattle.play_save.proofs.turns.are_settled.Goals as goal

pub loop-i-preserved : goal.loop-i-preserved
loop-i-preserved c =
    settled_more c.args.entries.now c.args.objects.now c.in_ok-counts.counts c.as_slice.result.now c.loop-i.i c.index-objects-i.result c.in_ok-counts.ensures.counts
    c.in_ok-counts.ensures.len c.as_slice.ensures.items c.index-objects-i.is (omega (arith, c.loop-i-test.true)) (c.is_settled.ensures.test.0 (search rules)) c.loop-i.invariant

pub returns : goal.returns
returns c = record {
  test = (
    (λ t i o at. c.loop-i.invariant i o (omega (arith, c.loop-i-test.false, object_inside c.args.objects.now i o at)) at),
    (λ all. refl),
  );
}
