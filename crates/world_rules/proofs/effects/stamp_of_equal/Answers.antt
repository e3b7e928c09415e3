use Rattle.std.proofs.Common.{arith, refl}
use Rattle.world_rules.proofs.StandingLemmas.{equal_found, equal_next, equal_none, next_below}
use Rattle.world_rules.proofs.effects.stamp_of_equal.Goals as goal

pub returns-then-is_equal_at : goal.returns-then-is_equal_at
returns-then-is_equal_at c = record {
  first = equal_found c.args.effect.now c.args.all.now.items c.args.contents.now c.requires.index
      c.content_hash-key.result c.loop-stamp.from c.in-Some.stamp c.content_hash-key.ensures
      c.loop-stamp.invariant c.in-Some.ensures.least c.if-is_equal_at.ensures.test;
}

pub overflow_add-from : goal.overflow_add-from
overflow_add-from c =
    let below = next_below c.content_hash-key.result c.loop-stamp.from c.in-Some.stamp c.args.next c.args.all.now.items
    c.args.contents.now c.requires.under c.requires.index c.in-Some.ensures.least in
    omega (arith, below.1, c.ranges.next.fits)

pub loop-stamp-smaller : goal.loop-stamp-smaller
loop-stamp-smaller c =
    let below = next_below c.content_hash-key.result c.loop-stamp.from c.in-Some.stamp c.args.next c.args.all.now.items
    c.args.contents.now c.requires.under c.requires.index c.in-Some.ensures.least in
    omega (arith, below.0, below.1)

pub loop-stamp-preserved : goal.loop-stamp-preserved
loop-stamp-preserved c =
    equal_next c.args.effect.now c.args.all.now.items c.args.contents.now c.requires.index
    c.content_hash-key.result c.loop-stamp.from c.in-Some.stamp _ c.content_hash-key.ensures
    c.loop-stamp.invariant c.in-Some.ensures.least c.if-is_equal_at.ensures.test refl

pub returns : goal.returns
returns c = record {
  first = equal_none c.args.effect.now c.args.all.now.items c.args.contents.now c.requires.index
      c.content_hash-key.result c.loop-stamp.from c.content_hash-key.ensures c.loop-stamp.invariant
      c.in_default.ensures.least;
}
