use Rattle.state_objects.proofs.Sharing.{empty_distinct, apart_ok}
use Rattle.state_objects.proofs.places.are_distinct.Goals as goal

pub returns-then-is_empty : goal.returns-then-is_empty
returns-then-is_empty c = record { test = empty_distinct c.args.parts.now c.is_empty.result c.is_empty.ensures c.if-is_empty.true }

pub returns : goal.returns
returns c = record {
  test = apart_ok c.in_ok-counts.counts c.as_slice.result.now c.args.parts.now c.are_apart.result c.as_slice.ensures.items c.in_ok-counts.ensures.some c.in_ok-counts.ensures.counts
      c.are_apart.ensures.test;
}
