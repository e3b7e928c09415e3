use Rattle.std.proofs.Common.{subst, None, Some}
use Rattle.stamped_slots.specs.Index.{IsLeast}
use Rattle.stamped_slots.proofs.IndexLemmas.{least_none, least_some, least_other}
use Rattle.stamped_slots.proofs.stamp_index.StampIndex.least.Goals as goal

pub returns-in-None : goal.returns-in-None
returns-in-None c = record {
  least =
      subst (IsLeast c.args.key c.args.from None) c.self.view_is
      (least_none c.args.key c.args.from c.self.inside.pairs c.range-pairs.result (c.range-pairs.ensures.in_range tt) c.in-None.ensures.steps.0);
}

pub returns-then-pair-key : goal.returns-then-pair-key
returns-then-pair-key c = record {
  least =
      subst (IsLeast c.args.key c.args.from (Some c.in-Some.pair.now.1)) c.self.view_is
      (least_some c.args.key c.args.from c.self.inside.pairs c.range-pairs.result (c.range-pairs.ensures.in_range tt) c.in-Some.pair.now c.next.new.self c.in-Some.ensures.steps c.if-pair-key.true);
}

pub returns-else-pair-key : goal.returns-else-pair-key
returns-else-pair-key c = record {
  least =
      subst (IsLeast c.args.key c.args.from None) c.self.view_is
      (least_other c.args.key c.args.from c.self.inside.pairs c.range-pairs.result (c.range-pairs.ensures.in_range tt) c.in-Some.pair.now c.next.new.self c.in-Some.ensures.steps c.if-pair-key.false);
}
