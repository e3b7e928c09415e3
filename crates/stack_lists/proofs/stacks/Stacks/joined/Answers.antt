use Rattle.std.proofs.Common.{refl, subst}
use Rattle.stack_lists.specs.Stacks.{IsJoin}
use Rattle.stack_lists.proofs.Links.{join_is}
use Rattle.stack_lists.proofs.stacks.Stacks.joined.Goals as goal

pub returns-then-join-count : goal.returns-then-join-count
returns-then-join-count c = record {
  join = subst (λ nodes. IsJoin nodes (record { upper = c.args.upper; count = c.args.count; lower = c.args.lower; number = c.in-Some.join.now.number })) c.self.view_is
      (join_is _ _ _ _ _ _ _ c.in-Some.join.now c.self.invariant.2 c.in-Some.ensures.value c.if-join-upper.true c.if-join-lower.true c.if-join-count.true refl);
}
