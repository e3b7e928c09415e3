use Rattle.std.proofs.Common.{subst, sym}
use Rattle.stack_lists.specs.Stacks.{IsJoin}
use Rattle.stack_lists.proofs.Links.{join_after}
use Rattle.stack_lists.proofs.stacks.Stacks.keep_join.Goals as goal

pub invariant_of-self : goal.invariant_of-self
invariant_of-self c =
    join_after c.self.inside.links c.self.inside.agreed c.self.inside.joins c.insert.new.self _ c.args.join c.insert.result c.self.invariant
    (subst (λ nodes. IsJoin nodes c.args.join) (sym c.self.view_is) c.requires.is) c.insert.ensures.updates c.insert.ensures.err
