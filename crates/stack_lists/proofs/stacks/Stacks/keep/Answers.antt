use Rattle.std.proofs.Common.{◌≡◌, ◌≤◌, length, subst, sym, take}
use Rattle.stack_lists.specs.Shared.{read}
use Rattle.stack_lists.proofs.Links.{agree_after}
use Rattle.stack_lists.proofs.stacks.Stacks.keep.Goals as goal

pub invariant_of-self : goal.invariant_of-self
invariant_of-self c =
    agree_after c.self.inside.links c.self.inside.agreed c.insert.new.self c.self.inside.joins _ c.args.agreed c.insert.result c.self.invariant
    (subst (λ nodes. (c.args.agreed.first ≤ length nodes) × (c.args.agreed.second ≤ length nodes)) (sym c.self.view_is) c.requires.inside)
    (subst (λ nodes. take c.args.agreed.count (read nodes c.args.agreed.first) ≡ take c.args.agreed.count (read nodes c.args.agreed.second)) (sym c.self.view_is)
    c.requires.same) c.insert.ensures.updates c.insert.ensures.err
