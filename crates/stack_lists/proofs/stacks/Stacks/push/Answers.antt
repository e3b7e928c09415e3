use Rattle.std.proofs.Common.{◌≤◌, length, subst, sym}
use Rattle.stack_lists.specs.Notes.{IsFresh}
use Rattle.stack_lists.proofs.Noting.{fresh_is}
use Rattle.stack_lists.proofs.stacks.Stacks.push.Goals as goal

pub add-requires-clause-fresh : goal.add-requires-clause-fresh
add-requires-clause-fresh c =
    subst (λ nodes. IsFresh nodes c.args.below c.args.slot) c.self.view_is
    (fresh_is c.self.inside.links c.args.below c.args.slot c.self.invariant.0 c.self.invariant.4
    (subst (λ nodes. c.args.below ≤ length nodes) (sym c.self.view_is) c.requires.inside) (λ number. c.find.ensures.none number c.in-None.is))
