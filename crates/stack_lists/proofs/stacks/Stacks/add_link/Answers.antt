use Rattle.std.proofs.Common.{subst, sym}
use Rattle.stack_lists.specs.Stacks.{IsNew}
use Rattle.stack_lists.specs.Notes.{IsFresh}
use Rattle.stack_lists.proofs.Noting.{added_whole}
use Rattle.stack_lists.proofs.stacks.Stacks.add_link.Goals as goal

pub invariant_of-self : goal.invariant_of-self
invariant_of-self c =
    added_whole c.self.inside.links c.add_noted.new.links c.self.inside.newest c.add_noted.new.newest c.self.inside.older c.add_noted.new.older c.args.link
    c.self.inside.agreed c.self.inside.joins c.add_noted.result c.self.invariant (subst (λ nodes. IsNew nodes c.args.link) (sym c.self.view_is) c.requires.new)
    (subst (λ nodes. IsFresh nodes c.args.link.below c.args.link.slot) (sym c.self.view_is) c.requires.fresh)
    c.add_noted.ensures.added c.add_noted.ensures.room c.add_noted.ensures.same c.add_noted.ensures.noted

pub returns-clause-one : goal.returns-clause-one
returns-clause-one c =
    (added_whole c.self.inside.links c.add_noted.new.links c.self.inside.newest c.add_noted.new.newest c.self.inside.older c.add_noted.new.older c.args.link
    c.self.inside.agreed c.self.inside.joins c.add_noted.result c.self.invariant (subst (λ nodes. IsNew nodes c.args.link) (sym c.self.view_is) c.requires.new)
    (subst (λ nodes. IsFresh nodes c.args.link.below c.args.link.slot) (sym c.self.view_is) c.requires.fresh)
    c.add_noted.ensures.added c.add_noted.ensures.room c.add_noted.ensures.same c.add_noted.ensures.noted).4
