use Rattle.std.proofs.Common.{arith, refl, subst}
use Rattle.stack_lists.specs.Stacks.{IsTop}
use Rattle.stack_lists.proofs.Links.{top_is}
use Rattle.stack_lists.proofs.stacks.Stacks.link.Goals as goal

pub returns-in-Some : goal.returns-in-Some
returns-in-Some c =
    subst (λ nodes. IsTop nodes c.args.number c.in-Some.link.now) c.self.view_is
    (top_is c.self.inside.links c.args.number _ c.in-Some.link.now c.self.invariant.0 (omega (arith, c.if-number-eq0.false)) refl c.in-Some.ensures.item)
