use Rattle.std.proofs.Common.{arith, ◌∷◌, ◌∙◌, ap, refl}
use Rattle.stack_lists.specs.Shared.{read}
use Rattle.stack_lists.proofs.Walks.{types_step}
use Rattle.stack_lists.proofs.slots.types_on.Goals as goal

pub loop-left-preserved : goal.loop-left-preserved
loop-left-preserved c =
    types_step _ _ _ _ _ _ _ _ _ c.loop-left.invariant
    (c.in-Some.ensures.top ∙ ap (λ slot. slot ∷ read c.args.lists.now c.in-Some.below) c.in-Of.is) (omega (arith, c.loop-left-test.true)) refl
    c.in_ok-push-in-Of.ensures.ok
