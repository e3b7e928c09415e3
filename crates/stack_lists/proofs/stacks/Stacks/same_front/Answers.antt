use Rattle.std.proofs.Common.{arith, rules, refl}
use Rattle.std.proofs.lemmas.Bool.{iff_false}
use Rattle.stack_lists.proofs.Walks.{differ_heads, same_step}
use Rattle.stack_lists.proofs.Links.{take_top}
use Rattle.stack_lists.proofs.stacks.Stacks.same_front.Goals as goal

pub loop-left-preserved : goal.loop-left-preserved
loop-left-preserved c =
    same_step _ _ _ _ _ _ _ _ c.loop-left.invariant
    (take_top _ _ _ _ _ c.in-Some-Some.ensures.top (omega (arith, c.loop-left-test.true)) refl)
    (take_top _ _ _ _ _ c.in-Some-Some.ensures'.top (omega (arith, c.loop-left-test.true)) refl)
    (search rules)

pub returns-then-not-alike : goal.returns-then-not-alike
returns-then-not-alike c = (
  λ t. absurd (search rules),
  λ e. absurd (differ_heads _ _ _ _ _ _ _ _ c.loop-left.invariant
      (take_top _ _ _ _ _ c.in-Some-Some.ensures.top (omega (arith, c.loop-left-test.true)) refl)
      (take_top _ _ _ _ _ c.in-Some-Some.ensures'.top (omega (arith, c.loop-left-test.true)) refl) (iff_false c.alike.ensures (search rules)) e),
)
