use Rattle.std.proofs.Common.{◌≡◌, sym, subst, Some}
use Rattle.plan_text.specs.Plans.{one_more}
use Rattle.plan_text.specs.Steps.{Took}
use Rattle.plan_text.proofs.AddsLemmas.{same_more, refused, last_added, cut_shorter}
use Rattle.plan_text.proofs.draft.add_numbers.Goals as goal

pub returns-then-not-branch : goal.returns-then-not-branch
returns-then-not-branch c =
    refused _ _ _ _ _ _ c.loop-digits.invariant (sym c.in-Some.ensures.cut)
    (subst (λ took. Took (λ after. one_more c.loop-digits.random c.in-Some.digits.now ≡ Some after) took c.add_number.new.random)
    c.if-not-branch.true (c.in_ok-add_number.ensures {u = tt}))

pub loop-digits-smaller : goal.loop-digits-smaller
loop-digits-smaller c = cut_shorter _ _ _ (sym c.in-Some.ensures.cut)

pub loop-digits-preserved : goal.loop-digits-preserved
loop-digits-preserved c =
    same_more _ _ _ _ _ _ _ c.loop-digits.invariant (sym c.in-Some.ensures.cut)
    (subst (λ took. Took (λ after. one_more c.loop-digits.random c.in-Some.digits.now ≡ Some after) took c.add_number.new.random)
    c.if-not-branch.false (c.in_ok-add_number.ensures {u = tt}))

pub returns : goal.returns
returns c =
    last_added _ _ c.loop-digits.random c.loop-digits.rest.now _ c.in_ok-took.took c.loop-digits.invariant
    (sym c.in_default.ensures.cut) (c.in_ok-took.ensures {u = tt})
