use Rattle.std.proofs.Common.{◌≡◌, ◌∙◌, ap, drop, slice_get, arith}
use Rattle.local_variables.proofs.KeptLemmas.{drop_more, first_of_rest}
use Rattle.local_variables.proofs.vars.Vars.get.Goals as goal

pub loop-preserved : goal.loop-preserved
loop-preserved c = c.next.ensures.rest ∙ ap (drop 1) c.loop.invariant ∙ drop_more c.loop.counter c.walk-walk.result

pub returns : goal.returns
returns c =
    let all : c.loop.counter ≡ c.args.i = omega (arith, c.loop-test.false, c.loop.auto.counter-end) in
    record {
      variable = c.next-2.ensures.first ∙ ap (λ w. slice_get w 0) c.loop.invariant ∙ first_of_rest c.loop.counter c.walk-walk.result ∙ (λ j. slice_get (c.walk-walk.ensures.all j) (all j));
    }
