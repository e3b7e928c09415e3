use Rattle.std.proofs.Common.{◌≡◌, ◌∙◌, ◌&&◌, ◌+◌, drop, false, true, sym, ap, arith, rules}
use Rattle.std.proofs.lemmas.List.{at_drop_all}
use Rattle.typing_rules.specs.Reading.{plain_all}
use Rattle.typing_rules.specs.Rules.{all_taken, others}
use Rattle.nss_expressions.proofs.ArgumentLemmas.{all_taken_at, all_taken_end}
use Rattle.nss_expressions.proofs.call.all_taken.Goals as goal

pub returns-then-not-first_takes : goal.returns-then-not-first_takes
returns-then-not-first_takes c =
    let no : c.first_takes.result ≡ false = search rules in
    sym (ap (λ b. b && all_taken (plain_all (drop (c.loop-x.x-index + 1) c.args.xs.now)) (others c.loop-x.rest.now)) (sym c.first_takes.ensures ∙ no))
    ∙ (sym (all_taken_at c.args.xs.now c.loop-x.x-index c.x-item.result c.loop-x.rest.now c.loop-x-test.true c.x-item.is) ∙ c.loop-x.invariant)

pub loop-x-preserved : goal.loop-x-preserved
loop-x-preserved c =
    let yes : c.first_takes.result ≡ true = search rules in
    ap (all_taken (plain_all (drop (c.loop-x.x-index + 1) c.args.xs.now))) c.others-rest.ensures.others
    ∙ (sym (ap (λ b. b && all_taken (plain_all (drop (c.loop-x.x-index + 1) c.args.xs.now)) (others c.loop-x.rest.now)) (sym c.first_takes.ensures ∙ yes))
    ∙ (sym (all_taken_at c.args.xs.now c.loop-x.x-index c.x-item.result c.loop-x.rest.now c.loop-x-test.true c.x-item.is) ∙ c.loop-x.invariant))

pub returns : goal.returns
returns c =
    sym (all_taken_end c.loop-x.rest.now)
    ∙ (sym (at_drop_all (λ ys. all_taken (plain_all ys) c.loop-x.rest.now) c.args.xs.now c.loop-x.x-index (omega (arith, c.loop-x-test.false))) ∙ c.loop-x.invariant)
