use Rattle.std.proofs.Common.{◌≡◌, true, false, refl, arith, rules}
use Rattle.typing_rules.specs.Returns.{has_default, is_default}
use Rattle.nss_statements.proofs.ReturnLemmas.{any_end, any_here, any_next}
use Rattle.nss_statements.proofs.returns.has_default.Goals as goal

pub returns-then-is_default : goal.returns-then-is_default
returns-then-is_default c =
    let is : c.is_default.result ≡ true = search rules in
    any_here has_default is_default (λ x xs. refl) c.args.xs.now c.loop-x.x-index c.x-item.result c.is_default.result _ c.loop-x-test.true c.x-item.is c.is_default.ensures is c.loop-x.invariant

pub loop-x-preserved : goal.loop-x-preserved
loop-x-preserved c =
    let is : c.is_default.result ≡ false = search rules in
    any_next has_default is_default (λ x xs. refl) c.args.xs.now c.loop-x.x-index c.x-item.result c.is_default.result _ c.loop-x-test.true c.x-item.is c.is_default.ensures is c.loop-x.invariant

pub returns : goal.returns
returns c = any_end has_default is_default (λ x xs. refl) c.args.xs.now c.loop-x.x-index _ refl (omega (arith, c.loop-x-test.false)) c.loop-x.invariant
