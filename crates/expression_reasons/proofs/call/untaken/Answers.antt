use Rattle.std.proofs.Common.{◌≡◌, ◌∙◌, ◌+◌, drop, false, true, if◌then◌else◌, slice_index_or, Some, sym, ap, arith, rules}
use Rattle.std.proofs.lemmas.List.{at_drop_all}
use Rattle.nwq_value.specs.declared.engine.Param.{Param}
use Rattle.typing_rules.specs.Reading.{plain, plain_all}
use Rattle.typing_rules.specs.Readings.{plain_all_none}
use Rattle.typing_rules.specs.Rules.{takes}
use Rattle.typing_rules.specs.Typed.{type_of}
use Rattle.expression_reasons.specs.declared.reason.Reason.TheVariants.{Argument}
use Rattle.expression_reasons.specs.Why.{untaken}
use Rattle.expression_reasons.proofs.CallLemmas.{no_params, untaken_at}
use Rattle.expression_reasons.proofs.call.untaken.Goals as goal

pub returns-then-not-takes : goal.returns-then-not-takes
returns-then-not-takes c =
    let n = c.loop-number.number in
    let x = c.index-xs-number.result in
    let p = c.index-params-number.result in
    let wanted = (slice_index_or c.args.params.now n p).ty in
    let same : p.ty ≡ wanted = ap (λ (q : Param). q.ty) c.index-params-number.is in
    let refused : c.takes.result ≡ false = search rules in
    let no : takes p.ty (plain x) ≡ false = ap (λ t. takes t (plain x)) same ∙ (sym c.takes.ensures ∙ refused) in
    ap (λ t. Some (Argument (n + 1) t wanted)) c.ty.ensures.ty
    ∙ (ap (λ t. Some (Argument (n + 1) (type_of (plain x)) t)) (sym same)
    ∙ (sym (ap (λ b. if b then untaken (n + 1) (plain_all (drop (n + 1) c.args.xs.now)) (drop (n + 1) c.args.params.now) else Some (Argument (n + 1) (type_of (plain x)) p.ty)) no)
    ∙ (sym (untaken_at n c.args.xs.now c.args.params.now n x p c.loop-number-test.true c.index-xs-number.is c.if-number-params.true c.index-params-number.is) ∙ c.loop-number.invariant)))

pub loop-number-preserved : goal.loop-number-preserved
loop-number-preserved c =
    let n = c.loop-number.number in
    let x = c.index-xs-number.result in
    let p = c.index-params-number.result in
    let wanted = (slice_index_or c.args.params.now n p).ty in
    let same : p.ty ≡ wanted = ap (λ (q : Param). q.ty) c.index-params-number.is in
    let taken : c.takes.result ≡ true = search rules in
    let yes : takes p.ty (plain x) ≡ true = ap (λ t. takes t (plain x)) same ∙ (sym c.takes.ensures ∙ taken) in
    sym (ap (λ b. if b then untaken (n + 1) (plain_all (drop (n + 1) c.args.xs.now)) (drop (n + 1) c.args.params.now) else Some (Argument (n + 1) (type_of (plain x)) p.ty)) yes)
    ∙ (sym (untaken_at n c.args.xs.now c.args.params.now n x p c.loop-number-test.true c.index-xs-number.is c.if-number-params.true c.index-params-number.is) ∙ c.loop-number.invariant)

pub returns-else-number-params : goal.returns-else-number-params
returns-else-number-params c =
    let n = c.loop-number.number in
    no_params n (plain_all (drop n c.args.xs.now))
    ∙ (sym (at_drop_all (untaken n (plain_all (drop n c.args.xs.now))) c.args.params.now n (omega (arith, c.if-number-params.false))) ∙ c.loop-number.invariant)

pub returns-after-loop-number : goal.returns-after-loop-number
returns-after-loop-number c =
    let n = c.loop-number.number in
    sym (ap (λ ts. untaken n ts (drop n c.args.params.now)) plain_all_none)
    ∙ (sym (at_drop_all (λ ys. untaken n (plain_all ys) (drop n c.args.params.now)) c.args.xs.now n (omega (arith, c.loop-number-test.false))) ∙ c.loop-number.invariant)
