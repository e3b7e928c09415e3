use Rattle.std.proofs.Common.{◌≡◌, ap, subst, sym}
use Rattle.std.specs.Option.{option_map}
use Rattle.std.specs.Result.{IfOk, OnOk}
use Rattle.typing_rules.specs.Nodes.{asked, at, fine, kept}
use Rattle.typing_rules.specs.Reading.{plain}
use Rattle.typing_rules.specs.Rules.{for_rows, for_rule}
use Rattle.typing_rules.specs.UnitReading.{typed_stmt}
use Rattle.nss_statements.proofs.Judged.{four_is}
use Rattle.nss_statements.proofs.judge_statement.judge_for.Goals as goal

pub returns-in-Some : goal.returns-in-Some
returns-in-Some c =
    let n = c.args.token in
    let r = c.judge_for_of.result in
    let read = four_is (option_map plain) typed_stmt c.args.start c.args.condition c.args.step c.args.body _ _ _ c.two.ensures.both c.two-2.ensures.both c.in-Some.ensures.both in
    record {
      value = subst (λ o. IfOk r (λ x. option_map typed_stmt x ≡ fine (asked for_rows (for_rule n) o))) (sym read) c.judge_for_of.ensures.value;
      least = subst (λ o. OnOk r (c.judge_for_of.new.least ≡ kept c.args.least.now (at n (asked for_rows (for_rule n) o)))) (sym read) c.judge_for_of.ensures.least;
    }

pub returns-in-None : goal.returns-in-None
returns-in-None c =
    let n = c.args.token in
    let read = four_is (option_map plain) typed_stmt c.args.start c.args.condition c.args.step c.args.body _ _ _ c.two.ensures.both c.two-2.ensures.both c.in-None.ensures.both in
    record { value = ap (λ o. fine (asked for_rows (for_rule n) o)) (sym read); least = ap (λ o. kept c.args.least.now (at n (asked for_rows (for_rule n) o))) (sym read) }
