use Rattle.std.proofs.Common.{arith}
use Rattle.std.specs.Option.{option_map}
use Rattle.nss_tree.specs.Reading.{plain_exprs}
use Rattle.typing_rules.specs.Reading.{plain, plain_all}
use Rattle.typing_rules.specs.Verdicts.{all_fine}
use Rattle.nss_expressions.specs.Views.{heads_in, sight_in}
use Rattle.nss_expressions.specs.ArgumentLaws.{begin_value, next_value, end_value}
use Rattle.expression_reasons.proofs.expression.typed_arguments.Goals as goal

pub loop-e-init : goal.loop-e-init
loop-e-init c = begin_value c.new.result (all_fine (heads_in c.args.given.now) (sight_in c.args.given.now c.args.c.now) c.args.params.now (plain_exprs c.args.es.now)) c.new.ensures.empty

pub loop-e-preserved : goal.loop-e-preserved
loop-e-preserved c =
    next_value (heads_in c.args.given.now)
    (sight_in c.args.given.now c.args.c.now) c.args.es.now c.loop-e.e-index c.e-item.result c.loop-e.rest.now c.others-rest.result.now c.takes_action.result c.loop-e-test.true c.e-item.is
    c.takes_action.ensures.test c.others-rest.ensures.others (option_map plain_all c.loop-e.all) (option_map plain_all c.in_ok-all.all) (option_map plain c.in_ok-one.one) _
    c.in_ok-one.ensures.value c.in_ok-all.ensures c.loop-e.invariant

pub returns : goal.returns
returns c = record {
  value = end_value (heads_in c.args.given.now)
      (sight_in c.args.given.now c.args.c.now) c.args.es.now c.loop-e.e-index c.loop-e.rest.now
      (option_map plain_all c.loop-e.all) _ (omega (arith, c.loop-e-test.false)) c.loop-e.invariant;
}
