use Rattle.nss_expressions.specs.Views.{sight_in}
use Rattle.typing_rules.specs.Verdicts.{late_after, parameter_declared}
use Rattle.nss_reasons.proofs.NodeRows.{pair_is, param_laws, params_sight}
use Rattle.expression_reasons.specs.Rows.{row_found}
use Rattle.nss_reasons.proofs.item.parameters.Goals as goal

pub loop-p-preserved : goal.loop-p-preserved
loop-p-preserved c = (
  row_found param_laws c.args.ps.now c.loop-p.p-index _ c.p-item.result c.loop-p-test.true c.p-item.is (sight_in c.args.given.now c.loop-p.c, c.loop-p.late)
      (sight_in c.args.given.now c.parameter.new.c, c.late_after-late.result)
      (pair_is _ (parameter_declared (sight_in c.args.given.now c.loop-p.c) c.p-item.result) _ (late_after c.loop-p.late c.p-item.result) c.in_ok-parameter.ensures.sight c.late_after-late.ensures)
      c.args.k c.loop-p.found c.parameter.new.found _ c.in_ok-parameter.ensures.found c.loop-p.invariant.0,
  params_sight c.args.ps.now c.loop-p.p-index _ c.p-item.result c.loop-p-test.true c.p-item.is (sight_in c.args.given.now c.loop-p.c)
      (sight_in c.args.given.now c.parameter.new.c) c.in_ok-parameter.ensures.sight _ c.loop-p.invariant.1,
)
