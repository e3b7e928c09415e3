use Rattle.nss_scopes.specs.Views.{in_sight}
use Rattle.typing_rules.specs.Verdicts.{late_after, parameter_declared}
use Rattle.nss_types.proofs.ParameterRows.{pair_is, param_laws, params_sight}
use Rattle.nss_expressions.specs.RowLaws.{row_value, row_least}
use Rattle.nss_types.proofs.parameter.parameters.Goals as goal

pub loop-p-preserved : goal.loop-p-preserved
loop-p-preserved c = (
  row_value param_laws c.args.ps.now c.loop-p.p-index _ c.p-item.result c.loop-p-test.true c.p-item.is (in_sight c.args.table.now c.loop-p.c, c.loop-p.late)
      (in_sight c.args.table.now c.parameter.new.c, c.late_after-late.result)
      (pair_is _ (parameter_declared (in_sight c.args.table.now c.loop-p.c) c.p-item.result) _ (late_after c.loop-p.late c.p-item.result) c.in_ok-one.ensures.sight c.late_after-late.ensures)
      c.loop-p.all c.in_ok-all.all c.in_ok-one.one _ c.in_ok-one.ensures.value c.in_ok-all.ensures.row c.loop-p.invariant.0,
  row_least param_laws c.args.ps.now c.loop-p.p-index _ c.p-item.result c.loop-p-test.true c.p-item.is (in_sight c.args.table.now c.loop-p.c, c.loop-p.late)
      (in_sight c.args.table.now c.parameter.new.c, c.late_after-late.result)
      (pair_is _ (parameter_declared (in_sight c.args.table.now c.loop-p.c) c.p-item.result) _ (late_after c.loop-p.late c.p-item.result) c.in_ok-one.ensures.sight c.late_after-late.ensures)
      c.loop-p.least c.parameter.new.least _ c.in_ok-one.ensures.least c.loop-p.invariant.1,
  params_sight c.args.ps.now c.loop-p.p-index _ c.p-item.result c.loop-p-test.true c.p-item.is (in_sight c.args.table.now c.loop-p.c)
      (in_sight c.args.table.now c.parameter.new.c) c.in_ok-one.ensures.sight _ c.loop-p.invariant.2,
)
