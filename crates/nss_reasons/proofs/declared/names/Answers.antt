use Rattle.nss_expressions.specs.Views.{heads_in, sight_in}
use Rattle.nss_reasons.proofs.NodeRows.{name_laws}
use Rattle.expression_reasons.specs.Rows.{row_found, row_sight}
use Rattle.nss_reasons.proofs.declared.names.Goals as goal

pub loop-name-preserved : goal.loop-name-preserved
loop-name-preserved c = (
  row_found (name_laws (heads_in c.args.given.now) c.args.ty) c.args.names.now c.loop-name.name-index _ c.name-item.result c.loop-name-test.true c.name-item.is
      (sight_in c.args.given.now c.loop-name.c)
      (sight_in c.args.given.now c.variable.new.c) c.in_ok-variable.ensures.sight c.args.k c.loop-name.found c.variable.new.found _ c.in_ok-variable.ensures.found c.loop-name.invariant.0,
  row_sight (name_laws (heads_in c.args.given.now) c.args.ty) c.args.names.now c.loop-name.name-index _ c.name-item.result c.loop-name-test.true c.name-item.is
      (sight_in c.args.given.now c.loop-name.c)
      (sight_in c.args.given.now c.variable.new.c) c.in_ok-variable.ensures.sight _ c.loop-name.invariant.1,
)
