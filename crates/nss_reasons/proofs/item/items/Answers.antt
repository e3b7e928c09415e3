use Rattle.nss_expressions.specs.Views.{heads_in, sight_in}
use Rattle.nss_reasons.proofs.NodeRows.{item_laws}
use Rattle.expression_reasons.specs.Rows.{row_found, row_sight}
use Rattle.nss_reasons.proofs.item.items.Goals as goal

pub loop-x-preserved : goal.loop-x-preserved
loop-x-preserved c = (
  row_found (item_laws (heads_in c.args.given.now)) c.args.xs.now c.loop-x.x-index _ c.x-item.result c.loop-x-test.true c.x-item.is (sight_in c.args.given.now c.loop-x.c)
      (sight_in c.args.given.now c.item.new.c) c.in_ok-item.ensures.sight c.args.k c.loop-x.found c.item.new.found _ c.in_ok-item.ensures.found c.loop-x.invariant.0,
  row_sight (item_laws (heads_in c.args.given.now)) c.args.xs.now c.loop-x.x-index _ c.x-item.result c.loop-x-test.true c.x-item.is (sight_in c.args.given.now c.loop-x.c)
      (sight_in c.args.given.now c.item.new.c) c.in_ok-item.ensures.sight _ c.loop-x.invariant.1,
)
