use Rattle.nss_expressions.specs.Views.{heads_in, sight_in}
use Rattle.nss_types.proofs.ItemRows.{item_laws}
use Rattle.nss_expressions.specs.RowLaws.{row_value, row_least, row_sight}
use Rattle.nss_types.proofs.item.items.Goals as goal

pub loop-x-preserved : goal.loop-x-preserved
loop-x-preserved c = (
  row_value (item_laws (heads_in c.args.given.now)) c.args.xs.now c.loop-x.x-index _ c.x-item.result c.loop-x-test.true c.x-item.is (sight_in c.args.given.now c.loop-x.c)
      (sight_in c.args.given.now c.item.new.c) c.in_ok-one.ensures.sight c.loop-x.all c.in_ok-all.all c.in_ok-one.one _ c.in_ok-one.ensures.value c.in_ok-all.ensures.row c.loop-x.invariant.0,
  row_least (item_laws (heads_in c.args.given.now)) c.args.xs.now c.loop-x.x-index _ c.x-item.result c.loop-x-test.true c.x-item.is (sight_in c.args.given.now c.loop-x.c)
      (sight_in c.args.given.now c.item.new.c) c.in_ok-one.ensures.sight c.loop-x.least c.item.new.least _ c.in_ok-one.ensures.least c.loop-x.invariant.1,
  row_sight (item_laws (heads_in c.args.given.now)) c.args.xs.now c.loop-x.x-index _ c.x-item.result c.loop-x-test.true c.x-item.is (sight_in c.args.given.now c.loop-x.c)
      (sight_in c.args.given.now c.item.new.c) c.in_ok-one.ensures.sight _ c.loop-x.invariant.2,
)
