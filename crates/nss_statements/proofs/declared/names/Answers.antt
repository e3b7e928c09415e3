use Rattle.nss_expressions.specs.Views.{heads_in, sight_in}
use Rattle.nss_expressions.specs.RowLaws.{row_value, row_least, row_sight}
use Rattle.nss_statements.proofs.NameRows.{name_laws}
use Rattle.nss_statements.proofs.declared.names.Goals as goal

pub loop-name-preserved : goal.loop-name-preserved
loop-name-preserved c = (
  row_value (name_laws (heads_in c.args.given.now) c.args.ty) c.args.names.now c.loop-name.name-index _ c.name-item.result c.loop-name-test.true c.name-item.is
      (sight_in c.args.given.now c.loop-name.sight)
      (sight_in c.args.given.now c.variable.new.sight) c.in_ok-one.ensures.sight c.loop-name.all c.in_ok-all.all c.in_ok-one.one _ c.in_ok-one.ensures.value c.in_ok-all.ensures.row
      c.loop-name.invariant.0,
  row_least (name_laws (heads_in c.args.given.now) c.args.ty) c.args.names.now c.loop-name.name-index _ c.name-item.result c.loop-name-test.true c.name-item.is
      (sight_in c.args.given.now c.loop-name.sight)
      (sight_in c.args.given.now c.variable.new.sight) c.in_ok-one.ensures.sight c.loop-name.least c.variable.new.least _ c.in_ok-one.ensures.least c.loop-name.invariant.1,
  row_sight (name_laws (heads_in c.args.given.now) c.args.ty) c.args.names.now c.loop-name.name-index _ c.name-item.result c.loop-name-test.true c.name-item.is
      (sight_in c.args.given.now c.loop-name.sight)
      (sight_in c.args.given.now c.variable.new.sight) c.in_ok-one.ensures.sight _ c.loop-name.invariant.2,
)
