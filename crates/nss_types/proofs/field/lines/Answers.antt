use Rattle.nss_types.specs.Fields.{fields_of}
use Rattle.nss_types.proofs.FieldRows.{line_laws}
use Rattle.nss_expressions.specs.RowLaws.{row_value, row_least}
use Rattle.nss_types.proofs.field.lines.Goals as goal

pub loop-l-preserved : goal.loop-l-preserved
loop-l-preserved c = (
  row_value (line_laws c.args.structs.now) c.args.ls.now c.loop-l.l-index _ c.l-item.result c.loop-l-test.true c.l-item.is (fields_of c.loop-l.fields) (fields_of c.line.new.fields)
      c.in_ok-one.ensures.fields c.loop-l.all c.in_ok-all.all c.in_ok-one.one _ c.in_ok-one.ensures.value c.in_ok-all.ensures.row c.loop-l.invariant.0,
  row_least (line_laws c.args.structs.now) c.args.ls.now c.loop-l.l-index _ c.l-item.result c.loop-l-test.true c.l-item.is (fields_of c.loop-l.fields) (fields_of c.line.new.fields)
      c.in_ok-one.ensures.fields c.loop-l.least c.line.new.least _ c.in_ok-one.ensures.least c.loop-l.invariant.1,
)
