use Rattle.nss_types.specs.Fields.{fields_of}
use Rattle.nss_types.proofs.FieldRows.{field_laws}
use Rattle.nss_expressions.specs.RowLaws.{row_value, row_least, row_sight}
use Rattle.nss_types.proofs.field.fields_of_line.Goals as goal

pub loop-x-preserved : goal.loop-x-preserved
loop-x-preserved c = (
  row_value (field_laws c.args.structs.now c.args.ty) c.args.xs.now c.loop-x.x-index _ c.x-item.result c.loop-x-test.true c.x-item.is (fields_of c.loop-x.fields) (fields_of c.field.new.fields)
      c.in_ok-one.ensures.fields c.loop-x.all c.in_ok-all.all c.in_ok-one.one _ c.in_ok-one.ensures.value c.in_ok-all.ensures.row c.loop-x.invariant.0,
  row_least (field_laws c.args.structs.now c.args.ty) c.args.xs.now c.loop-x.x-index _ c.x-item.result c.loop-x-test.true c.x-item.is (fields_of c.loop-x.fields) (fields_of c.field.new.fields)
      c.in_ok-one.ensures.fields c.loop-x.least c.field.new.least _ c.in_ok-one.ensures.least c.loop-x.invariant.1,
  row_sight (field_laws c.args.structs.now c.args.ty) c.args.xs.now c.loop-x.x-index _ c.x-item.result c.loop-x-test.true c.x-item.is (fields_of c.loop-x.fields) (fields_of c.field.new.fields)
      c.in_ok-one.ensures.fields _ c.loop-x.invariant.2,
)
