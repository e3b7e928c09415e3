use Rattle.std.proofs.Common.{refl}
use Rattle.nss_reasons.proofs.NodeRows.{field_laws}
use Rattle.expression_reasons.specs.Rows.{row_found}
use Rattle.nss_reasons.proofs.line.fields.Goals as goal

pub loop-l-preserved : goal.loop-l-preserved
loop-l-preserved c =
    row_found field_laws c.args.ls.now c.loop-l.l-index _ c.l-item.result c.loop-l-test.true c.l-item.is c.args.structs.now c.args.structs.now refl
    c.args.k c.loop-l.found c.own_line.new.found _ c.own_line.ensures c.loop-l.invariant
