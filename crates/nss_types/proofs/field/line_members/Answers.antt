use Rattle.std.proofs.Common.{arith}
use Rattle.nss_types.proofs.FieldCells.{field_fits}
use Rattle.nss_types.proofs.field.line_members.Goals as goal

pub overflow_add-cells : goal.overflow_add-cells
overflow_add-cells c =
    omega (
      arith,
      c.requires.few,
      field_fits _ c.args.ty _ _ c.args.xs.now c.loop-x.x-index c.x-item.result c.loop-x-test.true c.x-item.is c.loop-x.invariant,
    )
