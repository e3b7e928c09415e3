use Rattle.std.proofs.Common.{arith, ap, sym, ◌∙◌}
use Rattle.nss_tree.specs.Units.{global}
use Rattle.typing_rules.specs.UnitReading.{typed_item, typed_names}
use Rattle.codegen_unit.proofs.Listed.{one_few}
use Rattle.codegen_unit.proofs.units.emit_global.Goals as goal

pub names_cells-requires : goal.names_cells-requires
names_cells-requires c =
    record {
      few = omega (
        arith,
        one_few _ _ _ _ c.in-Global.token c.in-Global.ty _
            (ap typed_item c.in-Global.is
            ∙ ap (λ ys. global c.in-Global.token c.in-Global.ty (typed_names ys))
            (sym c.as_slice-in-Global.ensures.items)) c.requires.ready,
      );
    }

pub overflow_add-result : goal.overflow_add-result
overflow_add-result c =
    omega (
      arith,
      c.names_cells.ensures,
      one_few _ _ _ _ c.in-Global.token c.in-Global.ty _
          (ap typed_item c.in-Global.is
          ∙ ap (λ ys. global c.in-Global.token c.in-Global.ty (typed_names ys))
          (sym c.as_slice-in-Global.ensures.items)) c.requires.ready,
    )
