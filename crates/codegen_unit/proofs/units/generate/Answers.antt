use Rattle.std.proofs.Common.{◌<◌, ◌≤◌, subst, sym}
use Rattle.ncs_emit.specs.Labelled.{LabelledCode, placements}
use Rattle.typing_rules.specs.UnitReading.{typed_unit}
use Rattle.emission_rules.specs.Units as units
use Rattle.codegen_unit.proofs.Listed.{placed_some}
use Rattle.codegen_unit.proofs.units.generate.Goals as goal

pub finish-requires : goal.finish-requires
finish-requires c =
    record {
      placed = λ label lt. subst (λ (d : LabelledCode). label < d.labels → 1 ≤ placements d.lines label) (sym c.in_ok-emit_unit.ensures)
          (placed_some (units.unit_code (typed_unit c.args.unit.now)).lines label
          (units.unit_code (typed_unit c.args.unit.now)).labels
          (c.each_placed_once.ensures.once (typed_unit c.args.unit.now) label)) lt;
    }
