use Rattle.std.proofs.Common.{◌≡◌, drop}
use Rattle.typing_rules.specs.UnitReading.{typed_items}
use Rattle.emission_rules.specs.Units as units
use Rattle.codegen_expr.specs.Emitted.{extended}
use Rattle.codegen_unit.specs.Ready.{GlobalsReady}
use Rattle.codegen_unit.proofs.units.emit_globals.Given as goal

abbrev pub invariant-loop-item : goal.invariant-loop-item
invariant-loop-item l =
    GlobalsReady l.out.labels l.layout l.depth (typed_items (drop l.item-index l.items))
    × (extended l.out (units.emit_globals l.layout l.out.labels l.depth (typed_items (drop l.item-index l.items))) (units.globals_labels (typed_items (drop l.item-index l.items)))
    ≡ extended l.fn.out (units.emit_globals l.layout l.fn.out.labels 0 (typed_items l.items)) (units.globals_labels (typed_items l.items)))
