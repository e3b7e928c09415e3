use Rattle.std.proofs.Common.{◌≡◌, drop}
use Rattle.typing_rules.specs.UnitReading.{typed_items}
use Rattle.emission_rules.specs.Units as units
use Rattle.codegen_expr.specs.Emitted.{extended}
use Rattle.codegen_unit.specs.Ready.{AreFunctionsOpen, FunctionsReady}
use Rattle.codegen_unit.proofs.units.emit_functions.Given as goal

abbrev pub invariant-loop-item : goal.invariant-loop-item
invariant-loop-item l =
    FunctionsReady l.out.labels l.layout (typed_items (drop l.item-index l.items))
    × AreFunctionsOpen l.out.labels l.out.lines l.number (typed_items (drop l.item-index l.items))
    × (extended l.out (units.emit_functions l.layout l.out.labels l.number (typed_items (drop l.item-index l.items))) (units.functions_labels (typed_items (drop l.item-index l.items)))
    ≡ extended l.fn.out (units.emit_functions l.layout l.fn.out.labels 0 (typed_items l.items)) (units.functions_labels (typed_items l.items)))
