use Rattle.std.proofs.Common.{◌≡◌, drop}
use Rattle.typing_rules.specs.UnitReading.{typed_names}
use Rattle.emission_rules.specs.Statements as code
use Rattle.codegen_expr.specs.Emitted.{extended}
use Rattle.codegen_unit.specs.Ready.{NamesReady}
use Rattle.codegen_unit.proofs.declarations.emit_names.Given as goal

abbrev pub invariant-loop-name : goal.invariant-loop-name
invariant-loop-name l =
    NamesReady l.out.labels l.layout l.depth (typed_names (drop l.name-index l.names))
    × (extended l.out (code.emit_names l.layout l.out.labels l.depth (typed_names (drop l.name-index l.names))) (code.names_labels (typed_names (drop l.name-index l.names)))
    ≡ extended l.initial.out (code.emit_names l.layout l.initial.out.labels l.initial.depth (typed_names l.names)) (code.names_labels (typed_names l.names)))
