use Rattle.std.proofs.Common.{◌≡◌, ◌+◌, drop}
use Rattle.typing_rules.specs.UnitReading.{typed_names}
use Rattle.emission_rules.specs.Layout as laid
use Rattle.codegen_unit.proofs.declarations.names_cells.Given as goal

abbrev pub invariant-loop-name : goal.invariant-loop-name
invariant-loop-name l = l.cells + laid.names_cells l.layout.structs (typed_names (drop l.name-index l.names)) ≡ laid.names_cells l.layout.structs (typed_names l.names)
