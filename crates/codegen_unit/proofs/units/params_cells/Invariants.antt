use Rattle.std.proofs.Common.{◌≡◌, ◌+◌, drop}
use Rattle.emission_rules.specs.Layout as laid
use Rattle.codegen_unit.proofs.units.params_cells.Given as goal

abbrev pub invariant-loop-parameter : goal.invariant-loop-parameter
invariant-loop-parameter l = l.cells + laid.params_cells l.layout.structs (drop l.parameter-index l.parameters) ≡ laid.params_cells l.layout.structs l.parameters
