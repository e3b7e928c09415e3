use Rattle.std.proofs.Common.{◌≡◌, ◌||◌, drop}
use Rattle.emission_rules.specs.Layout.{params_cells}
use Rattle.code_places.specs.Marks.{some}
use Rattle.code_places.proofs.cells.parameters_have_cells.Given as goal

abbrev pub invariant-loop-parameter : goal.invariant-loop-parameter
invariant-loop-parameter l = l.any || some (params_cells l.layout.structs (drop l.parameter-index l.parameters)) ≡ some (params_cells l.layout.structs l.parameters)
