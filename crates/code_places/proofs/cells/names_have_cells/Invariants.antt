use Rattle.std.proofs.Common.{◌≡◌, ◌||◌, drop}
use Rattle.typing_rules.specs.UnitReading.{typed_names}
use Rattle.emission_rules.specs.Layout.{names_cells}
use Rattle.code_places.specs.Marks.{some}
use Rattle.code_places.proofs.cells.names_have_cells.Given as goal

abbrev pub invariant-loop-name : goal.invariant-loop-name
invariant-loop-name l = l.any || some (names_cells l.layout.structs (typed_names (drop l.name-index l.names))) ≡ some (names_cells l.layout.structs (typed_names l.names))
