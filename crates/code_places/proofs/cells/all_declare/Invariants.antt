use Rattle.std.proofs.Common.{◌≡◌, ◌||◌, drop}
use Rattle.typing_rules.specs.UnitReading.{typed_stmts}
use Rattle.emission_rules.specs.Layout.{all_declared_cells}
use Rattle.code_places.specs.Marks.{some}
use Rattle.code_places.proofs.cells.all_declare.Given as goal

abbrev pub invariant-loop-stmt : goal.invariant-loop-stmt
invariant-loop-stmt l = l.any || some (all_declared_cells l.layout.structs (typed_stmts (drop l.stmt-index l.stmts))) ≡ some (all_declared_cells l.layout.structs (typed_stmts l.stmts))
