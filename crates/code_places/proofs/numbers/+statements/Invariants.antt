use Rattle.std.proofs.Common.{◌≡◌, drop}
use Rattle.typing_rules.specs.UnitReading.{typed_stmts}
use Rattle.code_places.specs.Numbers as numbers
use Rattle.code_places.proofs.numbers.+statements.Given as goal

abbrev pub invariant-behind_stmts-loop-stmt : goal.invariant-behind_stmts-loop-stmt
invariant-behind_stmts-loop-stmt l = numbers.behind_stmts l.node (typed_stmts (drop l.stmt-index l.stmts)) ≡ numbers.behind_stmts l.initial.node (typed_stmts l.stmts)
