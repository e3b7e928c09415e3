use Rattle.std.proofs.Common.{◌≡◌, ◌+◌, drop}
use Rattle.typing_rules.specs.UnitReading.{typed_stmts}
use Rattle.emission_rules.specs.Statements as code
use Rattle.codegen_unit.proofs.switches.count_labels.Given as goal

abbrev pub invariant-loop-stmt : goal.invariant-loop-stmt
invariant-loop-stmt l = l.count + code.count_labels (typed_stmts (drop l.stmt-index l.stmts)) ≡ code.count_labels (typed_stmts l.stmts)
