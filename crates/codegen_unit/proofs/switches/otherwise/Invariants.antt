use Rattle.std.proofs.Common.{◌≡◌, ◌+◌, ◌<◌, ◌^◌, drop}
use Rattle.typing_rules.specs.UnitReading.{typed_stmts}
use Rattle.emission_rules.specs.Statements as code
use Rattle.codegen_unit.proofs.switches.otherwise.Given as goal

abbrev pub invariant-loop-stmt : goal.invariant-loop-stmt
invariant-loop-stmt l =
    (l.at + code.count_labels (typed_stmts (drop l.stmt-index l.stmts)) < 2 ^ 32)
    × (code.otherwise l.end l.at (typed_stmts (drop l.stmt-index l.stmts)) ≡ code.otherwise l.end l.initial.at (typed_stmts l.stmts))
