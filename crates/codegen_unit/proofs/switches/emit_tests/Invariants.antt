use Rattle.std.proofs.Common.{◌≡◌, ◌+◌, ◌≤◌, ◌++◌, drop}
use Rattle.ncs_emit.specs.Labelled.{LabelledCode}
use Rattle.typing_rules.specs.UnitReading.{typed_stmts}
use Rattle.emission_rules.specs.Statements as code
use Rattle.codegen_unit.proofs.switches.emit_tests.Given as goal

abbrev pub invariant-loop-stmt : goal.invariant-loop-stmt
invariant-loop-stmt l =
    (l.at + code.count_labels (typed_stmts (drop l.stmt-index l.stmts)) ≤ l.out.labels)
    × (◌≡◌ {A = LabelledCode} (record l.out { lines = l.out.lines ++ code.tests l.at (typed_stmts (drop l.stmt-index l.stmts)) })
    (record l.initial.out { lines = l.initial.out.lines ++ code.tests l.initial.at (typed_stmts l.stmts) }))
