use Rattle.std.proofs.Common.{◌≡◌, drop}
use Rattle.typing_rules.specs.UnitReading.{typed_stmts}
use Rattle.code_places.specs.Marks as marks
use Rattle.code_places.specs.Seeking.{sought}
use Rattle.code_places.proofs.statements.seek_tests.Given as goal

abbrev pub invariant-loop-stmt : goal.invariant-loop-stmt
invariant-loop-stmt l = sought (marks.tests_marks l.of (typed_stmts (drop l.stmt-index l.stmts))) l.seek
    ≡ sought (marks.tests_marks l.of (typed_stmts l.stmts)) l.initial.seek
