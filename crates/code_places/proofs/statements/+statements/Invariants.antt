use Rattle.std.proofs.Common.{◌≡◌, ◌+◌, drop}
use Rattle.typing_rules.specs.UnitReading.{typed_stmt, typed_stmts}
use Rattle.code_places.specs.Marks as marks
use Rattle.code_places.specs.Seeking.{sought}
use Rattle.code_places.proofs.Ending.{extent, extents}
use Rattle.code_places.proofs.statements.+statements.Given as goal

abbrev pub invariant-seek_stmts-loop-stmt : goal.invariant-seek_stmts-loop-stmt
invariant-seek_stmts-loop-stmt l = sought (marks.stmts_marks l.layout l.frame l.node (typed_stmts (drop l.stmt-index l.stmts))) l.seek
    ≡ sought (marks.stmts_marks l.layout l.initial.frame l.initial.node (typed_stmts l.stmts)) l.initial.seek

abbrev pub decreases-seek_stmt : goal.decreases-seek_stmt
decreases-seek_stmt l = extent (typed_stmt l.stmt.now)

abbrev pub decreases-seek_stmts : goal.decreases-seek_stmts
decreases-seek_stmts l = extents (typed_stmts l.stmts.now) + 1

abbrev pub decreases-seek_block : goal.decreases-seek_block
decreases-seek_block l = extents (typed_stmts l.items.now) + 2

abbrev pub decreases-seek_if : goal.decreases-seek_if
decreases-seek_if l = extent (typed_stmt l.then.now) + 1

abbrev pub decreases-seek_if_else : goal.decreases-seek_if_else
decreases-seek_if_else l = extent (typed_stmt l.then.now) + extent (typed_stmt l.otherwise.now) + 1

abbrev pub decreases-seek_while : goal.decreases-seek_while
decreases-seek_while l = extent (typed_stmt l.body.now) + 1

abbrev pub decreases-seek_do : goal.decreases-seek_do
decreases-seek_do l = extent (typed_stmt l.body.now) + 1

abbrev pub decreases-seek_for : goal.decreases-seek_for
decreases-seek_for l = extent (typed_stmt l.body.now) + 1

abbrev pub decreases-seek_switch : goal.decreases-seek_switch
decreases-seek_switch l = extents (typed_stmts l.body.now) + 2
