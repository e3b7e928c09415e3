use Rattle.std.proofs.Common.{◌≡◌, ◌+◌, drop}
use Rattle.typing_rules.specs.UnitReading.{typed_stmt, typed_stmts}
use Rattle.codegen_unit.proofs.Arms.{size, all_size}
use Rattle.emission_rules.specs.Layout.{all_declared_cells}
use Rattle.emission_rules.specs.Statements as code
use Rattle.codegen_expr.specs.Emitted.{extended}
use Rattle.codegen_unit.specs.Ready.{AreOpenIn, StmtsReady, plain_exits}
use Rattle.codegen_unit.proofs.statements.+statement.Given as goal

abbrev pub invariant-statements-loop-stmt : goal.invariant-statements-loop-stmt
invariant-statements-loop-stmt l =
    StmtsReady l.out.labels l.layout l.depth l.exits (typed_stmts (drop l.stmt-index l.stmts))
    × AreOpenIn l.out.labels l.out.lines l.at (typed_stmts (drop l.stmt-index l.stmts))
    × (extended l.out (code.emit_stmts l.layout (plain_exits l.exits) l.out.labels l.depth l.at
    (typed_stmts (drop l.stmt-index l.stmts))) (code.all_stmt_labels (typed_stmts (drop l.stmt-index l.stmts)))
    ≡ extended l.initial.out (code.emit_stmts l.layout (plain_exits l.exits) l.initial.out.labels l.initial.depth l.initial.at (typed_stmts l.stmts)) (code.all_stmt_labels (typed_stmts l.stmts)))
    × (l.depth + all_declared_cells l.layout.structs (typed_stmts (drop l.stmt-index l.stmts)) ≡ l.initial.depth + all_declared_cells l.layout.structs (typed_stmts l.stmts))

abbrev pub decreases-statement : goal.decreases-statement
decreases-statement l = size (typed_stmt l.stmt.now)

abbrev pub decreases-statements : goal.decreases-statements
decreases-statements l = all_size (typed_stmts l.stmts.now) + 1

abbrev pub decreases-block : goal.decreases-block
decreases-block l = all_size (typed_stmts l.items.now) + 2

abbrev pub decreases-if_only : goal.decreases-if_only
decreases-if_only l = size (typed_stmt l.then.now) + 1

abbrev pub decreases-if_else : goal.decreases-if_else
decreases-if_else l = size (typed_stmt l.then.now) + size (typed_stmt l.otherwise.now) + 1

abbrev pub decreases-while_loop : goal.decreases-while_loop
decreases-while_loop l = size (typed_stmt l.body.now) + 1

abbrev pub decreases-do_loop : goal.decreases-do_loop
decreases-do_loop l = size (typed_stmt l.body.now) + 1

abbrev pub decreases-for_loop : goal.decreases-for_loop
decreases-for_loop l = size (typed_stmt l.body.now) + 1

abbrev pub decreases-switch : goal.decreases-switch
decreases-switch l = all_size (typed_stmts l.body.now) + 2
