use Rattle.nss_tree.specs.Places.{places_stmt}
use Rattle.nss_tree.specs.Reading.{plain_stmt}
use Rattle.nss_tree.proofs.SeekLaws.{at_stmt, do_sought, each_step, for_sought, if_else_sought, if_sought, while_sought}
use Rattle.nss_tree.proofs.places.+statements.Goals as goal

pub seek_stmts-loop-stmt-preserved : goal.seek_stmts-loop-stmt-preserved
seek_stmts-loop-stmt-preserved t c =
    each_step (λ x. places_stmt (plain_stmt x)) _ _ c.stmt-item.result _ _ _ c.stmt-item.is c.loop-stmt-test.true c.seek_stmt-seek.ensures c.loop-stmt.invariant

pub seek_stmt-returns-in-IfElse : goal.seek_stmt-returns-in-IfElse
seek_stmt-returns-in-IfElse t c =
    if_else_sought _ _ _ _ _ _ _ _ _ _ c.in-IfElse.is c.pass-in-IfElse.ensures c.seek_expr-in-IfElse.ensures
    (at_stmt _ _ _ _ c.deref-in-IfElse-2.ensures c.seek_stmt-in-IfElse.ensures)
    (at_stmt _ _ _ _ c.deref-in-IfElse.ensures c.seek_stmt-in-IfElse-2.ensures)

pub seek_stmt-returns-in-If : goal.seek_stmt-returns-in-If
seek_stmt-returns-in-If t c =
    if_sought _ _ _ _ _ _ _ _ c.in-If.is c.pass-in-If.ensures c.seek_expr-in-If.ensures
    (at_stmt _ _ _ _ c.deref.ensures c.seek_stmt.ensures)

pub seek_stmt-returns-in-While : goal.seek_stmt-returns-in-While
seek_stmt-returns-in-While t c =
    while_sought _ _ _ _ _ _ _ _ c.in-While.is c.pass-in-While.ensures c.seek_expr-in-While.ensures
    (at_stmt _ _ _ _ c.deref-in-While.ensures c.seek_stmt-in-While.ensures)

pub seek_stmt-returns-in-Do : goal.seek_stmt-returns-in-Do
seek_stmt-returns-in-Do t c =
    do_sought _ _ _ _ _ _ _ _ c.in-Do.is c.pass-in-Do.ensures (at_stmt _ _ _ _ c.deref-in-Do.ensures c.seek_stmt-in-Do.ensures)
    c.seek_expr-in-Do.ensures

pub seek_stmt-returns-in-For : goal.seek_stmt-returns-in-For
seek_stmt-returns-in-For t c =
    for_sought _ _ _ _ _ _ _ _ _ _ _ _ c.in-For.is c.pass-in-For.ensures c.seek_optional-seek.ensures c.seek_optional.ensures
    c.seek_optional-seek-in-For.ensures (at_stmt _ _ _ _ c.deref-in-For.ensures c.seek_stmt-in-For.ensures)
