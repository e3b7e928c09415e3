use Rattle.std.proofs.Common.{◌∙◌, ap, sym, refl, ◌++◌}
use Rattle.nss_tree.specs.Readings.{tree_block, tree_break_off, tree_case_label, tree_continue_on, tree_default_label, tree_do_loop, tree_empty, tree_expression, tree_for_loop, tree_if_else}
use Rattle.nss_tree.specs.Readings.{tree_if_only, tree_return_from, tree_switch, tree_while_loop}
use Rattle.typing_rules.specs.UnitReading.{typed_stmt, typed_stmts}
use Rattle.emission_rules.specs.Layout as laid
use Rattle.nss_layout.proofs.Loops.{none_put, one_put, stmts_done, stmts_step, two_put}
use Rattle.nss_layout.proofs.frames.+statements.Goals as goal

pub stmt_positions-returns-in-Block : goal.stmt_positions-returns-in-Block
stmt_positions-returns-in-Block t c =
    one_put _ _ _ _ _ _ _ _ (tree_block _ _ _ c.in-Block.is)
    (ap (λ ys. laid.all_positions c.args.structs.now c.args.depth (typed_stmts ys)) (sym c.as_slice-in-Block.ensures.value)) c.stmts_positions.ensures

pub stmt_positions-returns-in-If : goal.stmt_positions-returns-in-If
stmt_positions-returns-in-If t c =
    one_put _ _ _ _ _ _ _ _ (tree_if_only _ _ _ _ c.in-If.is)
    (ap (λ y. laid.positions c.args.structs.now c.args.depth (typed_stmt y)) (sym c.deref.ensures)) c.stmt_positions.ensures

pub stmt_positions-returns-in_ok-stmt_positions-in-IfElse : goal.stmt_positions-returns-in_ok-stmt_positions-in-IfElse
stmt_positions-returns-in_ok-stmt_positions-in-IfElse t c =
    two_put _ _ _ _ _ _ _ _ _ _ (tree_if_else _ _ _ _ _ c.in-IfElse.is)
    (ap (λ y. laid.positions c.args.structs.now c.args.depth (typed_stmt y) ++ laid.positions c.args.structs.now c.args.depth (typed_stmt c.in-IfElse.otherwise.value)) (sym c.deref-in-IfElse.ensures)
    ∙ ap (λ y. laid.positions c.args.structs.now c.args.depth (typed_stmt c.deref-in-IfElse.result.now)
    ++ laid.positions c.args.structs.now c.args.depth (typed_stmt y)) (sym c.deref-in-IfElse-2.ensures))
    c.in_ok-stmt_positions-in-IfElse.ensures c.stmt_positions-in-IfElse-2.ensures

pub stmt_positions-returns-in-While : goal.stmt_positions-returns-in-While
stmt_positions-returns-in-While t c =
    one_put _ _ _ _ _ _ _ _ (tree_while_loop _ _ _ _ c.in-While.is)
    (ap (λ y. laid.positions c.args.structs.now c.args.depth (typed_stmt y)) (sym c.deref-in-While.ensures)) c.stmt_positions-in-While.ensures

pub stmt_positions-returns-in-Do : goal.stmt_positions-returns-in-Do
stmt_positions-returns-in-Do t c =
    one_put _ _ _ _ _ _ _ _ (tree_do_loop _ _ _ _ c.in-Do.is)
    (ap (λ y. laid.positions c.args.structs.now c.args.depth (typed_stmt y)) (sym c.deref-in-Do.ensures)) c.stmt_positions-in-Do.ensures

pub stmt_positions-returns-in-For : goal.stmt_positions-returns-in-For
stmt_positions-returns-in-For t c =
    one_put _ _ _ _ _ _ _ _ (tree_for_loop _ _ _ _ _ _ c.in-For.is)
    (ap (λ y. laid.positions c.args.structs.now c.args.depth (typed_stmt y)) (sym c.deref-in-For.ensures)) c.stmt_positions-in-For.ensures

pub stmt_positions-returns-in_ok-depth-in-Switch : goal.stmt_positions-returns-in_ok-depth-in-Switch
stmt_positions-returns-in_ok-depth-in-Switch t c =
    one_put _ _ _ _ _ _ _ _ (tree_switch _ _ _ _ c.in-Switch.is)
    (ap (λ d. laid.all_positions c.args.structs.now d (typed_stmts c.in-Switch.body.items)) (sym c.in_ok-depth-in-Switch.ensures.sum)
    ∙ ap (λ ys. laid.all_positions c.args.structs.now c.in_ok-depth-in-Switch.depth (typed_stmts ys)) (sym c.as_slice-in-Switch.ensures.value)) c.stmts_positions-in-Switch.ensures

pub stmt_positions-returns-in-Empty : goal.stmt_positions-returns-in-Empty
stmt_positions-returns-in-Empty t c = none_put _ _ _ _ _ (tree_empty _ _ c.in-Empty.is) refl

pub stmt_positions-returns-in-Expression : goal.stmt_positions-returns-in-Expression
stmt_positions-returns-in-Expression t c = none_put _ _ _ _ _ (tree_expression _ _ _ c.in-Expression.is) refl

pub stmt_positions-returns-in-Break : goal.stmt_positions-returns-in-Break
stmt_positions-returns-in-Break t c = none_put _ _ _ _ _ (tree_break_off _ _ c.in-Break.is) refl

pub stmt_positions-returns-in-Continue : goal.stmt_positions-returns-in-Continue
stmt_positions-returns-in-Continue t c = none_put _ _ _ _ _ (tree_continue_on _ _ c.in-Continue.is) refl

pub stmt_positions-returns-in-Return : goal.stmt_positions-returns-in-Return
stmt_positions-returns-in-Return t c = none_put _ _ _ _ _ (tree_return_from _ _ _ c.in-Return.is) refl

pub stmt_positions-returns-in-Case : goal.stmt_positions-returns-in-Case
stmt_positions-returns-in-Case t c = none_put _ _ _ _ _ (tree_case_label _ _ _ c.in-Case.is) refl

pub stmt_positions-returns-in-Default : goal.stmt_positions-returns-in-Default
stmt_positions-returns-in-Default t c = none_put _ _ _ _ _ (tree_default_label _ _ c.in-Default.is) refl

pub stmts_positions-loop-stmt-preserved : goal.stmts_positions-loop-stmt-preserved
stmts_positions-loop-stmt-preserved t c =
    stmts_step _ _ _ c.stmt-item.result _ _ _ _ _ c.stmt-item.is c.loop-stmt-test.true c.in_ok-stmt_positions.ensures c.in_ok-depth.ensures c.loop-stmt.invariant

pub stmts_positions-returns : goal.stmts_positions-returns
stmts_positions-returns t c = stmts_done _ _ _ _ _ _ c.loop-stmt-test.false c.loop-stmt.invariant
