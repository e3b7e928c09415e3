use Rattle.std.proofs.Common.{◌≡◌, ◌∙◌, ap, ap₂, refl, Some, option_map, arith}
use Rattle.nss_tree.specs.Reading.{tree_of_stmts}
use Rattle.nss_tree.specs.Statements as tree
use Rattle.nss_tree.specs.Readings.{tree_block, tree_break_off, tree_case_label, tree_continue_on, tree_declaration, tree_default_label, tree_do_loop, tree_empty, tree_expression, tree_for_loop}
use Rattle.nss_tree.specs.Readings.{tree_if_else, tree_if_only, tree_return_from, tree_switch, tree_while_loop}
use Rattle.typing_rules.specs.Reading.{plain}
use Rattle.typing_rules.specs.UnitReading.{typed_names, typed_stmt, typed_stmts}
use Rattle.code_places.specs.Numbers as numbers
use Rattle.code_places.specs.Marks as marks
use Rattle.code_places.specs.Seeking.{sought}
use Rattle.code_places.proofs.Ending.{all_parts, falls, next_falls, one_part, two_parts}
use Rattle.code_places.proofs.Loops.{done, step}
use Rattle.code_places.proofs.Seeking.{last, nothing, one_more, parts, sought_none}
use Rattle.code_places.proofs.Stmts.{expr_at, if_at, stmt_at, stmt_done, stmt_known, stmts_at}
use Rattle.code_places.proofs.statements.+statements.Goals as goal

-- ---- a statement that is known

pub seek_stmt-returns-in-Block : goal.seek_stmt-returns-in-Block
seek_stmt-returns-in-Block t c = stmt_known _ _ _ _ _ _ _ (tree_block _ _ _ c.in-Block.is)
    (c.seek_block.ensures ∙ ap (λ ys. sought (marks.stmt_marks c.args.layout.now c.args.frame c.args.node (tree.block 0 (typed_stmts ys))) c.args.seek) c.as_slice.ensures.value)

pub seek_stmt-returns-in-Empty : goal.seek_stmt-returns-in-Empty
seek_stmt-returns-in-Empty t c = stmt_known _ _ _ _ _ _ _ (tree_empty _ _ c.in-Empty.is)
    (nothing c.args.seek)

pub seek_stmt-returns-in-Case : goal.seek_stmt-returns-in-Case
seek_stmt-returns-in-Case t c = stmt_known _ _ _ _ _ _ _ (tree_case_label _ _ _ c.in-Case.is)
    (nothing c.args.seek)

pub seek_stmt-returns-in-Default : goal.seek_stmt-returns-in-Default
seek_stmt-returns-in-Default t c = stmt_known _ _ _ _ _ _ _ (tree_default_label _ _ c.in-Default.is)
    (nothing c.args.seek)

pub seek_stmt-returns-in-Expression : goal.seek_stmt-returns-in-Expression
seek_stmt-returns-in-Expression t c = stmt_known _ _ _ _ _ _ _ (tree_expression _ _ _ c.in-Expression.is)
    (c.seek_dropped.ensures ∙ ap (λ n. sought (marks.evaluated_marks c.args.layout.now c.args.node n (Some (plain c.in-Expression.value))) c.args.seek) c.next.ensures)

pub seek_stmt-returns-in-If : goal.seek_stmt-returns-in-If
seek_stmt-returns-in-If t c = stmt_known _ _ _ _ _ _ _ (tree_if_only _ _ _ _ c.in-If.is)
    (c.seek_if.ensures ∙ ap (λ z. sought (marks.stmt_marks c.args.layout.now c.args.frame c.args.node (tree.if_only 0 (plain c.in-If.condition) (typed_stmt z))) c.args.seek) c.deref.ensures)

pub seek_stmt-returns-in-IfElse : goal.seek_stmt-returns-in-IfElse
seek_stmt-returns-in-IfElse t c = stmt_known _ _ _ _ _ _ _ (tree_if_else _ _ _ _ _ c.in-IfElse.is)
    (c.seek_if_else.ensures ∙ ap₂ (λ x z. sought (marks.stmt_marks c.args.layout.now c.args.frame c.args.node (tree.if_else 0 (plain c.in-IfElse.condition)
    (typed_stmt x) (typed_stmt z))) c.args.seek) c.deref-in-IfElse.ensures c.deref-in-IfElse-2.ensures)

pub seek_stmt-returns-in-While : goal.seek_stmt-returns-in-While
seek_stmt-returns-in-While t c = stmt_known _ _ _ _ _ _ _ (tree_while_loop _ _ _ _ c.in-While.is)
    (c.seek_while.ensures ∙ ap (λ z. sought (marks.stmt_marks c.args.layout.now c.args.frame c.args.node (tree.while_loop 0 (plain c.in-While.condition) (typed_stmt z)))
    c.args.seek) c.deref-in-While.ensures)

pub seek_stmt-returns-in-Do : goal.seek_stmt-returns-in-Do
seek_stmt-returns-in-Do t c = stmt_known _ _ _ _ _ _ _ (tree_do_loop _ _ _ _ c.in-Do.is)
    (c.seek_do.ensures ∙ ap (λ z. sought (marks.stmt_marks c.args.layout.now c.args.frame c.args.node (tree.do_loop 0 (typed_stmt z) (plain c.in-Do.condition))) c.args.seek) c.deref-in-Do.ensures)

pub seek_stmt-returns-in-For : goal.seek_stmt-returns-in-For
seek_stmt-returns-in-For t c = stmt_known _ _ _ _ _ _ _ (tree_for_loop _ _ _ _ _ _ c.in-For.is)
    (c.seek_for.ensures ∙ ap (λ z. sought (marks.stmt_marks c.args.layout.now c.args.frame c.args.node (tree.for_loop 0 (option_map plain c.in-For.start)
    (option_map plain c.in-For.condition) (option_map plain c.in-For.step) (typed_stmt z))) c.args.seek) c.deref-in-For.ensures)

pub seek_stmt-returns-in-Switch : goal.seek_stmt-returns-in-Switch
seek_stmt-returns-in-Switch t c = stmt_known _ _ _ _ _ _ _ (tree_switch _ _ _ _ c.in-Switch.is)
    (c.seek_switch.ensures ∙ ap (λ ys. sought (marks.stmt_marks c.args.layout.now c.args.frame c.args.node (tree.switch 0 (plain c.in-Switch.value) (typed_stmts ys)))
    c.args.seek) c.as_slice-in-Switch.ensures.value)

pub seek_stmt-returns-in-Break : goal.seek_stmt-returns-in-Break
seek_stmt-returns-in-Break t c = stmt_known _ _ _ _ _ _ _ (tree_break_off _ _ c.in-Break.is)
    (parts c.args.seek _ _ c.pass_if.ensures (last c.pass_if.result _ c.pass.ensures))

pub seek_stmt-returns-in-Continue : goal.seek_stmt-returns-in-Continue
seek_stmt-returns-in-Continue t c = stmt_known _ _ _ _ _ _ _ (tree_continue_on _ _ c.in-Continue.is)
    (parts c.args.seek _ _ c.pass_if-in-Continue.ensures (last c.pass_if-in-Continue.result _ c.pass-in-Continue.ensures))

pub seek_stmt-returns-in-Return : goal.seek_stmt-returns-in-Return
seek_stmt-returns-in-Return t c = stmt_known _ _ _ _ _ _ _ (tree_return_from _ _ _ c.in-Return.is)
    (parts c.args.seek _ _ c.seek_returned-seek.ensures (last c.seek_returned-seek.result _ c.pass-in-Return.ensures))

pub seek_stmt-returns-in-Declaration : goal.seek_stmt-returns-in-Declaration
seek_stmt-returns-in-Declaration t c = stmt_known _ _ _ _ _ _ _ (tree_declaration _ _ _ _ c.in-Declaration.is)
    (c.seek_names.ensures ∙ ap₂ (λ n ds. sought (marks.names_marks c.args.layout.now n (typed_names ds)) c.args.seek) c.next-in-Declaration.ensures c.as_slice-in-Declaration.ensures.items)

-- ---- the parts of each

pub seek_block-returns : goal.seek_block-returns
seek_block-returns t c =
    parts c.args.seek _ _ (stmts_at c.args.layout.now _ _ _ _ _ _ c.args.seek _ refl refl c.next.ensures c.seek_stmts-seek.ensures)
    (if_at _ _ 6 c.args.node c.seek_stmts-seek.result _ c.all_declare.ensures c.pass_if.ensures)

pub seek_if-returns : goal.seek_if-returns
seek_if-returns t c =
    parts c.args.seek _ _ (expr_at c.args.layout.now _ _ (plain c.args.condition.now) c.args.seek _ c.next-part.ensures c.seek_expr.ensures)
    (one_more c.seek_expr.result _ _ c.pass-seek.ensures
    (stmt_at c.args.layout.now _ _ _ _ _ _ c.pass-seek.result _ refl refl (c.behind.ensures ∙ ap (λ n. numbers.behind n (plain c.args.condition.now)) c.next-part.ensures) c.seek_stmt.ensures))

pub seek_if_else-returns : goal.seek_if_else-returns
seek_if_else-returns t c =
    parts c.args.seek _ _ (expr_at c.args.layout.now _ _ (plain c.args.condition.now) c.args.seek _ c.next-part.ensures c.seek_expr.ensures)
    (one_more c.seek_expr.result _ _ c.pass-seek.ensures
    (parts c.pass-seek.result _ _ (stmt_at c.args.layout.now _ _ _ _ _ _ c.pass-seek.result _ refl refl (c.behind-first.ensures
    ∙ ap (λ n. numbers.behind n (plain c.args.condition.now)) c.next-part.ensures) c.seek_stmt.ensures)
    (one_more c.seek_stmt.result _ _ c.pass-seek-2.ensures
    (stmt_at c.args.layout.now _ _ _ _ _ _ c.pass-seek-2.result _ refl refl
    (c.behind_stmt-second.ensures ∙ ap (λ n. numbers.behind_stmt n (typed_stmt c.args.then.now)) (c.behind-first.ensures
    ∙ ap (λ n. numbers.behind n (plain c.args.condition.now)) c.next-part.ensures)) c.seek_stmt-2.ensures))))

pub seek_while-returns : goal.seek_while-returns
seek_while-returns t c =
    parts c.args.seek _ _ (expr_at c.args.layout.now _ _ (plain c.args.condition.now) c.args.seek _ c.next-part.ensures c.seek_expr.ensures)
    (one_more c.seek_expr.result _ _ c.pass-seek.ensures
    (parts c.pass-seek.result _ _ (stmt_at c.args.layout.now _ _ _ _ _ _ c.pass-seek.result _ c.loop_frame.ensures refl (c.behind-first.ensures
    ∙ ap (λ n. numbers.behind n (plain c.args.condition.now)) c.next-part.ensures) c.seek_stmt-seek.ensures)
    (last c.seek_stmt-seek.result _ c.pass.ensures)))

pub seek_do-returns : goal.seek_do-returns
seek_do-returns t c =
    parts c.args.seek _ _ (stmt_at c.args.layout.now _ _ _ _ _ _ c.args.seek _ c.loop_frame.ensures refl c.next-part.ensures c.seek_stmt-seek.ensures)
    (parts c.seek_stmt-seek.result _ _ (expr_at c.args.layout.now _ _ (plain c.args.condition.now) c.seek_stmt-seek.result _
    (c.behind_stmt-second.ensures ∙ ap (λ n. numbers.behind_stmt n (typed_stmt c.args.body.now)) c.next-part.ensures) c.seek_expr.ensures)
    (last c.seek_expr.result _ c.pass.ensures))

pub seek_for-returns : goal.seek_for-returns
seek_for-returns t c =
    let second : c.behind_if-second.result ≡ numbers.behind_if (numbers.next c.args.node) (option_map plain c.args.start.now) =
    c.behind_if-second.ensures ∙ ap (λ n. numbers.behind_if n (option_map plain c.args.start.now)) c.next-part.ensures in
    let third : c.behind_if-third.result ≡ numbers.behind_if (numbers.behind_if (numbers.next c.args.node) (option_map plain c.args.start.now)) (option_map plain c.args.condition.now) =
    c.behind_if-third.ensures ∙ ap (λ n. numbers.behind_if n (option_map plain c.args.condition.now)) second in
    parts c.args.seek _ _ (c.seek_effect-seek.ensures ∙ ap (λ n. sought (marks.evaluated_marks c.args.layout.now c.args.node n (option_map plain c.args.start.now)) c.args.seek) c.next-part.ensures)
    (parts c.seek_effect-seek.result _ _
    (c.seek_tested.ensures ∙ ap (λ n. sought (marks.tested_marks c.args.layout.now c.args.node n (option_map plain c.args.condition.now)) c.seek_effect-seek.result) second)
    (one_more c.seek_tested.result _ _ c.pass-seek.ensures
    (parts c.pass-seek.result _ _ (stmt_at c.args.layout.now _ _ _ _ _ _ c.pass-seek.result _ c.loop_frame.ensures refl
    (c.behind_if-last.ensures ∙ ap (λ n. numbers.behind_if n (option_map plain c.args.step.now)) third) c.seek_stmt-seek.ensures)
    (parts c.seek_stmt-seek.result _ _
    (c.seek_effect.ensures ∙ ap (λ n. sought (marks.evaluated_marks c.args.layout.now c.args.node n (option_map plain c.args.step.now)) c.seek_stmt-seek.result) third)
    (last c.seek_effect.result _ c.pass.ensures)))))

pub seek_switch-returns : goal.seek_switch-returns
seek_switch-returns t c =
    parts c.args.seek _ _ (expr_at c.args.layout.now _ _ (plain c.args.value.now) c.args.seek _ c.next-part.ensures c.seek_expr-seek.ensures)
    (parts c.seek_expr-seek.result _ _ c.seek_tests.ensures
    (one_more c.seek_tests.result _ _ c.pass-seek.ensures
    (parts c.pass-seek.result _ _ (stmts_at c.args.layout.now _ _ _ _ _ _ c.pass-seek.result _ c.switch_frame.ensures refl
    (c.behind-first.ensures ∙ ap (λ n. numbers.behind n (plain c.args.value.now)) c.next-part.ensures) c.seek_stmts-seek.ensures)
    (parts c.seek_stmts-seek.result _ _ (if_at _ _ 6 c.args.node c.seek_stmts-seek.result _ c.all_declare.ensures c.pass_if-seek.ensures)
    (last c.pass_if-seek.result _ c.pass.ensures)))))

-- ---- that this ends

pub seek_stmt-seek_block-requires : goal.seek_stmt-seek_block-requires
seek_stmt-seek_block-requires t c = (falls _ _ t _ (tree_block _ _ _ c.in-Block.is) c.decreases (all_parts _ _ c.as_slice.ensures.value), tt)

pub seek_stmt-seek_if-requires : goal.seek_stmt-seek_if-requires
seek_stmt-seek_if-requires t c = (falls _ _ t _ (tree_if_only _ _ _ _ c.in-If.is) c.decreases (one_part _ _ c.deref.ensures), tt)

pub seek_stmt-seek_if_else-requires : goal.seek_stmt-seek_if_else-requires
seek_stmt-seek_if_else-requires t c = (falls _ _ t _ (tree_if_else _ _ _ _ _ c.in-IfElse.is) c.decreases (two_parts _ _ _ _ c.deref-in-IfElse.ensures c.deref-in-IfElse-2.ensures), tt)

pub seek_stmt-seek_while-requires : goal.seek_stmt-seek_while-requires
seek_stmt-seek_while-requires t c = (falls _ _ t _ (tree_while_loop _ _ _ _ c.in-While.is) c.decreases (one_part _ _ c.deref-in-While.ensures), tt)

pub seek_stmt-seek_do-requires : goal.seek_stmt-seek_do-requires
seek_stmt-seek_do-requires t c = (falls _ _ t _ (tree_do_loop _ _ _ _ c.in-Do.is) c.decreases (one_part _ _ c.deref-in-Do.ensures), tt)

pub seek_stmt-seek_for-requires : goal.seek_stmt-seek_for-requires
seek_stmt-seek_for-requires t c = (falls _ _ t _ (tree_for_loop _ _ _ _ _ _ c.in-For.is) c.decreases (one_part _ _ c.deref-in-For.ensures), tt)

pub seek_stmt-seek_switch-requires : goal.seek_stmt-seek_switch-requires
seek_stmt-seek_switch-requires t c = (falls _ _ t _ (tree_switch _ _ _ _ c.in-Switch.is) c.decreases (all_parts _ _ c.as_slice-in-Switch.ensures.value), tt)

pub seek_block-seek_stmts-seek-requires : goal.seek_block-seek_stmts-seek-requires
seek_block-seek_stmts-seek-requires t c = (omega (arith, c.decreases), tt)

pub seek_if-seek_stmt-requires : goal.seek_if-seek_stmt-requires
seek_if-seek_stmt-requires t c = (omega (arith, c.decreases), tt)

pub seek_if_else-seek_stmt-requires : goal.seek_if_else-seek_stmt-requires
seek_if_else-seek_stmt-requires t c = (omega (arith, c.decreases), tt)

pub seek_if_else-seek_stmt-requires-2 : goal.seek_if_else-seek_stmt-requires-2
seek_if_else-seek_stmt-requires-2 t c = (omega (arith, c.decreases), tt)

pub seek_while-seek_stmt-seek-requires : goal.seek_while-seek_stmt-seek-requires
seek_while-seek_stmt-seek-requires t c = (omega (arith, c.decreases), tt)

pub seek_do-seek_stmt-seek-requires : goal.seek_do-seek_stmt-seek-requires
seek_do-seek_stmt-seek-requires t c = (omega (arith, c.decreases), tt)

pub seek_for-seek_stmt-seek-requires : goal.seek_for-seek_stmt-seek-requires
seek_for-seek_stmt-seek-requires t c = (omega (arith, c.decreases), tt)

pub seek_switch-seek_stmts-seek-requires : goal.seek_switch-seek_stmts-seek-requires
seek_switch-seek_stmts-seek-requires t c = (omega (arith, c.decreases), tt)

pub seek_stmts-seek_stmt-seek-requires : goal.seek_stmts-seek_stmt-seek-requires
seek_stmts-seek_stmt-seek-requires t c = (next_falls c.args.stmts.now c.loop-stmt.stmt-index c.stmt-item.result t c.stmt-item.is c.loop-stmt-test.true c.decreases, tt)

-- ---- statements in a row

pub seek_stmts-loop-stmt-preserved : goal.seek_stmts-loop-stmt-preserved
seek_stmts-loop-stmt-preserved t c =
    step (λ ys. sought (marks.stmts_marks c.args.layout.now c.loop-stmt.frame c.loop-stmt.node (typed_stmts ys)) c.loop-stmt.seek)
    (λ ys. sought (marks.stmts_marks c.args.layout.now c.deeper-frame.result c.behind_stmt-node.result (typed_stmts ys)) c.seek_stmt-seek.result) _ _ c.stmt-item.result _
    c.stmt-item.is c.loop-stmt-test.true
    (λ ys. stmt_done c.args.layout.now _ _ _ _ _ c.stmt-item.result ys c.loop-stmt.seek _ c.seek_stmt-seek.ensures c.declares.ensures c.deeper-frame.ensures c.behind_stmt-node.ensures)
    c.loop-stmt.invariant

pub seek_stmts-returns : goal.seek_stmts-returns
unfolding tree_of_stmts
seek_stmts-returns t c =
    done (λ ys. sought (marks.stmts_marks c.args.layout.now c.loop-stmt.frame c.loop-stmt.node (typed_stmts ys)) c.loop-stmt.seek) _ _ c.loop-stmt.seek _ c.loop-stmt-test.false
    (sought_none c.loop-stmt.seek) c.loop-stmt.invariant
