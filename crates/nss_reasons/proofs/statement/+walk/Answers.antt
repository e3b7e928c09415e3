use Rattle.std.proofs.Common.{◌≡◌, ◌∙◌, ◌+◌, arith, sym, ap, refl, subst}
use Rattle.std.specs.Option.{option_map}
use Rattle.std.specs.Result.{OnOk}
use Rattle.nss_tree.specs.Reading.{plain_expr, plain_stmt, plain_stmts}
use Rattle.nss_tree.specs.Readings.{tree_block, tree_break_off, tree_case_label, tree_continue_on, tree_declaration, tree_default_label, tree_do_loop, tree_empty, tree_expression, tree_for_loop}
use Rattle.nss_tree.specs.Readings.{tree_if_else, tree_if_only, tree_return_from, tree_switch, tree_while_loop}
use Rattle.nss_tree.specs.Statements as tree
use Rattle.nss_tree.specs.Statements.{map_stmt, more_stmts, no_stmt}
use Rattle.typing_rules.specs.Sight.{scope_entered, inside, left, looped, switched}
use Rattle.typing_rules.specs.Verdicts.{after, afters}
use Rattle.nss_expressions.specs.Views.{heads_in, sight_in}
use Rattle.expression_reasons.specs.Reasons.{condition_nodes, nodes_there, value_nodes}
use Rattle.nss_reasons.specs.Reasons.{stmt_nodes, stmts_nodes}
use Rattle.expression_reasons.specs.Seen.{seen}
use Rattle.nss_reasons.proofs.NodeRows.{stmt_laws}
use Rattle.expression_reasons.specs.Rows.{row_found, row_sight, row_end_found, row_end_sight}
use Rattle.nss_statements.specs.Nodes.{all_size, block_is, declaration_is, do_is, err_on, falls, for_is, if_else_is, if_only_is, next_falls, on_ok, size, switch_is, while_is}
use Rattle.expression_reasons.specs.Walked.{always, node_found, node_sight, none_found, one_found, three_found, two_found}
use Rattle.nss_reasons.proofs.statement.+walk.Goals as goal

pub statement-block-requires : goal.statement-block-requires
statement-block-requires t c = (
  falls _ (tree.block c.in-Block.token (plain_stmts c.deref.result.now)) t
      (all_size (plain_stmts c.deref.result.now) + 2)
      (block_is _ _ _ _ (tree_block _ _ _ c.in-Block.is) c.deref.ensures.value) c.decreases (omega arith),
  tt,
)

pub statement-returns-in-Block : goal.statement-returns-in-Block
statement-returns-in-Block t c =
    let hs = heads_in c.args.given.now in
    let s = sight_in c.args.given.now c.args.sight.now in
    let node = block_is _ _ _ _ (tree_block _ _ _ c.in-Block.is) c.deref.ensures.value in
    record {
      found = node_found c.block.result (stmt_nodes hs s) c.args.k _ _ node _ _ c.block.ensures.found;
      sight = node_sight c.block.result _ _ node (after s) _ c.block.ensures.sight;
    }

pub statement-returns-in-Empty : goal.statement-returns-in-Empty
statement-returns-in-Empty t c =
    let hs = heads_in c.args.given.now in
    let s = sight_in c.args.given.now c.args.sight.now in
    let node = ap (map_stmt plain_expr) (tree_empty _ _ c.in-Empty.is) in
    record {
      found = none_found (stmt_nodes hs s) c.args.k _ _ node c.args.found.now refl;
      sight = ap (after s) (sym node);
    }

pub statement-returns-in-Expression : goal.statement-returns-in-Expression
statement-returns-in-Expression t c =
    let hs = heads_in c.args.given.now in
    let s = sight_in c.args.given.now c.args.sight.now in
    let node = ap (map_stmt plain_expr) (tree_expression _ _ _ c.in-Expression.is) in
    record {
      found = node_found c.expression.result (stmt_nodes hs s) c.args.k _ _ node _ _ c.expression.ensures.found;
      sight = always c.expression.result (ap (after s) (sym node));
    }

pub statement-if_only-requires : goal.statement-if_only-requires
statement-if_only-requires t c = (
  falls _ (tree.if_only c.in-If.token (plain_expr c.in-If.condition) (plain_stmt c.deref-in-If.result.now)) t
      (size (plain_stmt c.deref-in-If.result.now) + 2)
      (if_only_is _ _ _ _ _ (tree_if_only _ _ _ _ c.in-If.is) c.deref-in-If.ensures) c.decreases (omega arith),
  tt,
)

pub statement-returns-in-If : goal.statement-returns-in-If
statement-returns-in-If t c =
    let hs = heads_in c.args.given.now in
    let s = sight_in c.args.given.now c.args.sight.now in
    let node = if_only_is _ _ _ _ _ (tree_if_only _ _ _ _ c.in-If.is) c.deref-in-If.ensures in
    record {
      found = node_found c.if_only.result (stmt_nodes hs s) c.args.k _ _ node _ _ c.if_only.ensures.found;
      sight = node_sight c.if_only.result _ _ node (after s) _ c.if_only.ensures.sight;
    }

pub statement-if_else-requires : goal.statement-if_else-requires
statement-if_else-requires t c = (
  falls _ (tree.if_else c.in-IfElse.token (plain_expr c.in-IfElse.condition)
      (plain_stmt c.deref-in-IfElse.result.now) (plain_stmt c.deref-in-IfElse-2.result.now)) t
      (size (plain_stmt c.deref-in-IfElse.result.now) + size (plain_stmt c.deref-in-IfElse-2.result.now) + 2)
      (if_else_is _ _ _ _ _ _ _
      (tree_if_else _ _ _ _ _ c.in-IfElse.is) c.deref-in-IfElse.ensures c.deref-in-IfElse-2.ensures) c.decreases
      (omega arith),
  tt,
)

pub statement-returns-in-IfElse : goal.statement-returns-in-IfElse
statement-returns-in-IfElse t c =
    let hs = heads_in c.args.given.now in
    let s = sight_in c.args.given.now c.args.sight.now in
    let node = if_else_is _ _ _ _ _ _ _ (tree_if_else _ _ _ _ _ c.in-IfElse.is) c.deref-in-IfElse.ensures c.deref-in-IfElse-2.ensures in
    record {
      found = node_found c.if_else.result (stmt_nodes hs s) c.args.k _ _ node _ _ c.if_else.ensures.found;
      sight = node_sight c.if_else.result _ _ node (after s) _ c.if_else.ensures.sight;
    }

pub statement-while_loop-requires : goal.statement-while_loop-requires
statement-while_loop-requires t c = (
  falls _ (tree.while_loop c.in-While.token (plain_expr c.in-While.condition)
      (plain_stmt c.deref-in-While.result.now)) t (size (plain_stmt c.deref-in-While.result.now) + 2)
      (while_is _ _ _ _ _ (tree_while_loop _ _ _ _ c.in-While.is) c.deref-in-While.ensures) c.decreases (omega arith),
  tt,
)

pub statement-returns-in-While : goal.statement-returns-in-While
statement-returns-in-While t c =
    let hs = heads_in c.args.given.now in
    let s = sight_in c.args.given.now c.args.sight.now in
    let node = while_is _ _ _ _ _ (tree_while_loop _ _ _ _ c.in-While.is) c.deref-in-While.ensures in
    record {
      found = node_found c.while_loop.result (stmt_nodes hs s) c.args.k _ _ node _ _ c.while_loop.ensures.found;
      sight = node_sight c.while_loop.result _ _ node (after s) _ c.while_loop.ensures.sight;
    }

pub statement-do_loop-requires : goal.statement-do_loop-requires
statement-do_loop-requires t c = (
  falls _ (tree.do_loop c.in-Do.token (plain_stmt c.deref-in-Do.result.now) (plain_expr c.in-Do.condition)) t
      (size (plain_stmt c.deref-in-Do.result.now) + 2)
      (do_is _ _ _ _ _ (tree_do_loop _ _ _ _ c.in-Do.is) c.deref-in-Do.ensures) c.decreases (omega arith),
  tt,
)

pub statement-returns-in-Do : goal.statement-returns-in-Do
statement-returns-in-Do t c =
    let hs = heads_in c.args.given.now in
    let s = sight_in c.args.given.now c.args.sight.now in
    let node = do_is _ _ _ _ _ (tree_do_loop _ _ _ _ c.in-Do.is) c.deref-in-Do.ensures in
    record {
      found = node_found c.do_loop.result (stmt_nodes hs s) c.args.k _ _ node _ _ c.do_loop.ensures.found;
      sight = node_sight c.do_loop.result _ _ node (after s) _ c.do_loop.ensures.sight;
    }

pub statement-for_loop-requires : goal.statement-for_loop-requires
statement-for_loop-requires t c = (
  falls _ (tree.for_loop c.in-For.token (option_map plain_expr c.in-For.start)
      (option_map plain_expr c.in-For.condition) (option_map plain_expr c.in-For.step)
      (plain_stmt c.deref-in-For.result.now)) t (size (plain_stmt c.deref-in-For.result.now) + 2)
      (for_is _ _ _ _ _ _ _ (tree_for_loop _ _ _ _ _ _ c.in-For.is) c.deref-in-For.ensures) c.decreases (omega arith),
  tt,
)

pub statement-returns-in-For : goal.statement-returns-in-For
statement-returns-in-For t c =
    let hs = heads_in c.args.given.now in
    let s = sight_in c.args.given.now c.args.sight.now in
    let node = for_is _ _ _ _ _ _ _ (tree_for_loop _ _ _ _ _ _ c.in-For.is) c.deref-in-For.ensures in
    record {
      found = node_found c.for_loop.result (stmt_nodes hs s) c.args.k _ _ node _ _ c.for_loop.ensures.found;
      sight = node_sight c.for_loop.result _ _ node (after s) _ c.for_loop.ensures.sight;
    }

pub statement-switch-requires : goal.statement-switch-requires
statement-switch-requires t c = (
  falls _ (tree.switch c.in-Switch.token (plain_expr c.in-Switch.value) (plain_stmts c.deref-in-Switch.result.now)) t
      (all_size (plain_stmts c.deref-in-Switch.result.now) + 2)
      (switch_is _ _ _ _ _ (tree_switch _ _ _ _ c.in-Switch.is) c.deref-in-Switch.ensures.value) c.decreases
      (omega arith),
  tt,
)

pub statement-returns-in-Switch : goal.statement-returns-in-Switch
statement-returns-in-Switch t c =
    let hs = heads_in c.args.given.now in
    let s = sight_in c.args.given.now c.args.sight.now in
    let node = switch_is _ _ _ _ _ (tree_switch _ _ _ _ c.in-Switch.is) c.deref-in-Switch.ensures.value in
    record {
      found = node_found c.switch.result (stmt_nodes hs s) c.args.k _ _ node _ _ c.switch.ensures.found;
      sight = node_sight c.switch.result _ _ node (after s) _ c.switch.ensures.sight;
    }

pub statement-returns-in-Break : goal.statement-returns-in-Break
statement-returns-in-Break t c =
    let hs = heads_in c.args.given.now in
    let s = sight_in c.args.given.now c.args.sight.now in
    let node = ap (map_stmt plain_expr) (tree_break_off _ _ c.in-Break.is) in
    record {
      found = none_found (stmt_nodes hs s) c.args.k _ _ node c.args.found.now refl;
      sight = ap (after s) (sym node);
    }

pub statement-returns-in-Continue : goal.statement-returns-in-Continue
statement-returns-in-Continue t c =
    let hs = heads_in c.args.given.now in
    let s = sight_in c.args.given.now c.args.sight.now in
    let node = ap (map_stmt plain_expr) (tree_continue_on _ _ c.in-Continue.is) in
    record {
      found = none_found (stmt_nodes hs s) c.args.k _ _ node c.args.found.now refl;
      sight = ap (after s) (sym node);
    }

pub statement-returns-in-Return : goal.statement-returns-in-Return
statement-returns-in-Return t c =
    let hs = heads_in c.args.given.now in
    let s = sight_in c.args.given.now c.args.sight.now in
    let node = ap (map_stmt plain_expr) (tree_return_from _ _ _ c.in-Return.is) in
    record {
      found = node_found c.return_from.result (stmt_nodes hs s) c.args.k _ _ node _ _ c.return_from.ensures.found;
      sight = always c.return_from.result (ap (after s) (sym node));
    }

pub statement-returns-in-Declaration : goal.statement-returns-in-Declaration
statement-returns-in-Declaration t c =
    let hs = heads_in c.args.given.now in
    let s = sight_in c.args.given.now c.args.sight.now in
    let node = declaration_is _ _ _ _ _ (tree_declaration _ _ _ _ c.in-Declaration.is) c.as_slice.ensures.items in
    record {
      found = node_found c.declaration.result (stmt_nodes hs s) c.args.k _ _ node _ _ c.declaration.ensures.found;
      sight = node_sight c.declaration.result _ _ node (after s) _ c.declaration.ensures.sight;
    }

pub statement-returns-in-Case : goal.statement-returns-in-Case
statement-returns-in-Case t c =
    let hs = heads_in c.args.given.now in
    let s = sight_in c.args.given.now c.args.sight.now in
    let node = ap (map_stmt plain_expr) (tree_case_label _ _ _ c.in-Case.is) in
    record {
      found = node_found c.case.result (stmt_nodes hs s) c.args.k _ _ node _ _ c.case.ensures.found;
      sight = node_sight c.case.result _ _ node (after s) _ c.case.ensures.sight;
    }

pub statement-returns-in-Default : goal.statement-returns-in-Default
statement-returns-in-Default t c =
    let hs = heads_in c.args.given.now in
    let s = sight_in c.args.given.now c.args.sight.now in
    let node = ap (map_stmt plain_expr) (tree_default_label _ _ c.in-Default.is) in
    record {
      found = none_found (stmt_nodes hs s) c.args.k _ _ node c.args.found.now refl;
      sight = c.see_default.ensures.seen c.args.given.now.table.now ∙ ap (after s) (sym node);
    }

pub in_branch-returns : goal.in_branch-returns
in_branch-returns t c =
    let hs = heads_in c.args.given.now in
    let s = sight_in c.args.given.now c.args.sight.now in
    let x = plain_stmt c.args.branch.now in
    let is = c.inside-mark.ensures.inside c.args.given.now.table.now in
    record {
      found = subst (λ z. OnOk c.statement-walked.result (c.statement-walked.new.found ≡ seen c.args.k c.args.found.now (stmt_nodes hs z x))) is c.statement-walked.ensures.found;
      sight =
          on_ok c.statement-walked.result
          (λ behind. c.scopes_are_left.ensures.left c.args.given.now.table.now c.args.sight.now c.statement-walked.new.sight c.leave.new.self c.inside-mark.result (inside s) (after (inside s) x)
          refl refl refl refl (c.scopes_only_add.ensures.statements (inside s) (more_stmts x no_stmt)) c.leave.ensures.left c.inside-mark.ensures.mark (behind ∙ ap (λ k. after k x) is))
          c.statement-walked.ensures.sight;
    }

pub in_loop-returns : goal.in_loop-returns
in_loop-returns t c =
    let hs = heads_in c.args.given.now in
    let s = sight_in c.args.given.now c.args.sight.now in
    let x = plain_stmt c.args.body.now in
    let is = c.enter_loop-mark.ensures.looped c.args.given.now.table.now in
    record {
      found = subst (λ z. OnOk c.statement-walked.result (c.statement-walked.new.found ≡ seen c.args.k c.args.found.now (stmt_nodes hs z x))) is c.statement-walked.ensures.found;
      sight =
          on_ok c.statement-walked.result
          (λ behind. c.scopes_are_left.ensures.left c.args.given.now.table.now c.args.sight.now c.statement-walked.new.sight c.leave.new.self c.enter_loop-mark.result (looped s) (after (looped s) x)
          refl refl refl refl (c.scopes_only_add.ensures.statements (looped s) (more_stmts x no_stmt)) c.leave.ensures.left c.enter_loop-mark.ensures.mark (behind ∙ ap (λ k. after k x) is))
          c.statement-walked.ensures.sight;
    }

pub statements-statement-requires : goal.statements-statement-requires
statements-statement-requires t c = (next_falls c.args.statements.now c.loop-one.one-index c.one-item.result c.one-item.is c.loop-one-test.true t c.decreases, tt)

pub block-statements-walked-requires : goal.block-statements-walked-requires
block-statements-walked-requires t c = (omega (arith, c.decreases), tt)

pub do_loop-in_loop-requires : goal.do_loop-in_loop-requires
do_loop-in_loop-requires t c = (omega (arith, c.decreases), tt)

pub for_loop-in_loop-requires : goal.for_loop-in_loop-requires
for_loop-in_loop-requires t c = (omega (arith, c.decreases), tt)

pub if_else-in_branch-requires : goal.if_else-in_branch-requires
if_else-in_branch-requires t c = (omega (arith, c.decreases), tt)

pub if_only-in_branch-requires : goal.if_only-in_branch-requires
if_only-in_branch-requires t c = (omega (arith, c.decreases), tt)

pub in_branch-statement-walked-requires : goal.in_branch-statement-walked-requires
in_branch-statement-walked-requires t c = (omega (arith, c.decreases), tt)

pub in_loop-statement-walked-requires : goal.in_loop-statement-walked-requires
in_loop-statement-walked-requires t c = (omega (arith, c.decreases), tt)

pub switch-statements-walked-requires : goal.switch-statements-walked-requires
switch-statements-walked-requires t c = (omega (arith, c.decreases), tt)

pub while_loop-in_loop-requires : goal.while_loop-in_loop-requires
while_loop-in_loop-requires t c = (omega (arith, c.decreases), tt)

-- ---- each kind of statement

pub block-returns : goal.block-returns
block-returns t c =
    let hs = heads_in c.args.given.now in
    let s = sight_in c.args.given.now c.args.sight.now in
    let xs = plain_stmts c.args.items.now in
    let is = c.enter-mark.ensures.entered c.args.given.now.table.now in
    record {
      found = subst (λ z. OnOk c.statements-walked.result (c.statements-walked.new.found ≡ seen c.args.k c.args.found.now (stmts_nodes hs z xs))) is c.statements-walked.ensures.found;
      sight =
          on_ok c.statements-walked.result
          (λ behind. c.scopes_are_left.ensures.left c.args.given.now.table.now c.args.sight.now c.statements-walked.new.sight c.leave.new.self c.enter-mark.result (scope_entered s)
          (afters (scope_entered s) xs)
          refl refl refl refl (c.scopes_only_add.ensures.statements (scope_entered s) xs) c.leave.ensures.left c.enter-mark.ensures.mark (behind ∙ ap (λ k. afters k xs) is))
          c.statements-walked.ensures.sight;
    }

pub if_only-returns : goal.if_only-returns
if_only-returns t c =
    let hs = heads_in c.args.given.now in
    let s = sight_in c.args.given.now c.args.sight.now in
    record {
      found = one_found c.in_branch.result c.args.k c.args.found.now c.condition.new.found c.in_branch.new.found
          (condition_nodes hs s c.args.token (plain_expr c.args.e.now)) (stmt_nodes hs (inside s) (plain_stmt c.args.then.now)) c.in_ok-condition.ensures.found c.in_branch.ensures.found;
      sight = c.in_branch.ensures.sight;
    }

pub while_loop-returns : goal.while_loop-returns
while_loop-returns t c =
    let hs = heads_in c.args.given.now in
    let s = sight_in c.args.given.now c.args.sight.now in
    record {
      found = one_found c.in_loop.result c.args.k c.args.found.now c.condition.new.found c.in_loop.new.found
          (condition_nodes hs s c.args.token (plain_expr c.args.e.now)) (stmt_nodes hs (looped s) (plain_stmt c.args.body.now)) c.in_ok-condition.ensures.found c.in_loop.ensures.found;
      sight = c.in_loop.ensures.sight;
    }

pub do_loop-returns : goal.do_loop-returns
do_loop-returns t c =
    let hs = heads_in c.args.given.now in
    let s = sight_in c.args.given.now c.args.sight.now in
    record {
      found = one_found c.in_loop.result c.args.k c.args.found.now c.condition.new.found c.in_loop.new.found
          (condition_nodes hs s c.args.token (plain_expr c.args.e.now)) (stmt_nodes hs (looped s) (plain_stmt c.args.body.now)) c.in_ok-condition.ensures.found c.in_loop.ensures.found;
      sight = c.in_loop.ensures.sight;
    }

pub if_else-returns : goal.if_else-returns
if_else-returns t c =
    let hs = heads_in c.args.given.now in
    let s = sight_in c.args.given.now c.args.sight.now in
    let a = plain_stmt c.args.then.now in
    let b = plain_stmt c.args.otherwise.now in
    let between = left s (after (inside s) a) in
    let is = c.in_ok-in_branch.ensures.sight in
    record {
      found = two_found c.in_branch-2.result c.args.k c.args.found.now c.condition.new.found c.in_branch.new.found c.in_branch-2.new.found
          (condition_nodes hs s c.args.token (plain_expr c.args.e.now)) (stmt_nodes hs (inside s) a) (stmt_nodes hs (inside between) b)
          c.in_ok-condition.ensures.found c.in_ok-in_branch.ensures.found
          (subst (λ z. OnOk c.in_branch-2.result (c.in_branch-2.new.found ≡ seen c.args.k c.in_branch.new.found (stmt_nodes hs (inside z) b))) is c.in_branch-2.ensures.found);
      sight = subst (λ z. OnOk c.in_branch-2.result (sight_in c.args.given.now c.in_branch-2.new.sight ≡ left z (after (inside z) b))) is c.in_branch-2.ensures.sight;
    }

pub for_loop-returns : goal.for_loop-returns
for_loop-returns t c =
    let hs = heads_in c.args.given.now in
    let s = sight_in c.args.given.now c.args.sight.now in
    record {
      found = three_found c.in_loop.result c.args.k c.args.found.now c.for_head.new.found c.in_loop.new.found
          (nodes_there (value_nodes hs s) (option_map plain_expr c.args.start.now))
          (nodes_there (condition_nodes hs s c.args.token) (option_map plain_expr c.args.e.now))
          (nodes_there (value_nodes hs s) (option_map plain_expr c.args.step.now))
          (stmt_nodes hs (looped s) (plain_stmt c.args.body.now)) c.in_ok-for_head.ensures.found c.in_loop.ensures.found;
      sight = c.in_loop.ensures.sight;
    }

pub switch-returns : goal.switch-returns
switch-returns t c =
    let hs = heads_in c.args.given.now in
    let s = sight_in c.args.given.now c.args.sight.now in
    let xs = plain_stmts c.args.body.now in
    let is = c.enter_switch-mark.ensures.switched c.args.given.now.table.now in
    record {
      found = one_found c.statements-walked.result c.args.k c.args.found.now c.condition.new.found c.statements-walked.new.found
          (condition_nodes hs s c.args.token (plain_expr c.args.value.now)) (stmts_nodes hs (switched s) xs) c.in_ok-condition.ensures.found
          (subst (λ z. OnOk c.statements-walked.result (c.statements-walked.new.found ≡ seen c.args.k c.condition.new.found (stmts_nodes hs z xs))) is c.statements-walked.ensures.found);
      sight =
          on_ok c.statements-walked.result
          (λ behind. c.scopes_are_left.ensures.left c.args.given.now.table.now c.args.sight.now c.statements-walked.new.sight c.leave.new.self c.enter_switch-mark.result (switched s)
          (afters (switched s) xs)
          refl refl refl refl (c.scopes_only_add.ensures.statements (switched s) xs) c.leave.ensures.left c.enter_switch-mark.ensures.mark (behind ∙ ap (λ k. afters k xs) is))
          c.statements-walked.ensures.sight;
    }

-- ---- statements in a row

pub statements-loop-one-init : goal.statements-loop-one-init
statements-loop-one-init t c = (refl, refl)

pub statements-loop-one-preserved : goal.statements-loop-one-preserved
statements-loop-one-preserved t c = (
  row_found (stmt_laws (heads_in c.args.given.now)) c.args.statements.now c.loop-one.one-index _ c.one-item.result c.loop-one-test.true c.one-item.is (sight_in c.args.given.now c.loop-one.sight)
      (sight_in c.args.given.now c.statement.new.sight) c.in_ok-statement.ensures.sight c.args.k c.loop-one.found c.statement.new.found _ c.in_ok-statement.ensures.found c.loop-one.invariant.0,
  row_sight (stmt_laws (heads_in c.args.given.now)) c.args.statements.now c.loop-one.one-index _ c.one-item.result c.loop-one-test.true c.one-item.is (sight_in c.args.given.now c.loop-one.sight)
      (sight_in c.args.given.now c.statement.new.sight) c.in_ok-statement.ensures.sight _ c.loop-one.invariant.1,
)

pub statements-returns : goal.statements-returns
statements-returns t c = record {
  found = row_end_found (stmt_laws (heads_in c.args.given.now)) c.args.statements.now c.loop-one.one-index (omega (arith, c.loop-one-test.false))
      (sight_in c.args.given.now c.loop-one.sight) c.args.k c.loop-one.found _ c.loop-one.invariant.0;
  sight = row_end_sight (stmt_laws (heads_in c.args.given.now)) c.args.statements.now c.loop-one.one-index (omega (arith, c.loop-one-test.false))
      (sight_in c.args.given.now c.loop-one.sight) _ c.loop-one.invariant.1;
}

-- ---- where memory is short

pub if_only-returns-in_err-condition : goal.if_only-returns-in_err-condition
if_only-returns-in_err-condition t c =
    let r = c.from_residual.result in
    let h = c.from_residual.ensures.0 in
    record { found = err_on r _ h; sight = err_on r _ h }

pub if_else-returns-in_err-condition : goal.if_else-returns-in_err-condition
if_else-returns-in_err-condition t c =
    let r = c.from_residual.result in
    let h = c.from_residual.ensures.0 in
    record { found = err_on r _ h; sight = err_on r _ h }

pub if_else-returns-in_err-in_branch : goal.if_else-returns-in_err-in_branch
if_else-returns-in_err-in_branch t c =
    let r = c.from_residual-in_err-in_branch.result in
    let h = c.from_residual-in_err-in_branch.ensures.0 in
    record { found = err_on r _ h; sight = err_on r _ h }

pub while_loop-returns-in_err-condition : goal.while_loop-returns-in_err-condition
while_loop-returns-in_err-condition t c =
    let r = c.from_residual.result in
    let h = c.from_residual.ensures.0 in
    record { found = err_on r _ h; sight = err_on r _ h }

pub do_loop-returns-in_err-condition : goal.do_loop-returns-in_err-condition
do_loop-returns-in_err-condition t c =
    let r = c.from_residual.result in
    let h = c.from_residual.ensures.0 in
    record { found = err_on r _ h; sight = err_on r _ h }

pub for_loop-returns-in_err-for_head : goal.for_loop-returns-in_err-for_head
for_loop-returns-in_err-for_head t c =
    let r = c.from_residual.result in
    let h = c.from_residual.ensures.0 in
    record { found = err_on r _ h; sight = err_on r _ h }

pub switch-returns-in_err-condition : goal.switch-returns-in_err-condition
switch-returns-in_err-condition t c =
    let r = c.from_residual.result in
    let h = c.from_residual.ensures.0 in
    record { found = err_on r _ h; sight = err_on r _ h }

pub statements-returns-in_err-statement : goal.statements-returns-in_err-statement
statements-returns-in_err-statement t c =
    let r = c.from_residual.result in
    let h = c.from_residual.ensures.0 in
    record { found = err_on r _ h; sight = err_on r _ h }
