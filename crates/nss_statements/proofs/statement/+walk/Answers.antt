use Rattle.std.proofs.Common.{◌≡◌, ◌∙◌, ◌++◌, ◌+◌, arith, false, sym, ap, refl, subst, Some}
use Rattle.std.specs.Option.{option_map}
use Rattle.std.specs.Result.{IfOk, OnOk}
use Rattle.std.proofs.lemmas.Result.{IfOk-from_err}
use Rattle.nss_tree.specs.Reading.{plain_expr, plain_stmt, plain_stmts}
use Rattle.nss_tree.specs.Readings.{tree_block, tree_break_off, tree_case_label, tree_continue_on, tree_declaration, tree_default_label, tree_do_loop, tree_empty, tree_expression, tree_for_loop}
use Rattle.nss_tree.specs.Readings.{tree_if_else, tree_if_only, tree_return_from, tree_switch, tree_while_loop}
use Rattle.nss_tree.specs.Statements as tree
use Rattle.nss_tree.specs.Statements.{map_stmt, more_stmts, no_stmt}
use Rattle.typing_rules.specs.Nodes.{asked, at, faults_there, fine, four, if_there, kept, passed, three, two}
use Rattle.typing_rules.specs.Reading.{plain}
use Rattle.typing_rules.specs.Rules.{do_rows, do_rule, for_rows, for_rule, if_else_rows, if_else_rule, if_rows, if_rule, while_rule}
use Rattle.typing_rules.specs.Sight.{scope_entered, inside, left, looped, switched}
use Rattle.typing_rules.specs.UnitReading.{typed_stmt, typed_stmts}
use Rattle.typing_rules.specs.Verdicts.{after, afters, stmt_faults, stmt_verdict, stmts_faults, stmts_fine, value, value_faults}
use Rattle.nss_statements.specs.Faults.{switch_rows_by, switch_rule_by}
use Rattle.nss_expressions.specs.Views.{heads_in, sight_in}
use Rattle.nss_expressions.specs.RowLaws.{row_value, row_least, row_sight, row_end_value, row_end_least, row_end_sight}
use Rattle.nss_statements.specs.Nodes.{all_size, block_is, declaration_is, do_is, err_on, falls, for_is, if_else_is, if_only_is, next_falls, on_ok, size, switch_is, while_is}
use Rattle.nss_statements.proofs.SameSight.{same_faults, same_verdict}
use Rattle.nss_statements.proofs.StatementRows.{stmt_laws, stmts_first}
use Rattle.nss_expressions.specs.Walked.{always, answered, four_least, four_value, node_least, node_sight, node_value, three_least, three_value, two_least, two_value}
use Rattle.nss_statements.proofs.statement.+walk.Goals as goal

-- ---- a statement that is known

pub statement-block-requires : goal.statement-block-requires
statement-block-requires t c = (
  falls _ (tree.block c.in-Block.token (plain_stmts c.deref.result.now)) t
      (all_size (plain_stmts c.deref.result.now) + 2)
      (block_is _ _ _ _ (tree_block _ _ _ c.in-Block.is) c.deref.ensures.value) c.decreases (omega arith),
  tt,
)

pub statement-returns-in-Block : goal.statement-returns-in-Block
statement-returns-in-Block t c =
    let hs = heads_in c.args.given.now in
    let s = sight_in c.args.given.now c.args.sight.now in
    let node = block_is _ _ _ _ (tree_block _ _ _ c.in-Block.is) c.deref.ensures.value in
    record {
      value = node_value typed_stmt (stmt_verdict hs s) (stmt_faults hs s) c.in-Block.token c.block.result _ _ node c.block.ensures.value;
      least = node_least typed_stmt (stmt_verdict hs s) (stmt_faults hs s) c.in-Block.token c.block.result _ _ node _ _ c.block.ensures.least;
      sight = node_sight c.block.result _ _ node (after s) _ c.block.ensures.sight;
    }

pub statement-returns-in-Empty : goal.statement-returns-in-Empty
statement-returns-in-Empty t c =
    let hs = heads_in c.args.given.now in
    let s = sight_in c.args.given.now c.args.sight.now in
    let node = ap (map_stmt plain_expr) (tree_empty _ _ c.in-Empty.is) in
    record {
      value = node_value typed_stmt (stmt_verdict hs s) (stmt_faults hs s) c.in-Empty.token (answered (Some c.empty.result)) _ _ node (ap (λ y. Some (map_stmt plain y)) c.empty.ensures.made);
      least = node_least typed_stmt (stmt_verdict hs s) (stmt_faults hs s) c.in-Empty.token (answered (Some c.empty.result)) _ _ node c.args.least.now c.args.least.now refl;
      sight = ap (after s) (sym node);
    }

pub statement-returns-in-Expression : goal.statement-returns-in-Expression
statement-returns-in-Expression t c =
    let hs = heads_in c.args.given.now in
    let s = sight_in c.args.given.now c.args.sight.now in
    let node = ap (map_stmt plain_expr) (tree_expression _ _ _ c.in-Expression.is) in
    record {
      value = node_value typed_stmt (stmt_verdict hs s) (stmt_faults hs s) c.in-Expression.token c.expression_statement.result _ _ node c.expression_statement.ensures.value;
      least = node_least typed_stmt (stmt_verdict hs s) (stmt_faults hs s) c.in-Expression.token c.expression_statement.result _ _ node _ _ c.expression_statement.ensures.least;
      sight = always c.expression_statement.result (ap (after s) (sym node));
    }

pub statement-if_only-requires : goal.statement-if_only-requires
statement-if_only-requires t c = (
  falls _ (tree.if_only c.in-If.token (plain_expr c.in-If.condition) (plain_stmt c.deref-in-If.result.now)) t
      (size (plain_stmt c.deref-in-If.result.now) + 2)
      (if_only_is _ _ _ _ _ (tree_if_only _ _ _ _ c.in-If.is) c.deref-in-If.ensures) c.decreases (omega arith),
  tt,
)

pub statement-returns-in-If : goal.statement-returns-in-If
statement-returns-in-If t c =
    let hs = heads_in c.args.given.now in
    let s = sight_in c.args.given.now c.args.sight.now in
    let node = if_only_is _ _ _ _ _ (tree_if_only _ _ _ _ c.in-If.is) c.deref-in-If.ensures in
    record {
      value = node_value typed_stmt (stmt_verdict hs s) (stmt_faults hs s) c.in-If.token c.if_only.result _ _ node c.if_only.ensures.value;
      least = node_least typed_stmt (stmt_verdict hs s) (stmt_faults hs s) c.in-If.token c.if_only.result _ _ node _ _ c.if_only.ensures.least;
      sight = node_sight c.if_only.result _ _ node (after s) _ c.if_only.ensures.sight;
    }

pub statement-if_else-requires : goal.statement-if_else-requires
statement-if_else-requires t c = (
  falls _ (tree.if_else c.in-IfElse.token (plain_expr c.in-IfElse.condition)
      (plain_stmt c.deref-in-IfElse.result.now) (plain_stmt c.deref-in-IfElse-2.result.now)) t
      (size (plain_stmt c.deref-in-IfElse.result.now) + size (plain_stmt c.deref-in-IfElse-2.result.now) + 2)
      (if_else_is _ _ _ _ _ _ _
      (tree_if_else _ _ _ _ _ c.in-IfElse.is) c.deref-in-IfElse.ensures c.deref-in-IfElse-2.ensures) c.decreases
      (omega arith),
  tt,
)

pub statement-returns-in-IfElse : goal.statement-returns-in-IfElse
statement-returns-in-IfElse t c =
    let hs = heads_in c.args.given.now in
    let s = sight_in c.args.given.now c.args.sight.now in
    let node = if_else_is _ _ _ _ _ _ _ (tree_if_else _ _ _ _ _ c.in-IfElse.is) c.deref-in-IfElse.ensures c.deref-in-IfElse-2.ensures in
    record {
      value = node_value typed_stmt (stmt_verdict hs s) (stmt_faults hs s) c.in-IfElse.token c.if_else.result _ _ node c.if_else.ensures.value;
      least = node_least typed_stmt (stmt_verdict hs s) (stmt_faults hs s) c.in-IfElse.token c.if_else.result _ _ node _ _ c.if_else.ensures.least;
      sight = node_sight c.if_else.result _ _ node (after s) _ c.if_else.ensures.sight;
    }

pub statement-while_loop-requires : goal.statement-while_loop-requires
statement-while_loop-requires t c = (
  falls _ (tree.while_loop c.in-While.token (plain_expr c.in-While.condition)
      (plain_stmt c.deref-in-While.result.now)) t (size (plain_stmt c.deref-in-While.result.now) + 2)
      (while_is _ _ _ _ _ (tree_while_loop _ _ _ _ c.in-While.is) c.deref-in-While.ensures) c.decreases (omega arith),
  tt,
)

pub statement-returns-in-While : goal.statement-returns-in-While
statement-returns-in-While t c =
    let hs = heads_in c.args.given.now in
    let s = sight_in c.args.given.now c.args.sight.now in
    let node = while_is _ _ _ _ _ (tree_while_loop _ _ _ _ c.in-While.is) c.deref-in-While.ensures in
    record {
      value = node_value typed_stmt (stmt_verdict hs s) (stmt_faults hs s) c.in-While.token c.while_loop.result _ _ node c.while_loop.ensures.value;
      least = node_least typed_stmt (stmt_verdict hs s) (stmt_faults hs s) c.in-While.token c.while_loop.result _ _ node _ _ c.while_loop.ensures.least;
      sight = node_sight c.while_loop.result _ _ node (after s) _ c.while_loop.ensures.sight;
    }

pub statement-do_loop-requires : goal.statement-do_loop-requires
statement-do_loop-requires t c = (
  falls _ (tree.do_loop c.in-Do.token (plain_stmt c.deref-in-Do.result.now) (plain_expr c.in-Do.condition)) t
      (size (plain_stmt c.deref-in-Do.result.now) + 2)
      (do_is _ _ _ _ _ (tree_do_loop _ _ _ _ c.in-Do.is) c.deref-in-Do.ensures) c.decreases (omega arith),
  tt,
)

pub statement-returns-in-Do : goal.statement-returns-in-Do
statement-returns-in-Do t c =
    let hs = heads_in c.args.given.now in
    let s = sight_in c.args.given.now c.args.sight.now in
    let node = do_is _ _ _ _ _ (tree_do_loop _ _ _ _ c.in-Do.is) c.deref-in-Do.ensures in
    record {
      value = node_value typed_stmt (stmt_verdict hs s) (stmt_faults hs s) c.in-Do.token c.do_loop.result _ _ node c.do_loop.ensures.value;
      least = node_least typed_stmt (stmt_verdict hs s) (stmt_faults hs s) c.in-Do.token c.do_loop.result _ _ node _ _ c.do_loop.ensures.least;
      sight = node_sight c.do_loop.result _ _ node (after s) _ c.do_loop.ensures.sight;
    }

pub statement-for_loop-requires : goal.statement-for_loop-requires
statement-for_loop-requires t c = (
  falls _ (tree.for_loop c.in-For.token (option_map plain_expr c.in-For.start)
      (option_map plain_expr c.in-For.condition) (option_map plain_expr c.in-For.step)
      (plain_stmt c.deref-in-For.result.now)) t (size (plain_stmt c.deref-in-For.result.now) + 2)
      (for_is _ _ _ _ _ _ _ (tree_for_loop _ _ _ _ _ _ c.in-For.is) c.deref-in-For.ensures) c.decreases (omega arith),
  tt,
)

pub statement-returns-in-For : goal.statement-returns-in-For
statement-returns-in-For t c =
    let hs = heads_in c.args.given.now in
    let s = sight_in c.args.given.now c.args.sight.now in
    let node = for_is _ _ _ _ _ _ _ (tree_for_loop _ _ _ _ _ _ c.in-For.is) c.deref-in-For.ensures in
    record {
      value = node_value typed_stmt (stmt_verdict hs s) (stmt_faults hs s) c.in-For.token c.for_loop.result _ _ node c.for_loop.ensures.value;
      least = node_least typed_stmt (stmt_verdict hs s) (stmt_faults hs s) c.in-For.token c.for_loop.result _ _ node _ _ c.for_loop.ensures.least;
      sight = node_sight c.for_loop.result _ _ node (after s) _ c.for_loop.ensures.sight;
    }

pub statement-switch-requires : goal.statement-switch-requires
statement-switch-requires t c = (
  falls _ (tree.switch c.in-Switch.token (plain_expr c.in-Switch.value) (plain_stmts c.deref-in-Switch.result.now)) t
      (all_size (plain_stmts c.deref-in-Switch.result.now) + 2)
      (switch_is _ _ _ _ _ (tree_switch _ _ _ _ c.in-Switch.is) c.deref-in-Switch.ensures.value) c.decreases
      (omega arith),
  tt,
)

pub statement-returns-in-Switch : goal.statement-returns-in-Switch
statement-returns-in-Switch t c =
    let hs = heads_in c.args.given.now in
    let s = sight_in c.args.given.now c.args.sight.now in
    let node = switch_is _ _ _ _ _ (tree_switch _ _ _ _ c.in-Switch.is) c.deref-in-Switch.ensures.value in
    record {
      value = node_value typed_stmt (stmt_verdict hs s) (stmt_faults hs s) c.in-Switch.token c.switch.result _ _ node c.switch.ensures.value;
      least = node_least typed_stmt (stmt_verdict hs s) (stmt_faults hs s) c.in-Switch.token c.switch.result _ _ node _ _ c.switch.ensures.least;
      sight = node_sight c.switch.result _ _ node (after s) _ c.switch.ensures.sight;
    }

pub statement-returns-in-Break : goal.statement-returns-in-Break
statement-returns-in-Break t c =
    let hs = heads_in c.args.given.now in
    let s = sight_in c.args.given.now c.args.sight.now in
    let node = ap (map_stmt plain_expr) (tree_break_off _ _ c.in-Break.is) in
    record {
      value = node_value typed_stmt (stmt_verdict hs s) (stmt_faults hs s) c.in-Break.token (answered c.judge_break.result) _ _ node c.judge_break.ensures.value;
      least = node_least typed_stmt (stmt_verdict hs s) (stmt_faults hs s) c.in-Break.token (answered c.judge_break.result) _ _ node _ _ c.judge_break.ensures.least;
      sight = ap (after s) (sym node);
    }

pub statement-returns-in-Continue : goal.statement-returns-in-Continue
statement-returns-in-Continue t c =
    let hs = heads_in c.args.given.now in
    let s = sight_in c.args.given.now c.args.sight.now in
    let node = ap (map_stmt plain_expr) (tree_continue_on _ _ c.in-Continue.is) in
    record {
      value = node_value typed_stmt (stmt_verdict hs s) (stmt_faults hs s) c.in-Continue.token (answered c.judge_continue.result) _ _ node c.judge_continue.ensures.value;
      least = node_least typed_stmt (stmt_verdict hs s) (stmt_faults hs s) c.in-Continue.token (answered c.judge_continue.result) _ _ node _ _ c.judge_continue.ensures.least;
      sight = ap (after s) (sym node);
    }

pub statement-returns-in-Return : goal.statement-returns-in-Return
statement-returns-in-Return t c =
    let hs = heads_in c.args.given.now in
    let s = sight_in c.args.given.now c.args.sight.now in
    let node = ap (map_stmt plain_expr) (tree_return_from _ _ _ c.in-Return.is) in
    record {
      value = node_value typed_stmt (stmt_verdict hs s) (stmt_faults hs s) c.in-Return.token c.return_from.result _ _ node c.return_from.ensures.value;
      least = node_least typed_stmt (stmt_verdict hs s) (stmt_faults hs s) c.in-Return.token c.return_from.result _ _ node _ _ c.return_from.ensures.least;
      sight = always c.return_from.result (ap (after s) (sym node));
    }

pub statement-returns-in-Declaration : goal.statement-returns-in-Declaration
statement-returns-in-Declaration t c =
    let hs = heads_in c.args.given.now in
    let s = sight_in c.args.given.now c.args.sight.now in
    let node = declaration_is _ _ _ _ _ (tree_declaration _ _ _ _ c.in-Declaration.is) c.as_slice.ensures.items in
    record {
      value = node_value typed_stmt (stmt_verdict hs s) (stmt_faults hs s) c.in-Declaration.token c.declaration.result _ _ node c.declaration.ensures.value;
      least = node_least typed_stmt (stmt_verdict hs s) (stmt_faults hs s) c.in-Declaration.token c.declaration.result _ _ node _ _ c.declaration.ensures.least;
      sight = node_sight c.declaration.result _ _ node (after s) _ c.declaration.ensures.sight;
    }

pub statement-returns-in-Case : goal.statement-returns-in-Case
statement-returns-in-Case t c =
    let hs = heads_in c.args.given.now in
    let s = sight_in c.args.given.now c.args.sight.now in
    let node = ap (map_stmt plain_expr) (tree_case_label _ _ _ c.in-Case.is) in
    record {
      value = node_value typed_stmt (stmt_verdict hs s) (stmt_faults hs s) c.in-Case.token c.case.result _ _ node c.case.ensures.value;
      least = node_least typed_stmt (stmt_verdict hs s) (stmt_faults hs s) c.in-Case.token c.case.result _ _ node _ _ c.case.ensures.least;
      sight = node_sight c.case.result _ _ node (after s) _ c.case.ensures.sight;
    }

pub statement-returns-in-Default : goal.statement-returns-in-Default
statement-returns-in-Default t c =
    let hs = heads_in c.args.given.now in
    let s = sight_in c.args.given.now c.args.sight.now in
    let node = ap (map_stmt plain_expr) (tree_default_label _ _ c.in-Default.is) in
    record {
      value = node_value typed_stmt (stmt_verdict hs s) (stmt_faults hs s) c.in-Default.token (answered c.default.result) _ _ node c.default.ensures.value;
      least = node_least typed_stmt (stmt_verdict hs s) (stmt_faults hs s) c.in-Default.token (answered c.default.result) _ _ node _ _ c.default.ensures.least;
      sight = c.default.ensures.sight c.args.given.now.table.now ∙ ap (after s) (sym node);
    }

-- ---- a statement whose scope is left

pub in_branch-returns : goal.in_branch-returns
in_branch-returns t c =
    let hs = heads_in c.args.given.now in
    let s = sight_in c.args.given.now c.args.sight.now in
    let x = plain_stmt c.args.branch.now in
    let is = c.inside-mark.ensures.inside c.args.given.now.table.now in
    record {
      value = subst (λ k. IfOk c.statement-typed.result (λ r. option_map typed_stmt r ≡ fine (stmt_verdict hs k x))) is c.statement-typed.ensures.value;
      least = subst (λ k. OnOk c.statement-typed.result (c.statement-typed.new.least ≡ kept c.args.least.now (stmt_faults hs k x))) is c.statement-typed.ensures.least;
      sight =
          on_ok c.statement-typed.result
          (λ behind. c.scopes_are_left.ensures.left c.args.given.now.table.now c.args.sight.now c.statement-typed.new.sight c.leave.new.self c.inside-mark.result (inside s) (after (inside s) x)
          refl refl refl refl (c.scopes_only_add.ensures.statements (inside s) (more_stmts x no_stmt)) c.leave.ensures.left c.inside-mark.ensures.mark (behind ∙ ap (λ k. after k x) is))
          c.statement-typed.ensures.sight;
    }

pub in_loop-returns : goal.in_loop-returns
in_loop-returns t c =
    let hs = heads_in c.args.given.now in
    let s = sight_in c.args.given.now c.args.sight.now in
    let x = plain_stmt c.args.body.now in
    let is = c.enter_loop-mark.ensures.looped c.args.given.now.table.now in
    record {
      value = subst (λ k. IfOk c.statement-typed.result (λ r. option_map typed_stmt r ≡ fine (stmt_verdict hs k x))) is c.statement-typed.ensures.value;
      least = subst (λ k. OnOk c.statement-typed.result (c.statement-typed.new.least ≡ kept c.args.least.now (stmt_faults hs k x))) is c.statement-typed.ensures.least;
      sight =
          on_ok c.statement-typed.result
          (λ behind. c.scopes_are_left.ensures.left c.args.given.now.table.now c.args.sight.now c.statement-typed.new.sight c.leave.new.self c.enter_loop-mark.result (looped s) (after (looped s) x)
          refl refl refl refl (c.scopes_only_add.ensures.statements (looped s) (more_stmts x no_stmt)) c.leave.ensures.left c.enter_loop-mark.ensures.mark (behind ∙ ap (λ k. after k x) is))
          c.statement-typed.ensures.sight;
    }

-- ---- each kind of statement

pub block-returns : goal.block-returns
block-returns t c =
    let hs = heads_in c.args.given.now in
    let s = sight_in c.args.given.now c.args.sight.now in
    let xs = plain_stmts c.args.items.now in
    let is = c.enter-mark.ensures.entered c.args.given.now.table.now in
    record {
      value = c.made_block.ensures.made ∙ ap (λ o. fine (passed (tree.block c.args.token) o)) (c.in_ok-typed.ensures.value ∙ ap (λ k. stmts_fine hs k xs) is);
      least = c.in_ok-typed.ensures.least ∙ ap (λ k. kept c.args.least.now (stmts_faults hs k xs)) is;
      sight =
          c.scopes_are_left.ensures.left c.args.given.now.table.now c.args.sight.now c.statements-typed.new.sight c.leave.new.self c.enter-mark.result (scope_entered s) (afters (scope_entered s) xs)
          refl refl refl refl (c.scopes_only_add.ensures.statements (scope_entered s) xs) c.leave.ensures.left c.enter-mark.ensures.mark (c.in_ok-typed.ensures.sight ∙ ap (λ k. afters k xs) is);
    }

pub if_only-returns-in-Ok : goal.if_only-returns-in-Ok
if_only-returns-in-Ok t c =
    let hs = heads_in c.args.given.now in
    let s = sight_in c.args.given.now c.args.sight.now in
    let e = plain_expr c.args.condition.now in
    let a = plain_stmt c.args.then.now in
    let d = tree.if_only c.args.token e a in
    record {
      value = two_value typed_stmt (stmt_verdict hs s) (stmt_faults hs s) c.args.token c.judge_if.result d d refl
          (λ x y. asked if_rows (if_rule c.args.token) (two x y)) (option_map plain c.in_ok-condition.condition)
          (value hs s e) (option_map typed_stmt c.in-Ok.then)
          (fine (stmt_verdict hs (inside s) a)) c.in_ok-condition.ensures.value c.in-Ok.ensures.value refl c.judge_if.ensures.value;
      least =
          two_least typed_stmt (stmt_verdict hs s) (stmt_faults hs s) c.args.token c.judge_if.result d d refl
          (λ x y. asked if_rows (if_rule c.args.token) (two x y)) (option_map plain c.in_ok-condition.condition)
          (value hs s e) (option_map typed_stmt c.in-Ok.then)
          (fine (stmt_verdict hs (inside s) a)) c.args.least.now c.expression.new.least c.in_branch.new.least c.judge_if.new.least (value_faults hs s e) (stmt_faults hs (inside s) a)
          c.in_ok-condition.ensures.value c.in-Ok.ensures.value refl c.in_ok-condition.ensures.least c.in-Ok.ensures.least c.judge_if.ensures.least;
      sight = always c.judge_if.result c.in-Ok.ensures.sight;
    }

pub while_loop-returns-in-Ok : goal.while_loop-returns-in-Ok
while_loop-returns-in-Ok t c =
    let hs = heads_in c.args.given.now in
    let s = sight_in c.args.given.now c.args.sight.now in
    let e = plain_expr c.args.condition.now in
    let a = plain_stmt c.args.body.now in
    let d = tree.while_loop c.args.token e a in
    record {
      value = two_value typed_stmt (stmt_verdict hs s) (stmt_faults hs s) c.args.token c.judge_while.result d d refl
          (λ x y. asked if_rows (while_rule c.args.token) (two x y)) (option_map plain c.in_ok-condition.condition)
          (value hs s e) (option_map typed_stmt c.in-Ok.body)
          (fine (stmt_verdict hs (looped s) a)) c.in_ok-condition.ensures.value c.in-Ok.ensures.value refl c.judge_while.ensures.value;
      least =
          two_least typed_stmt (stmt_verdict hs s) (stmt_faults hs s) c.args.token c.judge_while.result d d refl
          (λ x y. asked if_rows (while_rule c.args.token) (two x y)) (option_map plain c.in_ok-condition.condition)
          (value hs s e) (option_map typed_stmt c.in-Ok.body)
          (fine (stmt_verdict hs (looped s) a)) c.args.least.now c.expression.new.least c.in_loop.new.least c.judge_while.new.least (value_faults hs s e) (stmt_faults hs (looped s) a)
          c.in_ok-condition.ensures.value c.in-Ok.ensures.value refl c.in_ok-condition.ensures.least c.in-Ok.ensures.least c.judge_while.ensures.least;
      sight = always c.judge_while.result c.in-Ok.ensures.sight;
    }

pub if_else-returns-in-Ok-in_branch : goal.if_else-returns-in-Ok-in_branch
if_else-returns-in-Ok-in_branch t c =
    let hs = heads_in c.args.given.now in
    let s = sight_in c.args.given.now c.args.sight.now in
    let e = plain_expr c.args.condition.now in
    let a = plain_stmt c.args.then.now in
    let b = plain_stmt c.args.otherwise.now in
    let between = left s (after (inside s) a) in
    let is = c.in-Ok.ensures.sight in
    let d = tree.if_else c.args.token e a b in
    record {
      value =
          three_value typed_stmt (stmt_verdict hs s) (stmt_faults hs s) c.args.token c.judge_if_else.result d d refl
          (λ x y z. asked if_else_rows (if_else_rule c.args.token) (three x y z))
          (option_map plain c.in_ok-condition.condition) (value hs s e) (option_map typed_stmt c.in-Ok.then)
          (fine (stmt_verdict hs (inside s) a)) (option_map typed_stmt c.in-Ok-in_branch.otherwise)
          (fine (stmt_verdict hs (inside between) b))
          c.in_ok-condition.ensures.value c.in-Ok.ensures.value (c.in-Ok-in_branch.ensures.value ∙ ap (λ k. fine (stmt_verdict hs (inside k) b)) is) refl c.judge_if_else.ensures.value;
      least =
          three_least typed_stmt (stmt_verdict hs s) (stmt_faults hs s) c.args.token c.judge_if_else.result d d refl
          (λ x y z. asked if_else_rows (if_else_rule c.args.token) (three x y z))
          (option_map plain c.in_ok-condition.condition) (value hs s e) (option_map typed_stmt c.in-Ok.then)
          (fine (stmt_verdict hs (inside s) a)) (option_map typed_stmt c.in-Ok-in_branch.otherwise)
          (fine (stmt_verdict hs (inside between) b))
          c.args.least.now c.expression.new.least c.in_branch.new.least c.in_branch-in-Ok.new.least c.judge_if_else.new.least (value_faults hs s e) (stmt_faults hs (inside s) a)
          (stmt_faults hs (inside between) b)
          c.in_ok-condition.ensures.value c.in-Ok.ensures.value
          (c.in-Ok-in_branch.ensures.value
          ∙ ap (λ k. fine (stmt_verdict hs
          (inside k) b)) is) refl c.in_ok-condition.ensures.least c.in-Ok.ensures.least
          (c.in-Ok-in_branch.ensures.least ∙ ap (λ k. kept c.in_branch.new.least (stmt_faults hs (inside k) b)) is) c.judge_if_else.ensures.least;
      sight = always c.judge_if_else.result (c.in-Ok-in_branch.ensures.sight ∙ ap (λ k. left k (after (inside k) b)) is);
    }

pub do_loop-returns-in-Ok : goal.do_loop-returns-in-Ok
do_loop-returns-in-Ok t c =
    let hs = heads_in c.args.given.now in
    let s = sight_in c.args.given.now c.args.sight.now in
    let e = plain_expr c.args.condition.now in
    let a = plain_stmt c.args.body.now in
    let next = (after (looped s) a).next in
    let is = c.in_ok-body.ensures.sight in
    let d = tree.do_loop c.args.token a e in
    record {
      value = two_value typed_stmt (stmt_verdict hs s) (stmt_faults hs s) c.args.token c.judge_do.result d d refl
          (λ x y. asked do_rows (do_rule c.args.token) (two x y)) (option_map typed_stmt c.in_ok-body.body)
          (fine (stmt_verdict hs (looped s) a)) (option_map plain c.in-Ok.condition)
          (value hs s e) c.in_ok-body.ensures.value
          (c.in-Ok.ensures.value ∙ (ap (λ k. value hs k e) is
          ∙ ap fine (same_verdict hs s next false e))) refl c.judge_do.ensures.value;
      least =
          two_least typed_stmt (stmt_verdict hs s) (stmt_faults hs s) c.args.token c.judge_do.result d d refl
          (λ x y. asked do_rows (do_rule c.args.token) (two x y)) (option_map typed_stmt c.in_ok-body.body)
          (fine (stmt_verdict hs (looped s) a)) (option_map plain c.in-Ok.condition)
          (value hs s e) c.args.least.now c.in_loop.new.least c.expression.new.least c.judge_do.new.least
          (stmt_faults hs (looped s) a) (value_faults hs s e)
          c.in_ok-body.ensures.value
          (c.in-Ok.ensures.value ∙ (ap (λ k. value hs k e) is
          ∙ ap fine (same_verdict hs s next false e))) refl c.in_ok-body.ensures.least
          (c.in-Ok.ensures.least ∙ (ap (λ k. kept c.in_loop.new.least (value_faults hs k e)) is
          ∙ ap (kept c.in_loop.new.least) (same_faults hs s next false e))) c.judge_do.ensures.least;
      sight = always c.judge_do.result is;
    }

pub for_loop-returns-in-Ok : goal.for_loop-returns-in-Ok
for_loop-returns-in-Ok t c =
    let hs = heads_in c.args.given.now in
    let s = sight_in c.args.given.now c.args.sight.now in
    let x = option_map plain_expr c.args.start.now in
    let y = option_map plain_expr c.args.condition.now in
    let z = option_map plain_expr c.args.step.now in
    let a = plain_stmt c.args.body.now in
    let d = tree.for_loop c.args.token x y z a in
    record {
      value =
          four_value typed_stmt (stmt_verdict hs s) (stmt_faults hs s) c.args.token c.judge_for.result d d refl
          (λ i j k l. asked for_rows (for_rule c.args.token) (four i j k l))
          (option_map (option_map plain) c.in_ok-head.head.start) (if_there (value hs s) x)
          (option_map (option_map plain) c.in_ok-head.head.condition) (if_there (value hs s) y)
          (option_map (option_map plain) c.in_ok-head.head.step) (if_there (value hs s) z)
          (option_map typed_stmt c.in-Ok.body) (fine (stmt_verdict hs (looped s) a))
          c.in_ok-head.ensures.start c.in_ok-head.ensures.condition c.in_ok-head.ensures.step c.in-Ok.ensures.value refl c.judge_for.ensures.value;
      least =
          four_least typed_stmt (stmt_verdict hs s) (stmt_faults hs s) c.args.token c.judge_for.result d d refl
          (λ i j k l. asked for_rows (for_rule c.args.token) (four i j k l))
          (option_map (option_map plain) c.in_ok-head.head.start) (if_there (value hs s) x)
          (option_map (option_map plain) c.in_ok-head.head.condition) (if_there (value hs s) y)
          (option_map (option_map plain) c.in_ok-head.head.step) (if_there (value hs s) z)
          (option_map typed_stmt c.in-Ok.body) (fine (stmt_verdict hs (looped s) a))
          c.args.least.now c.for_head.new.least c.in_loop.new.least c.in_loop.new.least c.judge_for.new.least
          (faults_there (value_faults hs s) x) (faults_there (value_faults hs s) y) (faults_there (value_faults hs s) z) (stmt_faults hs (looped s) a)
          c.in_ok-head.ensures.start c.in_ok-head.ensures.condition c.in_ok-head.ensures.step c.in-Ok.ensures.value refl c.in_ok-head.ensures.least c.in-Ok.ensures.least c.judge_for.ensures.least;
      sight = always c.judge_for.result c.in-Ok.ensures.sight;
    }

pub switch-returns-in-Ok : goal.switch-returns-in-Ok
switch-returns-in-Ok t c =
    let hs = heads_in c.args.given.now in
    let s = sight_in c.args.given.now c.args.sight.now in
    let e = plain_expr c.args.value.now in
    let xs = plain_stmts c.args.body.now in
    let is = c.enter_switch-mark.ensures.switched c.args.given.now.table.now in
    let crosses = c.crosses_with-crosses.ensures.crosses c.args.given.now.table.now in
    let known = c.crosses_with-crosses.result in
    let d = tree.switch c.args.token e xs in
    record {
      value =
          two_value typed_stmt (stmt_verdict hs s) (stmt_faults hs s) c.args.token
          (answered c.judge_switch.result) d d refl
          (λ x y. asked (switch_rows_by known) (switch_rule_by known c.args.token) (two x y))
          (option_map plain c.in_ok-value.value) (value hs s e) (option_map typed_stmts c.in-Ok.body)
          (stmts_fine hs (switched s) xs)
          c.in_ok-value.ensures.value (c.in-Ok.ensures.value ∙ ap (λ k. stmts_fine hs k xs) is)
          (sym (ap (λ b. asked (switch_rows_by b) (switch_rule_by b c.args.token) (two (value hs s e) (stmts_fine hs (switched s) xs))) crosses)) c.judge_switch.ensures.value;
      least =
          two_least typed_stmt (stmt_verdict hs s) (stmt_faults hs s) c.args.token
          (answered c.judge_switch.result) d d refl
          (λ x y. asked (switch_rows_by known) (switch_rule_by known c.args.token) (two x y))
          (option_map plain c.in_ok-value.value) (value hs s e) (option_map typed_stmts c.in-Ok.body)
          (stmts_fine hs (switched s) xs)
          c.args.least.now c.expression.new.least c.statements-body.new.least c.judge_switch.new.least (value_faults hs s e) (stmts_faults hs (switched s) xs)
          c.in_ok-value.ensures.value (c.in-Ok.ensures.value ∙ ap (λ k. stmts_fine hs k xs) is)
          (sym (ap (λ b. (value_faults hs s e ++ stmts_faults hs (switched s) xs)
          ++ at c.args.token (asked (switch_rows_by b) (switch_rule_by b c.args.token)
          (two (value hs s e) (stmts_fine hs (switched s) xs)))) crosses))
          c.in_ok-value.ensures.least (c.in-Ok.ensures.least ∙ ap (λ k. kept c.expression.new.least (stmts_faults hs k xs)) is) c.judge_switch.ensures.least;
      sight =
          c.scopes_are_left.ensures.left c.args.given.now.table.now c.args.sight.now c.statements-body.new.sight c.leave.new.self c.enter_switch-mark.result (switched s) (afters (switched s) xs)
          refl refl refl refl (c.scopes_only_add.ensures.statements (switched s) xs) c.leave.ensures.left c.enter_switch-mark.ensures.mark (c.in-Ok.ensures.sight ∙ ap (λ k. afters k xs) is);
    }

-- ---- statements in a row

pub statements-statement-requires : goal.statements-statement-requires
statements-statement-requires t c = (next_falls c.args.statements.now c.loop-one.one-index c.one-item.result c.one-item.is c.loop-one-test.true t c.decreases, tt)

pub statements-loop-one-init : goal.statements-loop-one-init
statements-loop-one-init t c =
    (stmts_first c.new.result (stmts_fine (heads_in c.args.given.now) (sight_in c.args.given.now c.args.sight.now) (plain_stmts c.args.statements.now)) c.new.ensures.empty, refl, refl)

pub statements-loop-one-preserved : goal.statements-loop-one-preserved
statements-loop-one-preserved t c = (
  row_value (stmt_laws (heads_in c.args.given.now)) c.args.statements.now c.loop-one.one-index _ c.one-item.result c.loop-one-test.true c.one-item.is (sight_in c.args.given.now c.loop-one.sight)
      (sight_in c.args.given.now c.statement.new.sight) c.in_ok-typed.ensures.sight c.loop-one.all c.in_ok-all.all c.in_ok-typed.typed _ c.in_ok-typed.ensures.value c.in_ok-all.ensures.row
      c.loop-one.invariant.0,
  row_least (stmt_laws (heads_in c.args.given.now)) c.args.statements.now c.loop-one.one-index _ c.one-item.result c.loop-one-test.true c.one-item.is (sight_in c.args.given.now c.loop-one.sight)
      (sight_in c.args.given.now c.statement.new.sight) c.in_ok-typed.ensures.sight c.loop-one.least c.statement.new.least _ c.in_ok-typed.ensures.least c.loop-one.invariant.1,
  row_sight (stmt_laws (heads_in c.args.given.now)) c.args.statements.now c.loop-one.one-index _ c.one-item.result c.loop-one-test.true c.one-item.is (sight_in c.args.given.now c.loop-one.sight)
      (sight_in c.args.given.now c.statement.new.sight) c.in_ok-typed.ensures.sight _ c.loop-one.invariant.2,
)

pub statements-returns-clause-value : goal.statements-returns-clause-value
statements-returns-clause-value t c =
    row_end_value (stmt_laws (heads_in c.args.given.now)) c.args.statements.now c.loop-one.one-index
    (omega (arith, c.loop-one-test.false))
    (sight_in c.args.given.now c.loop-one.sight) c.loop-one.all _ c.loop-one.invariant.0

pub statements-returns-clause-least : goal.statements-returns-clause-least
statements-returns-clause-least t c =
    row_end_least (stmt_laws (heads_in c.args.given.now)) c.args.statements.now c.loop-one.one-index
    (omega (arith, c.loop-one-test.false))
    (sight_in c.args.given.now c.loop-one.sight) c.loop-one.least _ c.loop-one.invariant.1

pub statements-returns-clause-sight : goal.statements-returns-clause-sight
statements-returns-clause-sight t c =
    row_end_sight (stmt_laws (heads_in c.args.given.now)) c.args.statements.now c.loop-one.one-index
    (omega (arith, c.loop-one-test.false)) (sight_in c.args.given.now c.loop-one.sight) _ c.loop-one.invariant.2

-- ---- from a part to its own part

pub block-statements-typed-requires : goal.block-statements-typed-requires
block-statements-typed-requires t c = (omega (arith, c.decreases), tt)

pub do_loop-in_loop-requires : goal.do_loop-in_loop-requires
do_loop-in_loop-requires t c = (omega (arith, c.decreases), tt)

pub for_loop-in_loop-requires : goal.for_loop-in_loop-requires
for_loop-in_loop-requires t c = (omega (arith, c.decreases), tt)

pub if_else-in_branch-requires : goal.if_else-in_branch-requires
if_else-in_branch-requires t c = (omega (arith, c.decreases), tt)

pub if_else-in_branch-requires-in-Ok : goal.if_else-in_branch-requires-in-Ok
if_else-in_branch-requires-in-Ok t c = (omega (arith, c.decreases), tt)

pub if_only-in_branch-requires : goal.if_only-in_branch-requires
if_only-in_branch-requires t c = (omega (arith, c.decreases), tt)

pub in_branch-statement-typed-requires : goal.in_branch-statement-typed-requires
in_branch-statement-typed-requires t c = (omega (arith, c.decreases), tt)

pub in_loop-statement-typed-requires : goal.in_loop-statement-typed-requires
in_loop-statement-typed-requires t c = (omega (arith, c.decreases), tt)

pub switch-statements-body-requires : goal.switch-statements-body-requires
switch-statements-body-requires t c = (omega (arith, c.decreases), tt)

pub while_loop-in_loop-requires : goal.while_loop-in_loop-requires
while_loop-in_loop-requires t c = (omega (arith, c.decreases), tt)

-- ---- where memory is short

pub block-returns-in_err-typed : goal.block-returns-in_err-typed
block-returns-in_err-typed t c =
    let r = c.from_residual.result in
    let h = c.from_residual.ensures.0 in
    record { value = IfOk-from_err r _ h; least = err_on r _ h; sight = err_on r _ h }

pub do_loop-returns-in_err-body : goal.do_loop-returns-in_err-body
do_loop-returns-in_err-body t c =
    let r = c.from_residual.result in
    let h = c.from_residual.ensures.0 in
    record { value = IfOk-from_err r _ h; least = err_on r _ h; sight = err_on r _ h }

pub for_loop-returns-in_err-head : goal.for_loop-returns-in_err-head
for_loop-returns-in_err-head t c =
    let r = c.from_residual.result in
    let h = c.from_residual.ensures.0 in
    record { value = IfOk-from_err r _ h; least = err_on r _ h; sight = err_on r _ h }

pub if_else-returns-in_err-condition : goal.if_else-returns-in_err-condition
if_else-returns-in_err-condition t c =
    let r = c.from_residual.result in
    let h = c.from_residual.ensures.0 in
    record { value = IfOk-from_err r _ h; least = err_on r _ h; sight = err_on r _ h }

pub if_only-returns-in_err-condition : goal.if_only-returns-in_err-condition
if_only-returns-in_err-condition t c =
    let r = c.from_residual.result in
    let h = c.from_residual.ensures.0 in
    record { value = IfOk-from_err r _ h; least = err_on r _ h; sight = err_on r _ h }

pub switch-returns-in_err-value : goal.switch-returns-in_err-value
switch-returns-in_err-value t c =
    let r = c.from_residual.result in
    let h = c.from_residual.ensures.0 in
    record { value = IfOk-from_err r _ h; least = err_on r _ h; sight = err_on r _ h }

pub while_loop-returns-in_err-condition : goal.while_loop-returns-in_err-condition
while_loop-returns-in_err-condition t c =
    let r = c.from_residual.result in
    let h = c.from_residual.ensures.0 in
    record { value = IfOk-from_err r _ h; least = err_on r _ h; sight = err_on r _ h }

pub statements-returns-in_err-typed : goal.statements-returns-in_err-typed
statements-returns-in_err-typed t c =
    let r = c.from_residual.result in
    let h = c.from_residual.ensures.0 in
    record { value = IfOk-from_err r _ h; least = err_on r _ h; sight = err_on r _ h }

pub statements-returns-in_err-all : goal.statements-returns-in_err-all
statements-returns-in_err-all t c =
    let r = c.from_residual-in_err-all.result in
    let h = c.from_residual-in_err-all.ensures.0 in
    record { value = IfOk-from_err r _ h; least = err_on r _ h; sight = err_on r _ h }

pub do_loop-returns-in-Err : goal.do_loop-returns-in-Err
do_loop-returns-in-Err t c = record { value = tt; least = tt; sight = tt }

pub for_loop-returns-in-Err : goal.for_loop-returns-in-Err
for_loop-returns-in-Err t c = record { value = tt; least = tt; sight = tt }

pub if_else-returns-in-Err-in_branch : goal.if_else-returns-in-Err-in_branch
if_else-returns-in-Err-in_branch t c = record { value = tt; least = tt; sight = tt }

pub if_else-returns-in-Err : goal.if_else-returns-in-Err
if_else-returns-in-Err t c = record { value = tt; least = tt; sight = tt }

pub if_only-returns-in-Err : goal.if_only-returns-in-Err
if_only-returns-in-Err t c = record { value = tt; least = tt; sight = tt }

pub switch-returns-in-Err : goal.switch-returns-in-Err
switch-returns-in-Err t c = record { value = tt; least = tt; sight = tt }

pub while_loop-returns-in-Err : goal.while_loop-returns-in-Err
while_loop-returns-in-Err t c = record { value = tt; least = tt; sight = tt }
