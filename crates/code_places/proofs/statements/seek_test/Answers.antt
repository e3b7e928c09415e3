use Rattle.nss_tree.specs.Readings.{tree_block, tree_break_off, tree_case_label, tree_continue_on, tree_declaration, tree_default_label, tree_do_loop, tree_empty, tree_expression, tree_for_loop}
use Rattle.nss_tree.specs.Readings.{tree_if_else, tree_if_only, tree_return_from, tree_switch, tree_while_loop}
use Rattle.code_places.proofs.Seeking.{last, nothing, one_more}
use Rattle.code_places.proofs.Stmts.{test_known}
use Rattle.code_places.proofs.statements.seek_test.Goals as goal

pub returns-in-Case : goal.returns-in-Case
returns-in-Case c =
    test_known _ _ _ _ _ (tree_case_label _ _ _ c.in-Case.is)
    (one_more c.args.seek _ _ c.pass.ensures (one_more c.pass.result _ _ c.pass_constant-seek.ensures (one_more c.pass_constant-seek.result _ _ c.pass-in-Case.ensures
    (last c.pass-in-Case.result _ c.pass-in-Case-2.ensures))))

pub returns-in-Block : goal.returns-in-Block
returns-in-Block c = test_known _ _ _ _ _ (tree_block _ _ _ c.in-Block.is) (nothing c.args.seek)

pub returns-in-Empty : goal.returns-in-Empty
returns-in-Empty c = test_known _ _ _ _ _ (tree_empty _ _ c.in-Empty.is) (nothing c.args.seek)

pub returns-in-Expression : goal.returns-in-Expression
returns-in-Expression c = test_known _ _ _ _ _ (tree_expression _ _ _ c.in-Expression.is) (nothing c.args.seek)

pub returns-in-If : goal.returns-in-If
returns-in-If c = test_known _ _ _ _ _ (tree_if_only _ _ _ _ c.in-If.is) (nothing c.args.seek)

pub returns-in-IfElse : goal.returns-in-IfElse
returns-in-IfElse c = test_known _ _ _ _ _ (tree_if_else _ _ _ _ _ c.in-IfElse.is) (nothing c.args.seek)

pub returns-in-While : goal.returns-in-While
returns-in-While c = test_known _ _ _ _ _ (tree_while_loop _ _ _ _ c.in-While.is) (nothing c.args.seek)

pub returns-in-Do : goal.returns-in-Do
returns-in-Do c = test_known _ _ _ _ _ (tree_do_loop _ _ _ _ c.in-Do.is) (nothing c.args.seek)

pub returns-in-For : goal.returns-in-For
returns-in-For c = test_known _ _ _ _ _ (tree_for_loop _ _ _ _ _ _ c.in-For.is) (nothing c.args.seek)

pub returns-in-Switch : goal.returns-in-Switch
returns-in-Switch c = test_known _ _ _ _ _ (tree_switch _ _ _ _ c.in-Switch.is) (nothing c.args.seek)

pub returns-in-Break : goal.returns-in-Break
returns-in-Break c = test_known _ _ _ _ _ (tree_break_off _ _ c.in-Break.is) (nothing c.args.seek)

pub returns-in-Continue : goal.returns-in-Continue
returns-in-Continue c = test_known _ _ _ _ _ (tree_continue_on _ _ c.in-Continue.is) (nothing c.args.seek)

pub returns-in-Return : goal.returns-in-Return
returns-in-Return c = test_known _ _ _ _ _ (tree_return_from _ _ _ c.in-Return.is) (nothing c.args.seek)

pub returns-in-Declaration : goal.returns-in-Declaration
returns-in-Declaration c = test_known _ _ _ _ _ (tree_declaration _ _ _ _ c.in-Declaration.is) (nothing c.args.seek)

pub returns-in-Default : goal.returns-in-Default
returns-in-Default c = test_known _ _ _ _ _ (tree_default_label _ _ c.in-Default.is) (nothing c.args.seek)
