use Rattle.std.proofs.Common.{refl}
use Rattle.nss_tree.specs.Readings.{tree_block, tree_break_off, tree_case_label, tree_continue_on, tree_declaration, tree_default_label, tree_do_loop, tree_empty, tree_expression, tree_for_loop}
use Rattle.nss_tree.specs.Readings.{tree_if_else, tree_if_only, tree_return_from, tree_switch, tree_while_loop}
use Rattle.nss_statements.proofs.returns.is_default.Goals as goal

pub returns-in-Block : goal.returns-in-Block
returns-in-Block c = rw (tree_block _ _ _ c.in-Block.is) refl

pub returns-in-Empty : goal.returns-in-Empty
returns-in-Empty c = rw (tree_empty _ _ c.in-Empty.is) refl

pub returns-in-Expression : goal.returns-in-Expression
returns-in-Expression c = rw (tree_expression _ _ _ c.in-Expression.is) refl

pub returns-in-If : goal.returns-in-If
returns-in-If c = rw (tree_if_only _ _ _ _ c.in-If.is) refl

pub returns-in-IfElse : goal.returns-in-IfElse
returns-in-IfElse c = rw (tree_if_else _ _ _ _ _ c.in-IfElse.is) refl

pub returns-in-While : goal.returns-in-While
returns-in-While c = rw (tree_while_loop _ _ _ _ c.in-While.is) refl

pub returns-in-Do : goal.returns-in-Do
returns-in-Do c = rw (tree_do_loop _ _ _ _ c.in-Do.is) refl

pub returns-in-For : goal.returns-in-For
returns-in-For c = rw (tree_for_loop _ _ _ _ _ _ c.in-For.is) refl

pub returns-in-Switch : goal.returns-in-Switch
returns-in-Switch c = rw (tree_switch _ _ _ _ c.in-Switch.is) refl

pub returns-in-Break : goal.returns-in-Break
returns-in-Break c = rw (tree_break_off _ _ c.in-Break.is) refl

pub returns-in-Continue : goal.returns-in-Continue
returns-in-Continue c = rw (tree_continue_on _ _ c.in-Continue.is) refl

pub returns-in-Return : goal.returns-in-Return
returns-in-Return c = rw (tree_return_from _ _ _ c.in-Return.is) refl

pub returns-in-Declaration : goal.returns-in-Declaration
returns-in-Declaration c = rw (tree_declaration _ _ _ _ c.in-Declaration.is) refl

pub returns-in-Case : goal.returns-in-Case
returns-in-Case c = rw (tree_case_label _ _ _ c.in-Case.is) refl

pub returns-in-Default : goal.returns-in-Default
returns-in-Default c = rw (tree_default_label _ _ c.in-Default.is) refl
