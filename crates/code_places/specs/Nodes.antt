-- The nodes of a typed tree in preorder: in the order, and as many, as `Tree::place` numbers those of
-- its source.
use Rattle.std.specs.Prelude.{List, [], ◌∷◌, ◌++◌, Option, None, Some}
use Rattle.nss_tree.specs.declared.units.Identifier.{Identifier}
use Rattle.nss_tree.specs.Statements.{block, empty, expression, if_only, if_else, while_loop, do_loop, for_loop, switch, break_off, continue_on, return_from, declaration, case_label, default_label, no_stmt, more_stmts}
use Rattle.nss_tree.specs.Units.{structure, constant, global, function}
use Rattle.nwq_value.specs.declared.engine.Const.{Const}
use Rattle.typing_rules.specs.Typed.{TypedExpr, TypedExprs, TypedName, TypedStmt, TypedStmts, TypedLine, TypedParameter, TypedItem, TypedUnit, literal, name, call, member, prefix, postfix, binary, assign, no_typed, more_typed}

pub data Node : Type 0 where
  AnExpression : TypedExpr → Node
  AStatement : TypedStmt → Node
  -- a declared name, with its first value
  AName : TypedName → Node
  AnItem : TypedItem → Node
  -- what no code is made of: lines of fields, fields, parameters, constants and their names
  Bare : Node

abbrev mutual
  pub nodes_expr : TypedExpr → List Node
  nodes_expr (literal k) = AnExpression (literal k) ∷ []
  nodes_expr (name t p) = AnExpression (name t p) ∷ []
  nodes_expr (call t f xs ks) = AnExpression (call t f xs ks) ∷ nodes_exprs xs
  nodes_expr (member t x n) = AnExpression (member t x n) ∷ nodes_expr x
  nodes_expr (prefix t o x) = AnExpression (prefix t o x) ∷ nodes_expr x
  nodes_expr (postfix t o x) = AnExpression (postfix t o x) ∷ nodes_expr x
  nodes_expr (binary t o x y) = AnExpression (binary t o x y) ∷ (nodes_expr x ++ nodes_expr y)
  nodes_expr (assign t o x y) = AnExpression (assign t o x y) ∷ (nodes_expr x ++ nodes_expr y)

  pub nodes_exprs : TypedExprs → List Node
  nodes_exprs no_typed = []
  nodes_exprs (more_typed x xs) = nodes_expr x ++ nodes_exprs xs

abbrev pub nodes_if : Option TypedExpr → List Node
nodes_if None = []
nodes_if (Some x) = nodes_expr x

abbrev pub nodes_names : List TypedName → List Node
nodes_names [] = []
nodes_names (d ∷ ds) = AName d ∷ (nodes_if d.value ++ nodes_names ds)

abbrev mutual
  pub nodes_stmt : TypedStmt → List Node
  nodes_stmt (block n xs) = AStatement (block n xs) ∷ nodes_stmts xs
  nodes_stmt (empty n) = AStatement (empty n) ∷ []
  nodes_stmt (expression n x) = AStatement (expression n x) ∷ nodes_expr x
  nodes_stmt (if_only n x a) = AStatement (if_only n x a) ∷ (nodes_expr x ++ nodes_stmt a)
  nodes_stmt (if_else n x a b) = AStatement (if_else n x a b)
      ∷ (nodes_expr x ++ (nodes_stmt a ++ nodes_stmt b))
  nodes_stmt (while_loop n x a) = AStatement (while_loop n x a) ∷ (nodes_expr x ++ nodes_stmt a)
  nodes_stmt (do_loop n a x) = AStatement (do_loop n a x) ∷ (nodes_stmt a ++ nodes_expr x)
  nodes_stmt (for_loop n x y z a) = AStatement (for_loop n x y z a)
      ∷ (nodes_if x ++ (nodes_if y ++ (nodes_if z ++ nodes_stmt a)))
  nodes_stmt (switch n x xs) = AStatement (switch n x xs) ∷ (nodes_expr x ++ nodes_stmts xs)
  nodes_stmt (break_off n) = AStatement (break_off n) ∷ []
  nodes_stmt (continue_on n) = AStatement (continue_on n) ∷ []
  nodes_stmt (return_from n x) = AStatement (return_from n x) ∷ nodes_if x
  nodes_stmt (declaration n t ds) = AStatement (declaration n t ds) ∷ nodes_names ds
  nodes_stmt (case_label n k) = AStatement (case_label n k) ∷ Bare ∷ []
  nodes_stmt (default_label n) = AStatement (default_label n) ∷ []

  pub nodes_stmts : TypedStmts → List Node
  nodes_stmts no_stmt = []
  nodes_stmts (more_stmts x xs) = nodes_stmt x ++ nodes_stmts xs

abbrev pub nodes_fields : List Identifier → List Node
nodes_fields [] = []
nodes_fields (x ∷ xs) = Bare ∷ nodes_fields xs

abbrev pub nodes_lines : List TypedLine → List Node
nodes_lines [] = []
nodes_lines (x ∷ xs) = Bare ∷ (nodes_fields x.names ++ nodes_lines xs)

abbrev pub nodes_default : Option Const → List Node
nodes_default None = []
nodes_default (Some k) = Bare ∷ []

abbrev pub nodes_parameters : List TypedParameter → List Node
nodes_parameters [] = []
nodes_parameters (p ∷ ps) = Bare ∷ (nodes_default p.default ++ nodes_parameters ps)

abbrev pub nodes_body : Option TypedStmts → List Node
nodes_body None = []
nodes_body (Some xs) = nodes_stmts xs

abbrev pub nodes_item : TypedItem → List Node
nodes_item (structure n x ls) = AnItem (structure n x ls) ∷ nodes_lines ls
nodes_item (constant n t x k) = AnItem (constant n t x k) ∷ Bare ∷ Bare ∷ []
nodes_item (global n t ds) = AnItem (global n t ds) ∷ nodes_names ds
nodes_item (function n t x ps body) = AnItem (function n t x ps body)
    ∷ (nodes_parameters ps ++ nodes_body body)

abbrev pub nodes_items : List TypedItem → List Node
nodes_items [] = []
nodes_items (i ∷ is) = nodes_item i ++ nodes_items is

abbrev pub unit_nodes : TypedUnit → List Node
unit_nodes u = nodes_items u.items
