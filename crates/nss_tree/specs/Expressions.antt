-- The plain tree of expressions: what `Expr` is, with no memory in it. The first number is the
-- node's token.
use Rattle.std.specs.Prelude.{ℕ, ℤ, List}
use Rattle.nss_tree.specs.declared.operators.PrefixOperator.{PrefixOperator}
use Rattle.nss_tree.specs.declared.operators.PostfixOperator.{PostfixOperator}
use Rattle.nss_tree.specs.declared.operators.BinaryOperator.{BinaryOperator}
use Rattle.nss_tree.specs.declared.operators.AssignOperator.{AssignOperator}

mutual
  pub data PlainExpr : Type 0 where
    int : ℕ → ℤ → PlainExpr
    float : ℕ → PlainExpr
    text : ℕ → List ℕ → PlainExpr
    object_self : ℕ → PlainExpr
    object_invalid : ℕ → PlainExpr
    name : ℕ → List ℕ → PlainExpr
    call : ℕ → List ℕ → PlainExprs → PlainExpr
    member : ℕ → PlainExpr → List ℕ → PlainExpr
    prefix : ℕ → PrefixOperator → PlainExpr → PlainExpr
    postfix : ℕ → PostfixOperator → PlainExpr → PlainExpr
    binary : ℕ → BinaryOperator → PlainExpr → PlainExpr → PlainExpr
    assign : ℕ → AssignOperator → PlainExpr → PlainExpr → PlainExpr

  -- a list of expressions
  pub data PlainExprs : Type 0 where
    no_expr : PlainExprs
    more_exprs : PlainExpr → PlainExprs → PlainExprs

-- one list after another
abbrev pub joined_exprs : PlainExprs → PlainExprs → PlainExprs
joined_exprs no_expr ys = ys
joined_exprs (more_exprs x xs) ys = more_exprs x (joined_exprs xs ys)
