-- Parts of statements that code reads at once, so that it holds no statement while it reads on.
use Rattle.std.specs.Prelude.{ℕ, Option, None, Some}
use Rattle.std.specs.Option.{option_map}
use Rattle.nss_tree.specs.Source.{SourceStmt}
use Rattle.nss_tree.specs.Expressions.{PlainExpr}
use Rattle.nss_tree.specs.Statements as stmt
use Rattle.nss_symbols.specs.declared.terminal.Terminal.TheVariants as terminal
use Rattle.nss_symbols.specs.declared.terminal.Terminal.{Terminal}
use Rattle.nss_symbols.specs.Outcome.{Parser, ◌>>=◌, pure, take, choice, is_terminal, expect}
use Rattle.nss_tree.specs.Reading.{plain_expr}
use Rattle.nss_tree.specs.declared.expressions.Expr.{Expr}
use Rattle.nss_parser.specs.declared.statement.ForHead.{ForHead}
use Rattle.nss_parser.specs.ReadStatement.{condition, optional}

-- `else` and its statement, where one comes next
unfoldable pub else_part : Parser SourceStmt → Parser (Option SourceStmt)
else_part statement = choice (is_terminal terminal.Else)
    (take >>= λ c. statement >>= λ t. pure (Some t)) (pure None)

abbrev pub if_of : ℕ → PlainExpr → SourceStmt → Option SourceStmt → SourceStmt
if_of n x s (Some t) = stmt.if_else n x s t
if_of n x s None = stmt.if_only n x s

-- the rest of an `if` after its first statement
unfoldable pub if_rest : Parser SourceStmt → ℕ → PlainExpr → SourceStmt → Parser SourceStmt
if_rest statement n x s = else_part statement >>= λ o. pure (if_of n x s o)

-- what stands behind the body of a `do`
unfoldable pub do_end : ℕ → Parser PlainExpr
do_end d = expect terminal.While >>= λ a. condition d >>= λ x. expect terminal.Semicolon >>= λ k. pure x

unfoldable pub do_rest : ℕ → ℕ → SourceStmt → Parser SourceStmt
do_rest d n s = do_end d >>= λ x. pure (stmt.do_loop n s x)

-- a part in the head of a `for`, and the token that ends it
unfoldable pub for_part : ℕ → Terminal → Parser (Option PlainExpr)
for_part d end = optional d end >>= λ x. expect end >>= λ k. pure x

abbrev pub plain_head : ForHead Expr → ForHead PlainExpr
plain_head h = record {
  start = option_map plain_expr h.start;
  condition = option_map plain_expr h.condition;
  step = option_map plain_expr h.step;
}

-- the head of a `for`, from its `(` through its `)`
unfoldable pub for_head : ℕ → Parser (ForHead PlainExpr)
for_head d = expect terminal.Open >>= λ a.
    for_part d terminal.Semicolon >>= λ x.
    for_part d terminal.Semicolon >>= λ y.
    for_part d terminal.Close >>= λ z. pure (record { start = x; condition = y; step = z })

abbrev pub for_of : ℕ → ForHead PlainExpr → SourceStmt → SourceStmt
for_of n h s = stmt.for_loop n h.start h.condition h.step s

-- the rest of a `for` after its head
abbrev pub for_rest : Parser SourceStmt → ℕ → ForHead PlainExpr → Parser SourceStmt
for_rest statement n h = statement >>= λ s. pure (for_of n h s)
