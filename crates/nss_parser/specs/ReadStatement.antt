-- Reading of statements, written as the code is, with a depth that falls.
use Rattle.std.specs.Prelude.{ℕ, zero, suc, Bool, true, false, Option, None, Some}
use Rattle.nss_tree.specs.Source.{SourceStmt, SourceStmts}
use Rattle.nss_tree.specs.declared.constants.TypeName.{TypeName}
use Rattle.nss_tree.specs.Expressions.{PlainExpr}
use Rattle.nss_tree.specs.Statements as stmt
use Rattle.nss_tree.specs.Statements.{joined_stmts}
use Rattle.nss_symbols.specs.declared.terminal.Terminal.{Terminal}
use Rattle.nss_symbols.specs.declared.terminal.Terminal.TheVariants as terminal
use Rattle.nss_symbols.specs.Symbols as symbol
use Rattle.nss_symbols.specs.Symbols.{Symbol}
use Rattle.nss_parser.specs.Operators.{type_word}
use Rattle.nss_symbols.specs.Outcome.{Parser, ◌>>=◌, pure, deep, here, take, peek, branch, choice, is_terminal, expect}
use Rattle.nss_parser.specs.ReadExpression.{level}
use Rattle.nss_parser.specs.ReadDeclaration.{typed, constant_value, declared_names}

abbrev pub is_some_type : Option TypeName → Bool
is_some_type (Some t) = true
is_some_type None = false

-- whether a type comes next
abbrev pub type_begins : Option Symbol → Bool
type_begins (Some (symbol.Fixed terminal.Struct)) = true
type_begins (Some (symbol.Fixed m)) = is_some_type (type_word m)
type_begins _ = false

-- an expression in parentheses
unfoldable pub condition : ℕ → Parser PlainExpr
condition d = expect terminal.Open >>= λ a. level d 0 >>= λ x. expect terminal.Close >>= λ b. pure x

-- an expression, or none where the token that ends it comes next
unfoldable pub optional : ℕ → Terminal → Parser (Option PlainExpr)
optional d end = choice (is_terminal end) (pure None) (level d 0 >>= λ x. pure (Some x))

-- names of one type, with their first values
unfoldable pub declaration : ℕ → Parser SourceStmt
declaration d = typed >>= λ p. declared_names d >>= λ all. expect terminal.Semicolon >>= λ k. pure
    (stmt.declaration p.0 p.1 all)

unfoldable pub case_label : Parser SourceStmt
case_label = take >>= λ n. constant_value >>= λ c. expect terminal.Colon >>= λ k. pure
    (stmt.case_label n c)

unfoldable pub default_label : Parser SourceStmt
default_label = take >>= λ n. expect terminal.Colon >>= λ k. pure (stmt.default_label n)

unfoldable pub expression_statement : ℕ → Parser SourceStmt
expression_statement d = here >>= λ n. level d 0 >>= λ x. expect terminal.Semicolon >>= λ k. pure
    (stmt.expression n x)

unfoldable pub break_statement : Parser SourceStmt
break_statement = take >>= λ n. expect terminal.Semicolon >>= λ k. pure (stmt.break_off n)

unfoldable pub continue_statement : Parser SourceStmt
continue_statement = take >>= λ n. expect terminal.Semicolon >>= λ k. pure (stmt.continue_on n)

unfoldable pub return_statement : ℕ → Parser SourceStmt
return_statement d = take >>= λ n. optional d terminal.Semicolon >>= λ x. expect terminal.Semicolon >>= λ k. pure (stmt.return_from n x)

module _ (d : ℕ) (statement : Parser SourceStmt) where
  -- a label, or a statement
  unfoldable pub labelled : Parser SourceStmt
  labelled = choice (is_terminal terminal.Case) case_label
      (choice (is_terminal terminal.Default) default_label statement)

  -- what stands in a block, or with labels in the body of a switch
  unfoldable pub entry : Bool → Parser SourceStmt
  entry labels = choice type_begins (declaration d) (branch labels labelled statement)

  -- the rest of a block or of such a body, up to its `}`, after what was read before
  abbrev pub entries_from : Bool → ℕ → SourceStmts → Parser SourceStmts
  entries_from labels zero before = deep
  entries_from labels (suc t) before =
      choice (is_terminal terminal.CloseBrace) (take >>= λ k. pure before)
      (entry labels >>= λ s. entries_from labels t
      (joined_stmts before (stmt.more_stmts s stmt.no_stmt)))

  unfoldable pub entries : Bool → Parser SourceStmts
  entries labels = entries_from labels d stmt.no_stmt

  unfoldable pub block : Parser SourceStmt
  block = take >>= λ n. entries false >>= λ all. pure (stmt.block n all)

  -- an `else` belongs to the `if` before it
  unfoldable pub after_then : ℕ → PlainExpr → SourceStmt → Parser SourceStmt
  after_then n x s = choice (is_terminal terminal.Else)
      (take >>= λ c. statement >>= λ t. pure (stmt.if_else n x s t)) (pure (stmt.if_only n x s))

  unfoldable pub if_statement : Parser SourceStmt
  if_statement = take >>= λ n. condition d >>= λ x. statement >>= λ s. after_then n x s

  unfoldable pub while_statement : Parser SourceStmt
  while_statement = take >>= λ n. condition d >>= λ x. statement >>= λ s. pure
      (stmt.while_loop n x s)

  unfoldable pub do_statement : Parser SourceStmt
  do_statement = take >>= λ n. statement >>= λ s. expect terminal.While >>= λ a. condition d >>= λ x. expect terminal.Semicolon >>= λ k. pure (stmt.do_loop n s x)

  unfoldable pub for_statement : Parser SourceStmt
  for_statement = take >>= λ n. expect terminal.Open >>= λ a.
      optional d terminal.Semicolon >>= λ x. expect terminal.Semicolon >>= λ b.
      optional d terminal.Semicolon >>= λ y. expect terminal.Semicolon >>= λ c.
      optional d terminal.Close >>= λ z. expect terminal.Close >>= λ e.
      statement >>= λ s. pure (stmt.for_loop n x y z s)

  abbrev pub switch_body : Parser SourceStmts
  switch_body = expect terminal.OpenBrace >>= λ c. entries true

  unfoldable pub switch_statement : Parser SourceStmt
  switch_statement = take >>= λ n. condition d >>= λ x. expect terminal.OpenBrace >>= λ c. entries true >>= λ all. pure (stmt.switch n x all)

  abbrev pub statement_by : Option Symbol → Parser SourceStmt
  statement_by (Some (symbol.Fixed terminal.OpenBrace)) = block
  statement_by (Some (symbol.Fixed terminal.Semicolon)) = take >>= λ n. pure (stmt.empty n)
  statement_by (Some (symbol.Fixed terminal.If)) = if_statement
  statement_by (Some (symbol.Fixed terminal.While)) = while_statement
  statement_by (Some (symbol.Fixed terminal.Do)) = do_statement
  statement_by (Some (symbol.Fixed terminal.For)) = for_statement
  statement_by (Some (symbol.Fixed terminal.Switch)) = switch_statement
  statement_by (Some (symbol.Fixed terminal.Break)) = break_statement
  statement_by (Some (symbol.Fixed terminal.Continue)) = continue_statement
  statement_by (Some (symbol.Fixed terminal.Return)) = return_statement d
  statement_by _ = expression_statement d

  unfoldable pub some_statement : Parser SourceStmt
  some_statement = peek statement_by

unfoldable pub statement : ℕ → Parser SourceStmt
statement zero = deep
statement (suc d) = some_statement d (statement d)
