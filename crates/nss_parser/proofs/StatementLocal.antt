-- Reading of statements depends on the tokens that it passes and the next one, and more depth
-- changes nothing.
use Rattle.std.proofs.Common.{ℕ, zero, suc, ◌≤◌, Bool, true, false, Option, None, Some, arith}
use Rattle.nss_tree.specs.Source.{SourceStmt, SourceStmts}
use Rattle.nss_tree.specs.Expressions.{PlainExpr}
use Rattle.nss_tree.specs.Statements as stmt
use Rattle.nss_tree.specs.Statements.{joined_stmts}
use Rattle.nss_symbols.specs.declared.terminal.Terminal.{Terminal}
use Rattle.nss_symbols.specs.declared.terminal.Terminal.TheVariants as terminal
use Rattle.nss_symbols.specs.Symbols as symbol
use Rattle.nss_symbols.specs.Symbols.{Symbol}
use Rattle.nss_symbols.specs.Outcome.{Parser, is_terminal}
use Rattle.nss_parser.specs.ReadStatement.{type_begins, condition, optional, declaration, case_label, default_label, expression_statement, break_statement, continue_statement, return_statement}
use Rattle.nss_parser.specs.ReadStatement.{labelled, entry, entries_from, entries, block, after_then, if_statement, while_statement, do_statement, for_statement, switch_statement, statement_by}
use Rattle.nss_parser.specs.ReadStatement.{some_statement, statement}
use Rattle.nss_parser.proofs.Local.{Local, local_pure, local_deep, local_take, local_here, local_bind, local_peek, local_branch, local_choice, local_expect}
use Rattle.nss_parser.proofs.ExpressionLocal.{local_level}
use Rattle.nss_parser.proofs.DeclarationLocal.{local_typed, local_constant, local_declared_names}

local_case_label : Local case_label case_label
unfolding case_label
local_case_label = local_bind local_take (λ n. local_bind local_constant (λ c. local_bind (local_expect terminal.Colon) (λ k. local_pure (stmt.case_label n c))))

local_default_label : Local default_label default_label
unfolding default_label
local_default_label = local_bind local_take (λ n. local_bind (local_expect terminal.Colon) (λ k. local_pure (stmt.default_label n)))

local_break : Local break_statement break_statement
unfolding break_statement
local_break = local_bind local_take (λ n. local_bind (local_expect terminal.Semicolon) (λ k. local_pure (stmt.break_off n)))

local_continue : Local continue_statement continue_statement
unfolding continue_statement
local_continue = local_bind local_take (λ n. local_bind (local_expect terminal.Semicolon) (λ k. local_pure (stmt.continue_on n)))

module _ (d e : ℕ) (le : d ≤ e) where
  local_condition : Local (condition d) (condition e)
  unfolding condition
  local_condition = local_bind (local_expect terminal.Open) (λ a. local_bind (local_level d e le 0) (λ x. local_bind (local_expect terminal.Close) (λ b. local_pure x)))

  local_optional : (end : Terminal) → Local (optional d end) (optional e end)
  unfolding optional
  local_optional end = local_choice (is_terminal end) (local_pure None) (local_bind (local_level d e le 0) (λ x. local_pure (Some x)))

  local_declaration : Local (declaration d) (declaration e)
  unfolding declaration
  local_declaration = local_bind local_typed (λ p. local_bind (local_declared_names d e le) (λ all. local_bind (local_expect terminal.Semicolon) (λ k. local_pure (stmt.declaration p.0 p.1 all))))

  local_expression_statement : Local (expression_statement d) (expression_statement e)
  unfolding expression_statement
  local_expression_statement = local_bind local_here (λ n. local_bind (local_level d e le 0) (λ x. local_bind (local_expect terminal.Semicolon) (λ k. local_pure (stmt.expression n x))))

  local_return : Local (return_statement d) (return_statement e)
  unfolding return_statement
  local_return = local_bind local_take (λ n. local_bind (local_optional terminal.Semicolon) (λ x. local_bind (local_expect terminal.Semicolon) (λ k. local_pure (stmt.return_from n x))))

  module _ (inner outer : Parser SourceStmt) (local : Local inner outer) where
    local_labelled : Local (labelled d inner) (labelled e outer)
    unfolding labelled
    local_labelled = local_choice (is_terminal terminal.Case) local_case_label (local_choice (is_terminal terminal.Default) local_default_label local)

    local_entry : (labels : Bool) → Local (entry d inner labels) (entry e outer labels)
    unfolding entry
    local_entry labels = local_choice type_begins local_declaration (local_branch labels local_labelled local)

    local_entries_from : (labels : Bool) (t t' : ℕ) → t ≤ t' → (before : SourceStmts) → Local (entries_from d inner labels t before) (entries_from e outer labels t' before)
    local_entries_from labels zero t' lt before = local_deep (entries_from e outer labels t' before)
    local_entries_from labels (suc t) zero lt before = absurd (omega arith)
    local_entries_from labels (suc t) (suc t') lt before =
        local_choice (is_terminal terminal.CloseBrace) (local_bind local_take (λ k. local_pure before))
        (local_bind (local_entry labels) (λ s. local_entries_from labels t t' (omega arith) (joined_stmts before (stmt.more_stmts s stmt.no_stmt))))

    pub local_entries : (labels : Bool) → Local (entries d inner labels) (entries e outer labels)
    unfolding entries
    local_entries labels = local_entries_from labels d e le stmt.no_stmt

    local_block : Local (block d inner) (block e outer)
    unfolding block
    local_block = local_bind local_take (λ n. local_bind (local_entries false) (λ all. local_pure (stmt.block n all)))

    local_after_then : (n : ℕ) (x : PlainExpr) (s : SourceStmt) → Local (after_then d inner n x s) (after_then e outer n x s)
    unfolding after_then
    local_after_then n x s = local_choice (is_terminal terminal.Else) (local_bind local_take (λ c. local_bind local (λ t. local_pure (stmt.if_else n x s t)))) (local_pure (stmt.if_only n x s))

    local_if : Local (if_statement d inner) (if_statement e outer)
    unfolding if_statement
    local_if = local_bind local_take (λ n. local_bind local_condition (λ x. local_bind local (λ s. local_after_then n x s)))

    local_while : Local (while_statement d inner) (while_statement e outer)
    unfolding while_statement
    local_while = local_bind local_take (λ n. local_bind local_condition (λ x. local_bind local (λ s. local_pure (stmt.while_loop n x s))))

    local_do : Local (do_statement d inner) (do_statement e outer)
    unfolding do_statement
    local_do = local_bind local_take
        (λ n. local_bind local (λ s. local_bind (local_expect terminal.While)
        (λ a. local_bind local_condition
        (λ x. local_bind (local_expect terminal.Semicolon) (λ k. local_pure (stmt.do_loop n s x))))))

    local_for : Local (for_statement d inner) (for_statement e outer)
    unfolding for_statement
    local_for = local_bind local_take (λ n. local_bind (local_expect terminal.Open) (λ a.
        local_bind (local_optional terminal.Semicolon) (λ x. local_bind (local_expect terminal.Semicolon) (λ b.
        local_bind (local_optional terminal.Semicolon) (λ y. local_bind (local_expect terminal.Semicolon) (λ c.
        local_bind (local_optional terminal.Close) (λ z. local_bind (local_expect terminal.Close) (λ f.
        local_bind local (λ s. local_pure (stmt.for_loop n x y z s))))))))))

    local_switch : Local (switch_statement d inner) (switch_statement e outer)
    unfolding switch_statement
    local_switch = local_bind local_take
        (λ n. local_bind local_condition
        (λ x. local_bind (local_expect terminal.OpenBrace)
        (λ c. local_bind (local_entries true) (λ all. local_pure (stmt.switch n x all)))))

    local_statement_by : (o : Option Symbol) → Local (statement_by d inner o) (statement_by e outer o)
    local_statement_by (Some (symbol.Fixed terminal.OpenBrace)) = local_block
    local_statement_by (Some (symbol.Fixed terminal.Semicolon)) = local_bind local_take (λ n. local_pure (stmt.empty n))
    local_statement_by (Some (symbol.Fixed terminal.If)) = local_if
    local_statement_by (Some (symbol.Fixed terminal.While)) = local_while
    local_statement_by (Some (symbol.Fixed terminal.Do)) = local_do
    local_statement_by (Some (symbol.Fixed terminal.For)) = local_for
    local_statement_by (Some (symbol.Fixed terminal.Switch)) = local_switch
    local_statement_by (Some (symbol.Fixed terminal.Break)) = local_break
    local_statement_by (Some (symbol.Fixed terminal.Continue)) = local_continue
    local_statement_by (Some (symbol.Fixed terminal.Return)) = local_return
    local_statement_by _ = local_expression_statement

    local_some_statement : Local (some_statement d inner) (some_statement e outer)
    unfolding some_statement
    local_some_statement = local_peek local_statement_by

pub local_statement : (d e : ℕ) → d ≤ e → Local (statement d) (statement e)
unfolding statement
local_statement zero e le = local_deep (statement e)
local_statement (suc d) zero le = absurd (omega arith)
local_statement (suc d) (suc e) le = let less : d ≤ e = omega arith in local_some_statement d e less (statement d) (statement e) (local_statement d e less)
