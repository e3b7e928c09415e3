-- Reading of expressions depends on the tokens that it passes and the next one, and more depth
-- changes nothing.
use Rattle.std.proofs.Common.{ℕ, zero, suc, ◌+◌, ◌≤◌, List, Option, None, Some, arith, nat_lt}
use Rattle.std.specs.Prelude.{◌==◌}
use Rattle.nss_tree.specs.declared.operators.PrefixOperator.{PrefixOperator}
use Rattle.nss_tree.specs.declared.operators.BinaryOperator.{BinaryOperator}
use Rattle.nss_tree.specs.declared.operators.AssignOperator.{AssignOperator}
use Rattle.nss_tree.specs.Expressions as tree
use Rattle.nss_tree.specs.Expressions.{PlainExpr, PlainExprs, joined_exprs}
use Rattle.nss_symbols.specs.declared.terminal.Terminal.TheVariants as terminal
use Rattle.nss_parser.specs.declared.operator.Suffix.{Suffix}
use Rattle.nss_parser.specs.declared.operator.Suffix.TheVariants.{Member, Step}
use Rattle.nss_symbols.specs.Symbols as symbol
use Rattle.nss_symbols.specs.Symbols.{Symbol}
use Rattle.nss_parser.specs.Operators.{level_of, unary_level}
use Rattle.nss_symbols.specs.Outcome.{Parser, is_terminal}
use Rattle.nss_parser.specs.ReadExpression.{prefix_of, binary_of, assign_of, suffix_of, suffix, suffixes, suffixes_by, after_argument, arguments_from, arguments, after_name, primary_by, primary}
use Rattle.nss_parser.specs.ReadExpression.{prefix, prefix_by, operation, climb, climb_by, assigned, assigned_by, after_first, level}
use Rattle.nss_parser.proofs.Local.{Local, local_pure, local_stuck, local_deep, local_take, local_bind, local_peek, local_branch, local_choice, local_expect, local_name}

local_suffix : (k : Suffix) (x : PlainExpr) → Local (suffix k x) (suffix k x)
unfolding suffix
local_suffix Member x = local_bind local_take (λ n. local_bind local_name (λ f. local_pure (tree.member n x f)))
local_suffix (Step o) x = local_bind local_take (λ n. local_pure (tree.postfix n o x))

local_suffixes_by : (p q : PlainExpr → Parser PlainExpr) → ((x : PlainExpr) → Local (p x) (q x)) → (x : PlainExpr) (k : Option Suffix) → Local (suffixes_by p x k) (suffixes_by q x k)
local_suffixes_by p q l x None = local_pure x
local_suffixes_by p q l x (Some k) = local_bind (local_suffix k x) l

local_suffixes : (d e : ℕ) → d ≤ e → (x : PlainExpr) → Local (suffixes d x) (suffixes e x)
local_suffixes zero e le x = local_deep (suffixes e x)
local_suffixes (suc d) zero le x = absurd (omega arith)
local_suffixes (suc d) (suc e) le x = local_peek (λ o. local_suffixes_by (suffixes d) (suffixes e) (λ y. local_suffixes d e (omega arith) y) x (suffix_of o))

module _ (d e : ℕ) (le : d ≤ e) (inner outer : ℕ → Parser PlainExpr) (local : (k : ℕ) → Local (inner k) (outer k)) where
  local_after_argument : (p q : PlainExprs → Parser PlainExprs) → ((all : PlainExprs) → Local (p all) (q all))
      → (all : PlainExprs) → Local (after_argument d inner p all) (after_argument e outer q all)
  local_after_argument p q l all = local_choice (is_terminal terminal.Comma) (local_bind local_take (λ n. l all)) (local_bind (local_expect terminal.Close) (λ k. local_pure all))

  local_arguments_from : (t t' : ℕ) → t ≤ t' → (before : PlainExprs) → Local (arguments_from d inner t before) (arguments_from e outer t' before)
  local_arguments_from zero t' lt before = local_deep (arguments_from e outer t' before)
  local_arguments_from (suc t) zero lt before = absurd (omega arith)
  local_arguments_from (suc t) (suc t') lt before =
      local_bind (local 0) (λ x. local_after_argument (arguments_from d inner t) (arguments_from e outer t')
      (λ all. local_arguments_from t t' (omega arith) all) (joined_exprs before (tree.more_exprs x tree.no_expr)))

  local_arguments : Local (arguments d inner) (arguments e outer)
  unfolding arguments
  local_arguments = local_choice (is_terminal terminal.Close) (local_bind local_take (λ k. local_pure tree.no_expr)) (local_arguments_from d e le tree.no_expr)

  local_after_name : (n : ℕ) (f : List ℕ) → Local (after_name d inner n f) (after_name e outer n f)
  unfolding after_name
  local_after_name n f = local_choice (is_terminal terminal.Open) (local_bind local_take (λ m. local_bind local_arguments (λ all. local_pure (tree.call n f all)))) (local_pure (tree.name n f))

  local_primary_by : (o : Option Symbol) → Local (primary_by d inner o) (primary_by e outer o)
  local_primary_by (Some (symbol.Int v)) = local_bind local_take (λ n. local_pure _)
  local_primary_by (Some symbol.Float) = local_bind local_take (λ n. local_pure (tree.float n))
  local_primary_by (Some (symbol.Text bytes)) = local_bind local_take (λ n. local_pure (tree.text n bytes))
  local_primary_by (Some (symbol.Name f)) = local_bind local_take (λ n. local_after_name n f)
  local_primary_by (Some (symbol.Fixed terminal.ObjectSelf)) = local_bind local_take (λ n. local_pure (tree.object_self n))
  local_primary_by (Some (symbol.Fixed terminal.ObjectInvalid)) = local_bind local_take (λ n. local_pure (tree.object_invalid n))
  local_primary_by (Some (symbol.Fixed terminal.Open)) = local_bind local_take (λ m. local_bind (local 0) (λ x. local_bind (local_expect terminal.Close) (λ k. local_pure x)))
  local_primary_by _ = local_stuck

  local_primary : Local (primary d inner) (primary e outer)
  unfolding primary
  local_primary = local_peek local_primary_by

  local_prefix_by : (o : Option PrefixOperator) → Local (prefix_by d inner o) (prefix_by e outer o)
  local_prefix_by (Some o) = local_bind local_take (λ n. local_bind (local unary_level) (λ x. local_pure (tree.prefix n o x)))
  local_prefix_by None = local_bind local_primary (λ x. local_suffixes d e le x)

  local_prefix : Local (prefix d inner) (prefix e outer)
  unfolding prefix
  local_prefix = local_peek (λ o. local_prefix_by (prefix_of o))

  local_operation : (o : BinaryOperator) (x : PlainExpr) → Local (operation d inner o x) (operation e outer o x)
  unfolding operation
  local_operation o x = local_bind local_take (λ n. local_bind (local (level_of o + 1)) (λ y. local_pure (tree.binary n o x y)))

  local_climb_by : (p q : PlainExpr → Parser PlainExpr) → ((x : PlainExpr) → Local (p x) (q x)) → (least : ℕ) (x : PlainExpr) (o : Option BinaryOperator)
      → Local (climb_by d inner p least x o) (climb_by e outer q least x o)
  local_climb_by p q l least x None = local_pure x
  local_climb_by p q l least x (Some o) = local_branch (nat_lt (level_of o) least) (local_pure x) (local_bind (local_operation o x) l)

  local_climb : (t t' : ℕ) → t ≤ t' → (least : ℕ) (x : PlainExpr) → Local (climb d inner t least x) (climb e outer t' least x)
  local_climb zero t' lt least x = local_deep (climb e outer t' least x)
  local_climb (suc t) zero lt least x = absurd (omega arith)
  local_climb (suc t) (suc t') lt least x = local_peek (λ o. local_climb_by (climb d inner t least) (climb e outer t' least) (λ y. local_climb t t' (omega arith) least y) least x (binary_of o))

  local_assigned_by : (x : PlainExpr) (o : Option AssignOperator) → Local (assigned_by d inner x o) (assigned_by e outer x o)
  local_assigned_by x (Some o) = local_bind local_take (λ n. local_bind (local 0) (λ y. local_pure (tree.assign n o x y)))
  local_assigned_by x None = local_climb d e le 0 x

  local_after_first : (least : ℕ) (x : PlainExpr) → Local (after_first d inner least x) (after_first e outer least x)
  unfolding after_first assigned
  local_after_first least x = local_branch (least == 0) (local_peek (λ o. local_assigned_by x (assign_of o))) (local_climb d e le least x)

pub local_level : (d e : ℕ) → d ≤ e → (least : ℕ) → Local (level d least) (level e least)
unfolding level
local_level zero e le least = local_deep (level e least)
local_level (suc d) zero le least = absurd (omega arith)
local_level (suc d) (suc e) le least =
    let less : d ≤ e = omega arith in
    local_bind (local_prefix d e less (level d) (level e) (λ k. local_level d e less k)) (λ x. local_after_first d e less (level d) (level e) (λ k. local_level d e less k) least x)
