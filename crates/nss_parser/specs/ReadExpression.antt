-- Reading of expressions, written as the code is, with a depth that falls.
use Rattle.std.specs.Prelude.{ℕ, zero, suc, ◌+◌, ◌==◌, nat_lt, List, Option, None, Some}
use Rattle.std.specs.Int.{cast_signed, w32}
use Rattle.nss_tree.specs.declared.operators.PrefixOperator.{PrefixOperator}
use Rattle.nss_tree.specs.declared.operators.PostfixOperator.{PostfixOperator}
use Rattle.nss_tree.specs.declared.operators.BinaryOperator.{BinaryOperator}
use Rattle.nss_tree.specs.declared.operators.AssignOperator.{AssignOperator}
use Rattle.nss_tree.specs.Expressions as tree
use Rattle.nss_tree.specs.Expressions.{PlainExpr, PlainExprs, joined_exprs}
use Rattle.nss_symbols.specs.declared.terminal.Terminal.TheVariants as terminal
use Rattle.nss_parser.specs.declared.operator.Suffix.{Suffix}
use Rattle.nss_parser.specs.declared.operator.Suffix.TheVariants.{Member, Step}
use Rattle.nss_symbols.specs.Symbols as symbol
use Rattle.nss_symbols.specs.Symbols.{Symbol}
use Rattle.nss_parser.specs.Operators.{binary_operator, level_of, unary_level, assign_operator, prefix_operator, postfix_operator}
use Rattle.nss_symbols.specs.Outcome.{Parser, ◌>>=◌, pure, stuck, deep, take, peek, branch, choice, is_terminal, expect, name}

-- what the next token is as an operator
abbrev pub prefix_of : Option Symbol → Option PrefixOperator
prefix_of (Some (symbol.Fixed m)) = prefix_operator m
prefix_of _ = None

abbrev pub binary_of : Option Symbol → Option BinaryOperator
binary_of (Some (symbol.Fixed m)) = binary_operator m
binary_of _ = None

abbrev pub assign_of : Option Symbol → Option AssignOperator
assign_of (Some (symbol.Fixed m)) = assign_operator m
assign_of _ = None

abbrev pub step_of : Option PostfixOperator → Option Suffix
step_of (Some o) = Some (Step o)
step_of None = None

abbrev pub suffix_of : Option Symbol → Option Suffix
suffix_of (Some (symbol.Fixed terminal.Dot)) = Some Member
suffix_of (Some (symbol.Fixed m)) = step_of (postfix_operator m)
suffix_of _ = None

-- a member, after its `.`
abbrev pub member : ℕ → PlainExpr → Parser PlainExpr
member n x = name >>= λ f. pure (tree.member n x f)

-- one `.name`, `++` or `--` after an expression
unfoldable pub suffix : Suffix → PlainExpr → Parser PlainExpr
suffix Member x = take >>= λ n. member n x
suffix (Step o) x = take >>= λ n. pure (tree.postfix n o x)

abbrev pub suffixes_by : (PlainExpr → Parser PlainExpr) → PlainExpr → Option Suffix
    → Parser PlainExpr
suffixes_by more x (Some k) = suffix k x >>= more
suffixes_by more x None = pure x

-- all of them, in so many turns
abbrev pub suffixes : ℕ → PlainExpr → Parser PlainExpr
suffixes zero x = deep
suffixes (suc t) x = peek (λ o. suffixes_by (suffixes t) x (suffix_of o))

-- an operator, as its number, and an operand of a level after it
unfoldable pub operand : (ℕ → Parser PlainExpr) → ℕ → Parser (ℕ × PlainExpr)
operand level least = take >>= λ n. level least >>= λ x. pure (n, x)

module _ (d : ℕ) (level : ℕ → Parser PlainExpr) where
  abbrev pub after_argument : (PlainExprs → Parser PlainExprs) → PlainExprs → Parser PlainExprs
  after_argument more all = choice (is_terminal terminal.Comma) (take >>= λ n. more all)
      (expect terminal.Close >>= λ k. pure all)

  -- arguments up to `)`, after those read before
  abbrev pub arguments_from : ℕ → PlainExprs → Parser PlainExprs
  arguments_from zero before = deep
  arguments_from (suc t) before = level 0 >>= λ x. after_argument (arguments_from t)
      (joined_exprs before (tree.more_exprs x tree.no_expr))

  unfoldable pub arguments : Parser PlainExprs
  arguments = choice (is_terminal terminal.Close) (take >>= λ k. pure tree.no_expr)
      (arguments_from d tree.no_expr)

  -- a name, or a call where `(` follows
  unfoldable pub after_name : ℕ → List ℕ → Parser PlainExpr
  after_name n f = choice (is_terminal terminal.Open)
      (take >>= λ m. arguments >>= λ all. pure (tree.call n f all)) (pure (tree.name n f))

  abbrev pub primary_by : Option Symbol → Parser PlainExpr
  primary_by (Some (symbol.Int v)) = take >>= λ n. pure (tree.int n (cast_signed w32 v))
  primary_by (Some symbol.Float) = take >>= λ n. pure (tree.float n)
  primary_by (Some (symbol.Text bytes)) = take >>= λ n. pure (tree.text n bytes)
  primary_by (Some (symbol.Name f)) = take >>= λ n. after_name n f
  primary_by (Some (symbol.Fixed terminal.ObjectSelf)) = take >>= λ n. pure (tree.object_self n)
  primary_by (Some (symbol.Fixed terminal.ObjectInvalid)) = take >>= λ n. pure
      (tree.object_invalid n)
  primary_by (Some (symbol.Fixed terminal.Open)) = take >>= λ m. level 0 >>= λ x. expect terminal.Close >>= λ k. pure x
  primary_by _ = stuck

  unfoldable pub primary : Parser PlainExpr
  primary = peek primary_by

  abbrev pub prefix_by : Option PrefixOperator → Parser PlainExpr
  prefix_by (Some o) = take >>= λ n. level unary_level >>= λ x. pure (tree.prefix n o x)
  prefix_by None = primary >>= suffixes d

  unfoldable pub prefix : Parser PlainExpr
  prefix = peek (λ o. prefix_by (prefix_of o))

  -- an operator and its right operand, after its left one
  unfoldable pub operation : BinaryOperator → PlainExpr → Parser PlainExpr
  operation o left = take >>= λ n. level (level_of o + 1) >>= λ right. pure
      (tree.binary n o left right)

  abbrev pub climb_by : (PlainExpr → Parser PlainExpr) → ℕ → PlainExpr → Option BinaryOperator
      → Parser PlainExpr
  climb_by more least left None = pure left
  climb_by more least left (Some o) = branch (nat_lt (level_of o) least) (pure left)
      (operation o left >>= more)

  -- the operators from a level on, after a left operand, in so many turns
  abbrev pub climb : ℕ → ℕ → PlainExpr → Parser PlainExpr
  climb zero least left = deep
  climb (suc t) least left = peek (λ o. climb_by (climb t least) least left (binary_of o))

  abbrev pub assigned_by : PlainExpr → Option AssignOperator → Parser PlainExpr
  assigned_by left (Some o) = take >>= λ n. level 0 >>= λ x. pure (tree.assign n o left x)
  assigned_by left None = climb d 0 left

  -- an assignment to what was read, or the operators after it
  unfoldable pub assigned : PlainExpr → Parser PlainExpr
  assigned left = peek (λ o. assigned_by left (assign_of o))

  unfoldable pub after_first : ℕ → PlainExpr → Parser PlainExpr
  after_first least left = branch (least == 0) (assigned left) (climb d least left)

-- An expression of a level: 0 may be an assignment, then the operators' levels, and the last is
-- unary.
unfoldable pub level : ℕ → ℕ → Parser PlainExpr
level zero least = deep
level (suc d) least = prefix d (level d) >>= after_first d (level d) least
