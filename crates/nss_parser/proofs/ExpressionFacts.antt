-- The tables of operators, what may follow an expression, and what an expression begins with.
use Rattle.std.proofs.Common.{◌≡◌, ℕ, suc, ◌<◌, ◌≤◌, Bool, true, false, List, [], ◌∷◌, ◌++◌, length, Option, None, Some, refl, sym, ap, ◌∙◌, arith}
use Rattle.nss_tree.specs.declared.operators.PrefixOperator.{PrefixOperator}
use Rattle.nss_tree.specs.declared.operators.PostfixOperator.{PostfixOperator}
use Rattle.nss_tree.specs.declared.operators.BinaryOperator.{BinaryOperator}
use Rattle.nss_tree.specs.declared.operators.BinaryOperator.TheVariants as binary
use Rattle.nss_tree.specs.declared.operators.AssignOperator.{AssignOperator}
use Rattle.nss_tree.specs.Expressions.{PlainExpr, PlainExprs}
use Rattle.nss_symbols.specs.declared.terminal.Terminal.{Terminal}
use Rattle.nss_symbols.specs.declared.terminal.Terminal.TheVariants as terminal
use Rattle.nss_parser.specs.declared.operator.Suffix.{Suffix}
use Rattle.nss_parser.specs.declared.operator.Suffix.TheVariants.{Step}
use Rattle.nss_symbols.specs.Symbols as symbol
use Rattle.nss_symbols.specs.Symbols.{Symbol, Numbered, at, fixed}
use Rattle.nss_parser.specs.Operators.{binary_operator, level_of, unary_level, assign_operator, prefix_operator, postfix_operator}
use Rattle.nss_symbols.specs.Outcome.{same_terminal, is_terminal, sees, first}
use Rattle.nss_parser.specs.ReadExpression.{binary_of, assign_of, suffix_of}
use Rattle.nss_parser.specs.Grammar.{Expression, Binary, Unary, Postfix, Primary, Expressions}
use Rattle.nss_parser.specs.Grammar as grammar
use Rattle.nss_parser.proofs.Right.{terminal_same}

-- a terminal that neither assigns nor goes on a postfix expression
pub record IsApart (m : Terminal) : Type 0 where
  pub assign : assign_operator m ≡ None
  pub suffix : suffix_of (Some (symbol.Fixed m)) ≡ None
  pub call : same_terminal terminal.Open m ≡ false

pub binary_apart : (m : Terminal) (o : BinaryOperator) → binary_operator m ≡ Some o → IsApart m
unfolding same_terminal
binary_apart terminal.OrOr o e = record { assign = refl; suffix = refl; call = refl }
binary_apart terminal.AndAnd o e = record { assign = refl; suffix = refl; call = refl }
binary_apart terminal.Or o e = record { assign = refl; suffix = refl; call = refl }
binary_apart terminal.Xor o e = record { assign = refl; suffix = refl; call = refl }
binary_apart terminal.And o e = record { assign = refl; suffix = refl; call = refl }
binary_apart terminal.Equal o e = record { assign = refl; suffix = refl; call = refl }
binary_apart terminal.NotEqual o e = record { assign = refl; suffix = refl; call = refl }
binary_apart terminal.GreaterEqual o e = record { assign = refl; suffix = refl; call = refl }
binary_apart terminal.Greater o e = record { assign = refl; suffix = refl; call = refl }
binary_apart terminal.Less o e = record { assign = refl; suffix = refl; call = refl }
binary_apart terminal.LessEqual o e = record { assign = refl; suffix = refl; call = refl }
binary_apart terminal.ShiftLeft o e = record { assign = refl; suffix = refl; call = refl }
binary_apart terminal.ShiftRight o e = record { assign = refl; suffix = refl; call = refl }
binary_apart terminal.ShiftRightUnsigned o e = record { assign = refl; suffix = refl; call = refl }
binary_apart terminal.Plus o e = record { assign = refl; suffix = refl; call = refl }
binary_apart terminal.Minus o e = record { assign = refl; suffix = refl; call = refl }
binary_apart terminal.Star o e = record { assign = refl; suffix = refl; call = refl }
binary_apart terminal.Slash o e = record { assign = refl; suffix = refl; call = refl }
binary_apart terminal.Percent o e = record { assign = refl; suffix = refl; call = refl }
binary_apart _ o e = cc

-- a terminal that assigns is no suffix
pub record IsSet (m : Terminal) : Type 0 where
  pub suffix : suffix_of (Some (symbol.Fixed m)) ≡ None
  pub call : same_terminal terminal.Open m ≡ false

pub assign_set : (m : Terminal) (o : AssignOperator) → assign_operator m ≡ Some o → IsSet m
unfolding same_terminal
assign_set terminal.Assign o e = record { suffix = refl; call = refl }
assign_set terminal.PlusAssign o e = record { suffix = refl; call = refl }
assign_set terminal.MinusAssign o e = record { suffix = refl; call = refl }
assign_set terminal.StarAssign o e = record { suffix = refl; call = refl }
assign_set terminal.SlashAssign o e = record { suffix = refl; call = refl }
assign_set terminal.PercentAssign o e = record { suffix = refl; call = refl }
assign_set terminal.AndAssign o e = record { suffix = refl; call = refl }
assign_set terminal.OrAssign o e = record { suffix = refl; call = refl }
assign_set terminal.XorAssign o e = record { suffix = refl; call = refl }
assign_set terminal.ShiftLeftAssign o e = record { suffix = refl; call = refl }
assign_set terminal.ShiftRightAssign o e = record { suffix = refl; call = refl }
assign_set terminal.ShiftRightUnsignedAssign o e = record { suffix = refl; call = refl }
assign_set _ o e = cc

pub record IsStep (m : Terminal) (o : PostfixOperator) : Type 0 where
  pub suffix : suffix_of (Some (symbol.Fixed m)) ≡ Some (Step o)
  pub call : same_terminal terminal.Open m ≡ false

pub postfix_step : (m : Terminal) (o : PostfixOperator) → postfix_operator m ≡ Some o → IsStep m o
unfolding same_terminal
postfix_step terminal.PlusPlus o e = record { suffix = ap some_step e; call = refl }
  where
    some_step : Option PostfixOperator → Option Suffix
    some_step (Some p) = Some (Step p)
    some_step None = None
postfix_step terminal.MinusMinus o e = record { suffix = ap some_step e; call = refl }
  where
    some_step : Option PostfixOperator → Option Suffix
    some_step (Some p) = Some (Step p)
    some_step None = None
postfix_step _ o e = cc

pub level_positive : (o : BinaryOperator) → 0 < level_of o
level_positive binary.Or = omega arith
level_positive binary.And = omega arith
level_positive binary.BitOr = omega arith
level_positive binary.BitXor = omega arith
level_positive binary.BitAnd = omega arith
level_positive binary.Equal = omega arith
level_positive binary.NotEqual = omega arith
level_positive binary.GreaterOrEqual = omega arith
level_positive binary.Greater = omega arith
level_positive binary.Less = omega arith
level_positive binary.LessOrEqual = omega arith
level_positive binary.ShiftLeft = omega arith
level_positive binary.ShiftRight = omega arith
level_positive binary.UnsignedShiftRight = omega arith
level_positive binary.Add = omega arith
level_positive binary.Subtract = omega arith
level_positive binary.Multiply = omega arith
level_positive binary.Divide = omega arith
level_positive binary.Remainder = omega arith

pub level_below : (o : BinaryOperator) → level_of o < unary_level
level_below binary.Or = omega arith
level_below binary.And = omega arith
level_below binary.BitOr = omega arith
level_below binary.BitXor = omega arith
level_below binary.BitAnd = omega arith
level_below binary.Equal = omega arith
level_below binary.NotEqual = omega arith
level_below binary.GreaterOrEqual = omega arith
level_below binary.Greater = omega arith
level_below binary.Less = omega arith
level_below binary.LessOrEqual = omega arith
level_below binary.ShiftLeft = omega arith
level_below binary.ShiftRight = omega arith
level_below binary.UnsignedShiftRight = omega arith
level_below binary.Add = omega arith
level_below binary.Subtract = omega arith
level_below binary.Multiply = omega arith
level_below binary.Divide = omega arith
level_below binary.Remainder = omega arith

-- What may follow. No operator of level k or tighter; nothing that goes on a postfix expression;
-- neither of these and no assignment.
abbrev pub NoOperator : ℕ → List Numbered → Type 0
NoOperator k i = (o : BinaryOperator) → binary_of (first i) ≡ Some o → level_of o < k

pub record Apart (rest : List Numbered) : Type 0 where
  pub suffix : suffix_of (first rest) ≡ None
  pub call : sees terminal.Open rest ≡ false

pub record Ends (k : ℕ) (rest : List Numbered) : Type 0 where
  pub operator : NoOperator k rest
  pub assign : assign_of (first rest) ≡ None
  pub apart : Apart rest

pub ends_more : (k j : ℕ) (rest : List Numbered) → k ≤ j → Ends k rest → Ends j rest
ends_more k j rest le e = record { operator = λ o is. let h : level_of o < k = e.operator o is in omega arith; assign = e.assign; apart = e.apart }

pub apart_at_binary : (n : ℕ) (m : Terminal) (o : BinaryOperator) (r : List Numbered) → binary_operator m ≡ Some o → Ends (suc (level_of o)) (fixed n m ∷ r)
unfolding first
apart_at_binary n m o r is =
    let a = binary_apart m o is in
    record {
      operator = λ p e. let same : level_of p ≡ level_of o = ap level_or (sym e ∙ is) in omega arith;
      assign = a.assign;
      apart = record { suffix = a.suffix; call = a.call };
    }
  where
    level_or : Option BinaryOperator → ℕ
    level_or (Some p) = level_of p
    level_or None = 0

-- a terminal that begins nothing that goes on an expression
pub record IsEnd (m : Terminal) : Type 0 where
  pub binary : binary_operator m ≡ None
  pub assign : assign_operator m ≡ None
  pub suffix : suffix_of (Some (symbol.Fixed m)) ≡ None
  pub call : same_terminal terminal.Open m ≡ false

pub ends_at : (k n : ℕ) (m : Terminal) (r : List Numbered) → IsEnd m → Ends k (fixed n m ∷ r)
unfolding first
ends_at k n m r e = record {
  operator = λ o is. cc;
  assign = e.assign;
  apart = record { suffix = e.suffix; call = e.call };
}

pub close_ends : IsEnd terminal.Close
unfolding same_terminal
close_ends = record { binary = refl; assign = refl; suffix = refl; call = refl }

pub comma_ends : IsEnd terminal.Comma
unfolding same_terminal
comma_ends = record { binary = refl; assign = refl; suffix = refl; call = refl }

pub semicolon_ends : IsEnd terminal.Semicolon
unfolding same_terminal
semicolon_ends = record { binary = refl; assign = refl; suffix = refl; call = refl }

-- the list begins with a token that passes the test
abbrev pub Starts : (Symbol → Bool) → List Numbered → Type 0
Starts test [] = ⊥
Starts test (s ∷ r) = test s.symbol ≡ true

pub starts_append : (test : Symbol → Bool) (xs ys : List Numbered) → Starts test xs → Starts test (xs ++ ys)
starts_append test [] ys h = absurd h
starts_append test (s ∷ r) ys h = h

pub starts_length : (test : Symbol → Bool) (xs : List Numbered) → Starts test xs → 0 < length xs
starts_length test [] h = absurd h
starts_length test (s ∷ r) h = omega arith

abbrev pub is_some_prefix : Option PrefixOperator → Bool
is_some_prefix (Some o) = true
is_some_prefix None = false

-- what an expression may begin with
abbrev pub begins_expression : Symbol → Bool
begins_expression (symbol.Name f) = true
begins_expression (symbol.Int v) = true
begins_expression symbol.Float = true
begins_expression (symbol.Text v) = true
begins_expression (symbol.Fixed terminal.ObjectSelf) = true
begins_expression (symbol.Fixed terminal.ObjectInvalid) = true
begins_expression (symbol.Fixed terminal.Open) = true
begins_expression (symbol.Fixed m) = is_some_prefix (prefix_operator m)
begins_expression symbol.Unknown = false

prefix_begins : (m : Terminal) (o : PrefixOperator) → prefix_operator m ≡ Some o → begins_expression (symbol.Fixed m) ≡ true
prefix_begins terminal.Minus o e = refl
prefix_begins terminal.Tilde o e = refl
prefix_begins terminal.Not o e = refl
prefix_begins terminal.PlusPlus o e = refl
prefix_begins terminal.MinusMinus o e = refl
prefix_begins _ o e = cc

mutual
  pub starts_expression : {x : PlainExpr} {xs : List Numbered} → Expression x xs → Starts begins_expression xs
  starts_expression (grammar.assignment {xs = xs} {ys = ys} n m o is u e) = starts_append begins_expression xs (fixed n m ∷ ys) (starts_unary u)
  starts_expression (grammar.value b) = starts_binary b

  pub starts_binary : {k : ℕ} {x : PlainExpr} {xs : List Numbered} → Binary k x xs → Starts begins_expression xs
  starts_binary (grammar.operation {xs = xs} {ys = ys} n m o is l r) = starts_append begins_expression xs (fixed n m ∷ ys) (starts_binary l)
  starts_binary (grammar.tighter b) = starts_binary b
  starts_binary (grammar.unary u) = starts_unary u

  pub starts_unary : {x : PlainExpr} {xs : List Numbered} → Unary x xs → Starts begins_expression xs
  starts_unary (grammar.prefix n m o is u) = prefix_begins m o is
  starts_unary (grammar.postfix p) = starts_postfix p

  pub starts_postfix : {x : PlainExpr} {xs : List Numbered} → Postfix x xs → Starts begins_expression xs
  starts_postfix (grammar.member {xs = xs} n k f p) = starts_append begins_expression xs (fixed n terminal.Dot ∷ at k (symbol.Name f) ∷ []) (starts_postfix p)
  starts_postfix (grammar.step {xs = xs} n m o is p) = starts_append begins_expression xs (fixed n m ∷ []) (starts_postfix p)
  starts_postfix (grammar.primary p) = starts_primary p

  pub starts_primary : {x : PlainExpr} {xs : List Numbered} → Primary x xs → Starts begins_expression xs
  starts_primary (grammar.int n v) = refl
  starts_primary (grammar.float n) = refl
  starts_primary (grammar.text n bytes) = refl
  starts_primary (grammar.object_self n) = refl
  starts_primary (grammar.object_invalid n) = refl
  starts_primary (grammar.name n f) = refl
  starts_primary (grammar.call_empty n m k f) = refl
  starts_primary (grammar.call n m k f all) = refl
  starts_primary (grammar.parenthesized m k e) = refl

pub starts_expressions : {all : PlainExprs} {xs : List Numbered} → Expressions all xs → Starts begins_expression xs
starts_expressions (grammar.one e) = starts_expression e
starts_expressions (grammar.more {xs = xs} {ys = ys} n e all) = starts_append begins_expression xs (fixed n terminal.Comma ∷ ys) (starts_expression e)

-- an expression's first token is no such terminal
pub no_terminal : (m : Terminal) → begins_expression (symbol.Fixed m) ≡ false → (xs : List Numbered) → Starts begins_expression xs → sees m xs ≡ false
unfolding first
no_terminal m never [] h = absurd h
no_terminal m never (s ∷ r) h = no_terminal_at m s.symbol never h
  where
    no_terminal_at : (m : Terminal) (s : Symbol) → begins_expression (symbol.Fixed m) ≡ false → begins_expression s ≡ true → is_terminal m (Some s) ≡ false
    no_terminal_at m (symbol.Fixed k) never h = differ m k never h (same_terminal m k) refl
      where
        differ : (m k : Terminal) → begins_expression (symbol.Fixed m) ≡ false → begins_expression (symbol.Fixed k) ≡ true → (b : Bool) → same_terminal m k ≡ b → same_terminal m k ≡ false
        differ m k never h false e = e
        differ m k never h true e = let same = terminal_same m k e in let bad : true ≡ false = sym h ∙ ap (λ (z : Terminal). begins_expression (symbol.Fixed z)) (sym same) ∙ never in cc
    no_terminal_at m (symbol.Name f) never h = refl
    no_terminal_at m (symbol.Int v) never h = refl
    no_terminal_at m symbol.Float never h = refl
    no_terminal_at m (symbol.Text v) never h = refl
    no_terminal_at m symbol.Unknown never h = refl
