-- What each production of an expression makes of the tokens, a step at a time.
use Rattle.std.proofs.Common.{◌≡◌, ℕ, suc, ◌+◌, Bool, true, false, List, ◌∷◌, Option, None, Some, refl, sym, ap, ◌∙◌, nat_lt}
use Rattle.std.specs.Prelude.{◌==◌}
use Rattle.std.proofs.lemmas.Bool.{lt-ltb, eqb-true}
use Rattle.std.specs.Int.{cast_signed, w32}
use Rattle.nss_tree.specs.declared.operators.PrefixOperator.{PrefixOperator}
use Rattle.nss_tree.specs.declared.operators.PostfixOperator.{PostfixOperator}
use Rattle.nss_tree.specs.declared.operators.BinaryOperator.{BinaryOperator}
use Rattle.nss_tree.specs.declared.operators.AssignOperator.{AssignOperator}
use Rattle.nss_tree.specs.Expressions as tree
use Rattle.nss_tree.specs.Expressions.{PlainExpr, PlainExprs, joined_exprs}
use Rattle.nss_symbols.specs.declared.terminal.Terminal.{Terminal}
use Rattle.nss_symbols.specs.declared.terminal.Terminal.TheVariants as terminal
use Rattle.nss_parser.specs.declared.operator.Suffix.{Suffix}
use Rattle.nss_parser.specs.declared.operator.Suffix.TheVariants.{Step}
use Rattle.nss_symbols.specs.Symbols as symbol
use Rattle.nss_symbols.specs.Symbols.{Numbered, at, fixed}
use Rattle.nss_parser.specs.Operators.{binary_operator, level_of, unary_level, assign_operator, prefix_operator}
use Rattle.nss_symbols.specs.Outcome.{Outcome, Got, Parser, and_then, ◌>>=◌, branch, same_terminal, sees, first, take, expect}
use Rattle.nss_parser.specs.ReadExpression.{prefix_of, binary_of, assign_of, suffix_of, suffix, suffixes, suffixes_by, after_argument, arguments_from, arguments, after_name, primary, prefix}
use Rattle.nss_parser.specs.ReadExpression.{prefix_by, operation, climb, climb_by, assigned, assigned_by, after_first, level}
use Rattle.nss_parser.proofs.ExpressionFacts.{NoOperator}

module _ (d : ℕ) (inner : ℕ → Parser PlainExpr) where
  pub int_step : (n v : ℕ) (rest : List Numbered) → primary d inner (at n (symbol.Int v) ∷ rest) ≡ Got (tree.int n (cast_signed w32 v)) rest
  unfolding primary first take
  int_step n v rest = refl

  pub float_step : (n : ℕ) (rest : List Numbered) → primary d inner (at n symbol.Float ∷ rest) ≡ Got (tree.float n) rest
  unfolding primary first take
  float_step n rest = refl

  pub text_step : (n : ℕ) (bytes : List ℕ) (rest : List Numbered) → primary d inner (at n (symbol.Text bytes) ∷ rest) ≡ Got (tree.text n bytes) rest
  unfolding primary first take
  text_step n bytes rest = refl

  pub object_self_step : (n : ℕ) (rest : List Numbered) → primary d inner (fixed n terminal.ObjectSelf ∷ rest) ≡ Got (tree.object_self n) rest
  unfolding primary first take
  object_self_step n rest = refl

  pub object_invalid_step : (n : ℕ) (rest : List Numbered) → primary d inner (fixed n terminal.ObjectInvalid ∷ rest) ≡ Got (tree.object_invalid n) rest
  unfolding primary first take
  object_invalid_step n rest = refl

  pub name_step : (n : ℕ) (f : List ℕ) (rest : List Numbered) → sees terminal.Open rest ≡ false → primary d inner (at n (symbol.Name f) ∷ rest) ≡ Got (tree.name n f) rest
  unfolding primary after_name first take
  name_step n f rest e = rw e refl

  pub call_empty_step : (n m k : ℕ) (f : List ℕ) (rest : List Numbered)
      → primary d inner (at n (symbol.Name f) ∷ fixed m terminal.Open ∷ fixed k terminal.Close ∷ rest)
      ≡ Got (tree.call n f tree.no_expr) rest
  unfolding primary after_name arguments first take same_terminal
  call_empty_step n m k f rest = refl

  pub call_step : (n m : ℕ) (f : List ℕ) (i rest : List Numbered) (all : PlainExprs) → arguments d inner i ≡ Got all rest
      → primary d inner (at n (symbol.Name f) ∷ fixed m terminal.Open ∷ i) ≡ Got (tree.call n f all) rest
  unfolding primary after_name first take same_terminal
  call_step n m f i rest all e = rw e refl

  pub arguments_step : (i rest : List Numbered) (all : PlainExprs) → sees terminal.Close i ≡ false → arguments_from d inner d tree.no_expr i ≡ Got all rest → arguments d inner i ≡ Got all rest
  unfolding arguments
  arguments_step i rest all e h = rw e h

  pub parenthesized_step : (m k : ℕ) (x : PlainExpr) (i rest : List Numbered) → inner 0 i ≡ Got x (fixed k terminal.Close ∷ rest) → primary d inner (fixed m terminal.Open ∷ i) ≡ Got x rest
  unfolding primary first take same_terminal
  parenthesized_step m k x i rest e = rw e refl

  pub last_argument : (t k : ℕ) (before : PlainExprs) (x : PlainExpr) (i rest : List Numbered) → inner 0 i ≡ Got x (fixed k terminal.Close ∷ rest)
      → arguments_from d inner (suc t) before i ≡ Got (joined_exprs before (tree.more_exprs x tree.no_expr)) rest
  unfolding first take same_terminal
  last_argument t k before x i rest e = rw e refl

  pub next_argument : (t n : ℕ) (before : PlainExprs) (x : PlainExpr) (i j : List Numbered) → inner 0 i ≡ Got x (fixed n terminal.Comma ∷ j)
      → arguments_from d inner (suc t) before i ≡ arguments_from d inner t (joined_exprs before (tree.more_exprs x tree.no_expr)) j
  unfolding first take same_terminal
  next_argument t n before x i j e = rw e refl

  -- a turn of the loop over arguments, by what its three calls gave
  pub argument_more : (t n : ℕ) (before : PlainExprs) (x : PlainExpr) (i j r : List Numbered) → inner 0 i ≡ Got x j → sees terminal.Comma j ≡ true → take j ≡ Got n r
      → arguments_from d inner (suc t) before i ≡ arguments_from d inner t (joined_exprs before (tree.more_exprs x tree.no_expr)) r
  argument_more t n before x i j r e comma taken =
      let all = joined_exprs before (tree.more_exprs x tree.no_expr) in
      ap (λ (z : Outcome PlainExpr). and_then z (λ y. after_argument d inner (arguments_from d inner t) (joined_exprs before (tree.more_exprs y tree.no_expr)))) e
      ∙ ap (λ (b : Bool). branch b (λ k. and_then (take k) (λ m. arguments_from d inner t all)) (λ k. and_then (expect terminal.Close k) (λ m z. Got all z)) j) comma
      ∙ ap (λ (z : Outcome ℕ). and_then z (λ m. arguments_from d inner t all)) taken

  pub prefix_step : (n : ℕ) (m : Terminal) (o : PrefixOperator) (x : PlainExpr) (i rest : List Numbered) → prefix_operator m ≡ Some o → inner unary_level i ≡ Got x rest
      → prefix d inner (fixed n m ∷ i) ≡ Got (tree.prefix n o x) rest
  unfolding prefix first take
  prefix_step n m o x i rest is e = ap (λ (z : Option PrefixOperator). prefix_by d inner z (fixed n m ∷ i)) is ∙ ap (λ (z : Outcome PlainExpr). and_then z (λ y. λ r. Got (tree.prefix n o y) r)) e

  pub no_prefix_step : (i : List Numbered) → prefix_of (first i) ≡ None → prefix d inner i ≡ and_then (primary d inner i) (suffixes d)
  unfolding prefix
  no_prefix_step i e = ap (λ (z : Option PrefixOperator). prefix_by d inner z i) e

  pub operation_step : (t n least : ℕ) (m : Terminal) (o : BinaryOperator) (x y : PlainExpr) (i rest : List Numbered) → binary_operator m ≡ Some o → nat_lt (level_of o) least ≡ false
      → inner (level_of o + 1) i ≡ Got y rest → climb d inner (suc t) least x (fixed n m ∷ i) ≡ climb d inner t least (tree.binary n o x y) rest
  unfolding first take operation
  operation_step t n least m o x y i rest is tight e =
      ap (λ (z : Option BinaryOperator). climb_by d inner (climb d inner t least) least x z (fixed n m ∷ i)) is
      ∙ ap (λ (b : Bool). branch b (λ j. Got x j) (operation d inner o x >>= climb d inner t least) (fixed n m ∷ i)) tight
      ∙ ap (λ (z : Outcome PlainExpr). and_then (and_then z (λ y j. Got (tree.binary n o x y) j)) (climb d inner t least)) e

  -- the operators end before a looser one, or where none comes
  pub climb_ends : (t least : ℕ) (x : PlainExpr) (rest : List Numbered) → NoOperator least rest → climb d inner (suc t) least x rest ≡ Got x rest
  climb_ends t least x rest h = by_operator (binary_of (first rest)) refl
    where
      by_operator : (z : Option BinaryOperator) → binary_of (first rest) ≡ z → climb_by d inner (climb d inner t least) least x z rest ≡ Got x rest
      by_operator None e = refl
      by_operator (Some o) e = ap (λ (b : Bool). branch b (λ j. Got x j) (operation d inner o x >>= climb d inner t least) rest) (lt-ltb (level_of o) least (h o e))

  pub assign_step : (n : ℕ) (m : Terminal) (o : AssignOperator) (x y : PlainExpr) (i rest : List Numbered) → assign_operator m ≡ Some o → inner 0 i ≡ Got y rest
      → after_first d inner 0 x (fixed n m ∷ i) ≡ Got (tree.assign n o x y) rest
  unfolding after_first assigned first take
  assign_step n m o x y i rest is e =
      ap (λ (z : Option AssignOperator). assigned_by d inner x z (fixed n m ∷ i)) is
      ∙ ap (λ (z : Outcome PlainExpr). and_then z (λ y j. Got (tree.assign n o x y) j)) e

  pub first_climbs : (least : ℕ) (x : PlainExpr) (rest : List Numbered) → ((least == 0) ≡ true → assign_of (first rest) ≡ None) → after_first d inner least x rest ≡ climb d inner d least x rest
  unfolding after_first assigned
  first_climbs least x rest h = by_test (least == 0) refl
    where
      by_test : (b : Bool) → (least == 0) ≡ b → branch b (assigned d inner x) (climb d inner d least x) rest ≡ climb d inner d least x rest
      by_test false e = refl
      by_test true e = ap (λ (z : Option AssignOperator). assigned_by d inner x z rest) (h e) ∙ ap (λ (k : ℕ). climb d inner d k x rest) (sym (eqb-true least 0 e))

pub member_step : (t n k : ℕ) (f : List ℕ) (x : PlainExpr) (rest : List Numbered) → suffixes (suc t) x (fixed n terminal.Dot ∷ at k (symbol.Name f) ∷ rest) ≡ suffixes t (tree.member n x f) rest
unfolding first take suffix
member_step t n k f x rest = refl

pub step_step : (t n : ℕ) (m : Terminal) (o : PostfixOperator) (x : PlainExpr) (rest : List Numbered) → suffix_of (Some (symbol.Fixed m)) ≡ Some (Step o)
    → suffixes (suc t) x (fixed n m ∷ rest) ≡ suffixes t (tree.postfix n o x) rest
unfolding first take suffix
step_step t n m o x rest is = ap (λ (z : Option Suffix). suffixes_by (suffixes t) x z (fixed n m ∷ rest)) is

pub suffixes_end : (t : ℕ) (x : PlainExpr) (rest : List Numbered) → suffix_of (first rest) ≡ None → suffixes (suc t) x rest ≡ Got x rest
suffixes_end t x rest e = ap (λ (z : Option Suffix). suffixes_by (suffixes t) x z rest) e

pub level_step : (d least : ℕ) (x : PlainExpr) (i rest : List Numbered) → prefix d (level d) i ≡ Got x rest → level (suc d) least i ≡ after_first d (level d) least x rest
unfolding level
level_step d least x i rest e = rw e refl
