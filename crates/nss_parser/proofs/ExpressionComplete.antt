-- What an expression's tree spells is read as that tree, whatever follows that can't go on with it.
use Rattle.std.proofs.Common.{◌≡◌, ℕ, zero, suc, ◌+◌, ◌<◌, ◌≤◌, true, false, List, [], ◌∷◌, ◌++◌, length, None, Some, refl, sym, ap, subst, ◌∙◌, arith, append_assoc, length-append, add-one}
use Rattle.std.specs.Prelude.{◌==◌}
use Rattle.std.proofs.lemmas.Bool.{le-ltb}
use Rattle.nss_tree.specs.declared.operators.BinaryOperator.{BinaryOperator}
use Rattle.nss_tree.specs.declared.operators.AssignOperator.{AssignOperator}
use Rattle.nss_tree.specs.declared.operators.PostfixOperator.{PostfixOperator}
use Rattle.nss_tree.specs.Expressions as tree
use Rattle.nss_tree.specs.Expressions.{PlainExpr, PlainExprs, joined_exprs}
use Rattle.nss_symbols.specs.declared.terminal.Terminal.{Terminal}
use Rattle.nss_symbols.specs.declared.terminal.Terminal.TheVariants as terminal
use Rattle.nss_symbols.specs.Symbols as symbol
use Rattle.nss_symbols.specs.Symbols.{Numbered, at, fixed}
use Rattle.nss_parser.specs.Operators.{binary_operator, level_of, unary_level, assign_operator}
use Rattle.nss_symbols.specs.Outcome.{Outcome, Got, and_then, same_terminal, sees, first}
use Rattle.nss_parser.specs.ReadExpression.{prefix_of, assign_of, suffix_of, suffixes, arguments_from, arguments, primary, prefix, climb, level}
use Rattle.nss_parser.specs.Grammar.{Expression, Binary, Unary, Postfix, Primary, Expressions}
use Rattle.nss_parser.specs.Grammar as grammar
use Rattle.nss_parser.proofs.ExpressionFacts.{NoOperator, Apart, Ends, ends_more, apart_at_binary, assign_set, IsSet, IsStep, postfix_step, ends_at, close_ends, comma_ends, Starts}
use Rattle.nss_parser.proofs.ExpressionFacts.{begins_expression, starts_append, starts_length, starts_expression, starts_binary, starts_unary, starts_primary, starts_expressions, no_terminal}
use Rattle.nss_parser.proofs.ExpressionFacts.{level_below}
use Rattle.nss_parser.proofs.ExpressionSteps as step

-- what follows a part that isn't empty is shorter
pub shorter : (xs rest : List Numbered) → Starts begins_expression xs → length rest < length (xs ++ rest)
shorter xs rest s = let h : 0 < length xs = starts_length begins_expression xs s in omega (arith, length-append xs rest)

-- The first operand was read, and its operators are still to come.
abbrev Comes : ℕ → ℕ → PlainExpr → List Numbered → List Numbered → Type 0
Comes e least x i rest = (m : ℕ) × (length rest < m) × (level (suc e) least i ≡ climb e (level e) m least x rest)

-- The primary was read, and what goes on it is still to come.
abbrev Gathers : ℕ → PlainExpr → List Numbered → List Numbered → Type 0
Gathers d x i rest = (m : ℕ) × (length rest < m) × (and_then (primary d (level d) i) (suffixes d) ≡ suffixes m x rest)

climb_stops : (e m least : ℕ) (x : PlainExpr) (rest : List Numbered) → length rest < m → NoOperator least rest → climb e (level e) m least x rest ≡ Got x rest
climb_stops e zero least x rest lt h = absurd (omega arith)
climb_stops e (suc m) least x rest lt h = step.climb_ends e (level e) m least x rest h

-- a depth is opened
pub finish : (e least : ℕ) (x : PlainExpr) (i rest : List Numbered) → NoOperator least rest → length i < e
    → ((e' : ℕ) → length i ≤ e' → Comes e' least x i rest) → level e least i ≡ Got x rest
finish zero least x i rest h lt c = absurd (omega arith)
finish (suc e) least x i rest h lt c = let (m, more, is) = c e (omega arith) in is ∙ climb_stops e m least x rest more h

-- a level that begins with a unary
comes_unary : (e least : ℕ) (x : PlainExpr) (i rest : List Numbered) → prefix e (level e) i ≡ Got x rest
    → length rest < e → ((least == 0) ≡ true → assign_of (first rest) ≡ None) → Comes e least x i rest
comes_unary e least x i rest is lt h = (e, lt, step.level_step e least x i rest is ∙ step.first_climbs e (level e) least x rest h)

-- one more operator
operated : (e least n : ℕ) (m : Terminal) (o : BinaryOperator) (x y : PlainExpr) (i j rest : List Numbered) → binary_operator m ≡ Some o → least ≤ level_of o
    → level e (suc (level_of o)) j ≡ Got y rest → length rest ≤ length j → Comes e least x i (fixed n m ∷ j) → Comes e least (tree.binary n o x y) i rest
operated e least n m o x y i j rest is le right shorter (zero, lt, eq) = absurd (omega arith)
operated e least n m o x y i j rest is le right shorter (suc t, lt, eq) =
    (t, (omega arith), eq ∙ step.operation_step e (level e) t n least m o x y j rest is (le-ltb (level_of o) least le) (ap (λ (k : ℕ). level e k j) (add-one (level_of o)) ∙ right))

-- an operator's depth is opened for its operand
deeper : (d : ℕ) (x : PlainExpr) (i rest : List Numbered) → length i < d → ((e : ℕ) → length i ≤ e → prefix e (level e) i ≡ Got x rest) → length rest < length i → level d unary_level i ≡ Got x rest
deeper d x i rest lt h less =
    finish d unary_level x i rest (λ o is. level_below o) lt (λ e le. comes_unary e unary_level x i rest (h e le) (omega arith) (λ bad. cc))

gathered_end : (d : ℕ) (x : PlainExpr) (i rest : List Numbered) → Gathers d x i rest → suffix_of (first rest) ≡ None → and_then (primary d (level d) i) (suffixes d) ≡ Got x rest
gathered_end d x i rest (zero, lt, eq) h = absurd (omega arith)
gathered_end d x i rest (suc t, lt, eq) h = eq ∙ step.suffixes_end t x rest h

gathered_member : (d n k : ℕ) (f : List ℕ) (x : PlainExpr) (i rest : List Numbered) → Gathers d x i (fixed n terminal.Dot ∷ at k (symbol.Name f) ∷ rest) → Gathers d (tree.member n x f) i rest
gathered_member d n k f x i rest (zero, lt, eq) = absurd (omega arith)
gathered_member d n k f x i rest (suc t, lt, eq) = (t, (omega arith), eq ∙ step.member_step t n k f x rest)

gathered_step : (d n : ℕ) (m : Terminal) (o : PostfixOperator) (x : PlainExpr) (i rest : List Numbered) → IsStep m o → Gathers d x i (fixed n m ∷ rest) → Gathers d (tree.postfix n o x) i rest
gathered_step d n m o x i rest is (zero, lt, eq) = absurd (omega arith)
gathered_step d n m o x i rest is (suc t, lt, eq) = (t, (omega arith), eq ∙ step.step_step t n m o x rest is.suffix)

-- a list that begins with no operator before its operand
mutual
  unfolding first

  no_prefix_primary : {x : PlainExpr} {xs : List Numbered} → Primary x xs → (rest : List Numbered) → prefix_of (first (xs ++ rest)) ≡ None
  no_prefix_primary (grammar.int n v) rest = refl
  no_prefix_primary (grammar.float n) rest = refl
  no_prefix_primary (grammar.text n bytes) rest = refl
  no_prefix_primary (grammar.object_self n) rest = refl
  no_prefix_primary (grammar.object_invalid n) rest = refl
  no_prefix_primary (grammar.name n f) rest = refl
  no_prefix_primary (grammar.call_empty n m k f) rest = refl
  no_prefix_primary (grammar.call n m k f all) rest = refl
  no_prefix_primary (grammar.parenthesized m k e) rest = refl

  no_prefix_postfix : {x : PlainExpr} {xs : List Numbered} → Postfix x xs → (rest : List Numbered) → prefix_of (first (xs ++ rest)) ≡ None
  no_prefix_postfix (grammar.member {xs = xs} n k f p) rest = ap (λ (l : List Numbered). prefix_of (first l))
      (append_assoc xs (fixed n terminal.Dot ∷ at k (symbol.Name f) ∷ []) rest)
      ∙ no_prefix_postfix p (fixed n terminal.Dot ∷ at k (symbol.Name f) ∷ rest)
  no_prefix_postfix (grammar.step {xs = xs} n m o is p) rest = ap (λ (l : List Numbered). prefix_of (first l)) (append_assoc xs (fixed n m ∷ []) rest) ∙ no_prefix_postfix p (fixed n m ∷ rest)
  no_prefix_postfix (grammar.primary p) rest = no_prefix_primary p rest

apart_at_set : (n : ℕ) (m : Terminal) (r : List Numbered) → IsSet m → Apart (fixed n m ∷ r)
unfolding first
apart_at_set n m r s = record { suffix = s.suffix; call = s.call }

no_call_dot : (n : ℕ) (r : List Numbered) → sees terminal.Open (fixed n terminal.Dot ∷ r) ≡ false
unfolding first same_terminal
no_call_dot n r = refl

no_call_step : (n : ℕ) (m : Terminal) (r : List Numbered) → same_terminal terminal.Open m ≡ false → sees terminal.Open (fixed n m ∷ r) ≡ false
unfolding first
no_call_step n m r e = e

-- one turn of a loop over arguments
argument_turn : (d t : ℕ) (before : PlainExprs) (i : List Numbered) (o : Outcome PlainExprs) → length i < t
    → ((t' : ℕ) → length i ≤ t' → arguments_from d (level d) (suc t') before i ≡ o)
    → arguments_from d (level d) t before i ≡ o
argument_turn d zero before i o lt h = absurd (omega arith)
argument_turn d (suc t) before i o lt h = h t (omega arith)

pub joined_step : (a b : PlainExprs) (x : PlainExpr) → joined_exprs (joined_exprs a (tree.more_exprs x tree.no_expr)) b ≡ joined_exprs a (tree.more_exprs x b)
joined_step tree.no_expr b x = refl
joined_step (tree.more_exprs y a) b x = ap (tree.more_exprs y) (joined_step a b x)

-- the lists of a production, regrouped, and how long its parts are
tail_length : (xs ys rest : List Numbered) (s : Numbered) → length (xs ++ s ∷ (ys ++ rest)) ≡ length xs + (length (ys ++ rest) + 1)
tail_length xs ys rest s = let e = length-append xs (s ∷ (ys ++ rest)) in omega (arith, e)

-- an assignment, its depth opened
assigned_whole : (d n : ℕ) (m : Terminal) (o : AssignOperator) (x y : PlainExpr) (xs j rest : List Numbered) → assign_operator m ≡ Some o → length j + 1 < d
    → ((e : ℕ) → d ≤ suc e → prefix e (level e) (xs ++ fixed n m ∷ j) ≡ Got x (fixed n m ∷ j)) → ((e : ℕ) → length j < e → level e 0 j ≡ Got y rest)
    → level d 0 (xs ++ fixed n m ∷ j) ≡ Got (tree.assign n o x y) rest
assigned_whole zero n m o x y xs j rest is lt left right = absurd (omega arith)
assigned_whole (suc e) n m o x y xs j rest is lt left right =
    step.level_step e 0 x (xs ++ fixed n m ∷ j) (fixed n m ∷ j) (left e (omega arith)) ∙ step.assign_step e (level e) n m o x y j rest is (right e (omega arith))

mutual
  pub complete_expression : {x : PlainExpr} {xs : List Numbered} → Expression x xs → (d : ℕ) (rest : List Numbered) → Ends 0 rest → length (xs ++ rest) < d → level d 0 (xs ++ rest) ≡ Got x rest
  complete_expression (grammar.value {x = x} {xs = xs} b) d rest ends lt =
      finish d 0 x (xs ++ rest) rest ends.operator lt (λ e le. complete_binary b e 0 rest (omega arith) (ends_more 0 2 rest (omega arith) ends) le)
  complete_expression (grammar.assignment {x = x} {y = y} {xs = xs} {ys = ys} n m o is u v) d rest ends lt =
      let regroup = append_assoc xs (fixed n m ∷ ys) rest in
      let again : length ((xs ++ fixed n m ∷ ys) ++ rest) ≡ length xs + (length (ys ++ rest) + 1) = ap length regroup ∙ tail_length xs ys rest (fixed n m) in
      let whole : length (xs ++ fixed n m ∷ (ys ++ rest)) ≡ length xs + (length (ys ++ rest) + 1) = tail_length xs ys rest (fixed n m) in
      let some : 0 < length xs = starts_length begins_expression xs (starts_unary u) in
      ap (level d 0) regroup ∙ assigned_whole d n m o x y xs (ys ++ rest) rest is (omega arith)
      (λ e le. complete_unary u e (fixed n m ∷ (ys ++ rest)) (apart_at_set n m (ys ++ rest) (assign_set m o is)) (omega arith))
      (λ e le. complete_expression v e rest ends le)

  complete_binary : {k : ℕ} {x : PlainExpr} {xs : List Numbered} → Binary k x xs → (e least : ℕ) (rest : List Numbered)
      → least ≤ k → Ends (suc k) rest → length (xs ++ rest) ≤ e → Comes e least x (xs ++ rest) rest
  complete_binary (grammar.operation {x = x} {y = y} {xs = xs} {ys = ys} n m o is l r) e least rest le ends len =
      let regroup = append_assoc xs (fixed n m ∷ ys) rest in
      let again : length ((xs ++ fixed n m ∷ ys) ++ rest) ≡ length xs + (length (ys ++ rest) + 1) = ap length regroup ∙ tail_length xs ys rest (fixed n m) in
      let whole : length (xs ++ fixed n m ∷ (ys ++ rest)) ≡ length xs + (length (ys ++ rest) + 1) = tail_length xs ys rest (fixed n m) in
      let some : 0 < length xs = starts_length begins_expression xs (starts_binary l) in
      subst (λ (z : List Numbered). Comes e least (tree.binary n o x y) z rest) (sym regroup)
      (operated e least n m o x y (xs ++ fixed n m ∷ (ys ++ rest)) (ys ++ rest) rest is le
      (finish e (suc (level_of o)) y (ys ++ rest) rest ends.operator (omega arith)
      (λ e' le'. complete_binary r e' (suc (level_of o)) rest (omega arith) (ends_more (suc (level_of o)) (suc (suc (level_of o))) rest (omega arith) ends) le'))
      (omega (arith, length-append ys rest))
      (complete_binary l e least (fixed n m ∷ (ys ++ rest)) le (apart_at_binary n m o (ys ++ rest) is) (omega arith)))
  complete_binary (grammar.tighter {k = k} b) e least rest le ends len = complete_binary b e least rest (omega arith) (ends_more (suc k) (suc (suc k)) rest (omega arith) ends) len
  complete_binary (grammar.unary {x = x} {xs = xs} u) e least rest le ends len =
      comes_unary e least x (xs ++ rest) rest (complete_unary u e rest ends.apart len) (let s = shorter xs rest (starts_unary u) in omega arith) (λ z. ends.assign)

  pub complete_unary : {x : PlainExpr} {xs : List Numbered} → Unary x xs → (d : ℕ) (rest : List Numbered) → Apart rest → length (xs ++ rest) ≤ d → prefix d (level d) (xs ++ rest) ≡ Got x rest
  complete_unary (grammar.prefix {x = x} {xs = xs} n m o is u) d rest apart len =
      step.prefix_step d (level d) n m o x (xs ++ rest) rest is (deeper d x (xs ++ rest) rest (omega arith) (λ e le. complete_unary u e rest apart le) (shorter xs rest (starts_unary u)))
  complete_unary (grammar.postfix {x = x} {xs = xs} p) d rest apart len =
      step.no_prefix_step d (level d) (xs ++ rest) (no_prefix_postfix p rest) ∙ gathered_end d x (xs ++ rest) rest (complete_postfix p d rest apart.call len) apart.suffix

  complete_postfix : {x : PlainExpr} {xs : List Numbered} → Postfix x xs → (d : ℕ) (rest : List Numbered) → sees terminal.Open rest ≡ false → length (xs ++ rest) ≤ d → Gathers d x (xs ++ rest) rest
  complete_postfix (grammar.member {x = x} {xs = xs} n k f p) d rest call len =
      let regroup = append_assoc xs (fixed n terminal.Dot ∷ at k (symbol.Name f) ∷ []) rest in
      let again = ap length regroup in
      subst (λ (z : List Numbered). Gathers d (tree.member n x f) z rest) (sym regroup)
      (gathered_member d n k f x (xs ++ fixed n terminal.Dot ∷ at k (symbol.Name f) ∷ rest) rest
      (complete_postfix p d (fixed n terminal.Dot ∷ at k (symbol.Name f) ∷ rest) (no_call_dot n (at k (symbol.Name f) ∷ rest)) (omega (arith, again))))
  complete_postfix (grammar.step {x = x} {xs = xs} n m o is p) d rest call len =
      let regroup = append_assoc xs (fixed n m ∷ []) rest in
      let again = ap length regroup in
      subst (λ (z : List Numbered). Gathers d (tree.postfix n o x) z rest) (sym regroup)
      (gathered_step d n m o x (xs ++ fixed n m ∷ rest) rest (postfix_step m o is)
      (complete_postfix p d (fixed n m ∷ rest) (no_call_step n m rest (postfix_step m o is).call) (omega (arith, again))))
  complete_postfix (grammar.primary {x = x} {xs = xs} p) d rest call len =
      (d, (let s = shorter xs rest (starts_primary p) in omega arith), ap (λ (z : Outcome PlainExpr). and_then z (suffixes d)) (complete_primary p d rest call len))

  complete_primary : {x : PlainExpr} {xs : List Numbered} → Primary x xs → (d : ℕ) (rest : List Numbered)
      → sees terminal.Open rest ≡ false → length (xs ++ rest) ≤ d → primary d (level d) (xs ++ rest) ≡ Got x rest
  complete_primary (grammar.int n v) d rest call len = step.int_step d (level d) n v rest
  complete_primary (grammar.float n) d rest call len = step.float_step d (level d) n rest
  complete_primary (grammar.text n bytes) d rest call len = step.text_step d (level d) n bytes rest
  complete_primary (grammar.object_self n) d rest call len = step.object_self_step d (level d) n rest
  complete_primary (grammar.object_invalid n) d rest call len = step.object_invalid_step d (level d) n rest
  complete_primary (grammar.name n f) d rest call len = step.name_step d (level d) n f rest call
  complete_primary (grammar.call_empty n m k f) d rest call len = step.call_empty_step d (level d) n m k f rest
  complete_primary (grammar.call {all = all} {xs = xs} n m k f es) d rest call len =
      let regroup = append_assoc xs (fixed k terminal.Close ∷ []) rest in
      let again = ap length regroup in
      step.call_step d (level d) n m f ((xs ++ fixed k terminal.Close ∷ []) ++ rest) rest all
      (ap (arguments d (level d)) regroup ∙ step.arguments_step d (level d) (xs ++ fixed k terminal.Close ∷ rest) rest all
      (no_terminal terminal.Close refl (xs ++ fixed k terminal.Close ∷ rest) (starts_append begins_expression xs (fixed k terminal.Close ∷ rest) (starts_expressions es)))
      (complete_expressions es d d tree.no_expr k rest (omega (arith, again)) (omega (arith, again))))
  complete_primary (grammar.parenthesized {x = x} {xs = xs} m k e) d rest call len =
      let regroup = append_assoc xs (fixed k terminal.Close ∷ []) rest in
      let again = ap length regroup in
      step.parenthesized_step d (level d) m k x ((xs ++ fixed k terminal.Close ∷ []) ++ rest) rest
      (ap (level d 0) regroup ∙ complete_expression e d (fixed k terminal.Close ∷ rest) (ends_at 0 k terminal.Close rest close_ends) (omega (arith, again)))

  complete_expressions : {all : PlainExprs} {xs : List Numbered} → Expressions all xs → (d t : ℕ) (before : PlainExprs) (k : ℕ) (rest : List Numbered)
      → length (xs ++ fixed k terminal.Close ∷ rest) < d → length (xs ++ fixed k terminal.Close ∷ rest) < t
      → arguments_from d (level d) t before (xs ++ fixed k terminal.Close ∷ rest) ≡ Got (joined_exprs before all) rest
  complete_expressions (grammar.one {x = x} {xs = xs} e) d t before k rest ld lt =
      argument_turn d t before (xs ++ fixed k terminal.Close ∷ rest) (Got (joined_exprs before (tree.more_exprs x tree.no_expr)) rest) lt (λ t' le.
      step.last_argument d (level d) t' k before x (xs ++ fixed k terminal.Close ∷ rest) rest
      (complete_expression e d (fixed k terminal.Close ∷ rest) (ends_at 0 k terminal.Close rest close_ends) ld))
  complete_expressions (grammar.more {x = x} {all = all} {xs = xs} {ys = ys} n e es) d t before k rest ld lt =
      let j = ys ++ fixed k terminal.Close ∷ rest in
      let regroup = append_assoc xs (fixed n terminal.Comma ∷ ys) (fixed k terminal.Close ∷ rest) in
      let again : length ((xs ++ fixed n terminal.Comma ∷ ys) ++ fixed k terminal.Close ∷ rest)
      ≡ length xs + (length (ys ++ fixed k terminal.Close ∷ rest) + 1) = ap length regroup
      ∙ tail_length xs ys (fixed k terminal.Close ∷ rest) (fixed n terminal.Comma) in
      let whole : length (xs ++ fixed n terminal.Comma ∷ (ys ++ fixed k terminal.Close ∷ rest))
      ≡ length xs + (length (ys ++ fixed k terminal.Close ∷ rest) + 1) = tail_length xs ys
      (fixed k terminal.Close ∷ rest) (fixed n terminal.Comma) in
      ap (arguments_from d (level d) t before) regroup
      ∙ argument_turn d t before (xs ++ fixed n terminal.Comma ∷ (ys ++ fixed k terminal.Close ∷ rest)) (Got (joined_exprs before (tree.more_exprs x all)) rest) (omega arith) (λ t' le.
      step.next_argument d (level d) t' n before x (xs ++ fixed n terminal.Comma ∷ (ys ++ fixed k terminal.Close ∷ rest)) (ys ++ fixed k terminal.Close ∷ rest)
      (complete_expression e d (fixed n terminal.Comma ∷ (ys ++ fixed k terminal.Close ∷ rest)) (ends_at 0 n terminal.Comma (ys ++ fixed k terminal.Close ∷ rest) comma_ends) (omega arith))
      ∙ complete_expressions es d t' (joined_exprs before (tree.more_exprs x tree.no_expr)) k rest (omega arith)
      (let some : 0 < length xs = starts_length begins_expression xs (starts_expression e) in omega arith)
      ∙ ap (λ (z : PlainExprs). Got z rest) (joined_step before all x))
