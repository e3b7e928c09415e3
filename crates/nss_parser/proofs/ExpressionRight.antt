-- What is read as an expression is spelled so, what stops is a prefix of one, and the depth lasts.
use Rattle.std.proofs.Common.{◌≡◌, ℕ, zero, suc, ◌+◌, ◌-◌, ◌<◌, ◌≤◌, Bool, true, false, ◌⊎◌, inl, inr, List, [], ◌∷◌, ◌++◌, length, Option, None, Some, refl, sym, ap, subst, ◌∙◌, arith}
use Rattle.std.proofs.Common.{append_assoc, append-nil, nat_lt, add-one}
use Rattle.std.proofs.lemmas.Bool.{ltb-true, ltb-false, ne_eqb}
use Rattle.std.specs.Int.{cast_signed, w32}
use Rattle.nss_tree.specs.declared.operators.PrefixOperator.{PrefixOperator}
use Rattle.nss_tree.specs.declared.operators.PostfixOperator.{PostfixOperator}
use Rattle.nss_tree.specs.declared.operators.BinaryOperator.{BinaryOperator}
use Rattle.nss_tree.specs.declared.operators.AssignOperator.{AssignOperator}
use Rattle.nss_tree.specs.Expressions as tree
use Rattle.nss_tree.specs.Expressions.{PlainExpr, PlainExprs, joined_exprs}
use Rattle.nss_symbols.specs.declared.terminal.Terminal.{Terminal}
use Rattle.nss_symbols.specs.declared.terminal.Terminal.TheVariants as terminal
use Rattle.nss_parser.specs.declared.operator.Suffix.{Suffix}
use Rattle.nss_parser.specs.declared.operator.Suffix.TheVariants.{Member, Step}
use Rattle.nss_symbols.specs.Symbols as symbol
use Rattle.nss_symbols.specs.Symbols.{Symbol, Numbered, at, fixed}
use Rattle.nss_parser.specs.Operators.{binary_operator, level_of, unary_level, assign_operator, prefix_operator, postfix_operator}
use Rattle.nss_symbols.specs.Outcome.{Got, Parser, and_then, ◌>>=◌, branch, first, take}
use Rattle.nss_parser.specs.ReadExpression.{prefix_of, binary_of, assign_of, suffix_of, step_of, suffix, suffixes, suffixes_by, arguments_from, arguments, after_name, primary_by, primary, prefix}
use Rattle.nss_parser.specs.ReadExpression.{prefix_by, operation, climb, climb_by, assigned, assigned_by, after_first, level}
use Rattle.nss_parser.specs.Grammar.{Expression, Binary, Unary, Postfix, Primary, Expressions}
use Rattle.nss_parser.specs.Grammar as grammar
use Rattle.nss_parser.proofs.ExpressionFacts.{NoOperator, level_positive, level_below, begins_expression, starts_length, starts_expression, starts_unary, starts_primary}
use Rattle.nss_parser.proofs.ExpressionComplete.{joined_step}
use Rattle.nss_parser.proofs.Right.{Right, right_got, right_pure, right_stuck, right_deep, further, then, then_fixed, right_as, right_same, right_choice, after_take, then_expect, then_name}
use Rattle.nss_parser.proofs.Right.{Viable, viable_then, viable_as, viable_done, viable_under, rest_length}
use Rattle.nss_parser.proofs.Completions.{by_name, by_terminal, by_zero, some_name}

-- level 0 is an expression, and then come the operators' levels
abbrev pub LevelAt : ℕ → PlainExpr → List Numbered → Type 0
LevelAt zero x xs = Expression x xs
LevelAt (suc k) x xs = Binary (suc k) x xs

lower_by : (n k j : ℕ) {x : PlainExpr} {xs : List Numbered} → j ≡ n + k → Binary j x xs → Binary k x xs
lower_by zero k j {x} {xs} e b = subst (λ (z : ℕ). Binary z x xs) (let h : j ≡ k = omega arith in h) b
lower_by (suc n) k j e b = grammar.tighter (lower_by n (suc k) j (omega arith) b)

lower : (k j : ℕ) {x : PlainExpr} {xs : List Numbered} → k ≤ j → Binary j x xs → Binary k x xs
lower k j le b = lower_by (j - k) k j (omega arith) b

level_at : (least j : ℕ) {x : PlainExpr} {xs : List Numbered} → least ≤ j → 0 < j → Binary j x xs → LevelAt least x xs
level_at zero j le some b = grammar.value (lower 1 j (omega arith) b)
level_at (suc k) j le some b = lower (suc k) j le b

-- past the operators' levels there is only a unary
unary_only : {k : ℕ} {x : PlainExpr} {xs : List Numbered} → Binary k x xs → unary_level ≤ k → Unary x xs
unary_only (grammar.operation n m o is l r) le = absurd (let h = level_below o in omega arith)
unary_only (grammar.tighter b) le = unary_only b (omega arith)
unary_only (grammar.unary u) le = u

binary_fixed_at : (o : BinaryOperator) (n : ℕ) (s : Symbol) (r : List Numbered) → binary_of (Some s) ≡ Some o
    → (k : ℕ) × (m : Terminal) × (z : List Numbered) × (at n s ∷ r ≡ fixed k m ∷ z) × (binary_operator m ≡ Some o)
binary_fixed_at o n (symbol.Fixed m) r e = (n, m, r, refl, e)
binary_fixed_at o n (symbol.Name f) r e = cc
binary_fixed_at o n (symbol.Int v) r e = cc
binary_fixed_at o n symbol.Float r e = cc
binary_fixed_at o n (symbol.Text v) r e = cc
binary_fixed_at o n symbol.Unknown r e = cc

binary_fixed : (i : List Numbered) (o : BinaryOperator) → binary_of (first i) ≡ Some o → (k : ℕ) × (m : Terminal) × (z : List Numbered) × (i ≡ fixed k m ∷ z) × (binary_operator m ≡ Some o)
unfolding first
binary_fixed [] o e = cc
binary_fixed (s ∷ r) o e = binary_fixed_at o s.number s.symbol r e

assign_fixed_at : (o : AssignOperator) (n : ℕ) (s : Symbol) (r : List Numbered) → assign_of (Some s) ≡ Some o
    → (k : ℕ) × (m : Terminal) × (z : List Numbered) × (at n s ∷ r ≡ fixed k m ∷ z) × (assign_operator m ≡ Some o)
assign_fixed_at o n (symbol.Fixed m) r e = (n, m, r, refl, e)
assign_fixed_at o n (symbol.Name f) r e = cc
assign_fixed_at o n (symbol.Int v) r e = cc
assign_fixed_at o n symbol.Float r e = cc
assign_fixed_at o n (symbol.Text v) r e = cc
assign_fixed_at o n symbol.Unknown r e = cc

assign_fixed : (i : List Numbered) (o : AssignOperator) → assign_of (first i) ≡ Some o → (k : ℕ) × (m : Terminal) × (z : List Numbered) × (i ≡ fixed k m ∷ z) × (assign_operator m ≡ Some o)
unfolding first
assign_fixed [] o e = cc
assign_fixed (s ∷ r) o e = assign_fixed_at o s.number s.symbol r e

prefix_fixed_at : (o : PrefixOperator) (n : ℕ) (s : Symbol) (r : List Numbered) → prefix_of (Some s) ≡ Some o
    → (k : ℕ) × (m : Terminal) × (z : List Numbered) × (at n s ∷ r ≡ fixed k m ∷ z) × (prefix_operator m ≡ Some o)
prefix_fixed_at o n (symbol.Fixed m) r e = (n, m, r, refl, e)
prefix_fixed_at o n (symbol.Name f) r e = cc
prefix_fixed_at o n (symbol.Int v) r e = cc
prefix_fixed_at o n symbol.Float r e = cc
prefix_fixed_at o n (symbol.Text v) r e = cc
prefix_fixed_at o n symbol.Unknown r e = cc

prefix_fixed : (i : List Numbered) (o : PrefixOperator) → prefix_of (first i) ≡ Some o → (k : ℕ) × (m : Terminal) × (z : List Numbered) × (i ≡ fixed k m ∷ z) × (prefix_operator m ≡ Some o)
unfolding first
prefix_fixed [] o e = cc
prefix_fixed (s ∷ r) o e = prefix_fixed_at o s.number s.symbol r e

-- a suffix's token, and what the suffix makes of the expression before it
data SuffixAt : Suffix → List Numbered → Type 0 where
  dot : (n : ℕ) (r : List Numbered) → SuffixAt Member (fixed n terminal.Dot ∷ r)
  step : (n : ℕ) (m : Terminal) (o : PostfixOperator) (r : List Numbered) → postfix_operator m ≡ Some o → SuffixAt (Step o) (fixed n m ∷ r)

step_at : (k : Suffix) (n : ℕ) (m : Terminal) (r : List Numbered) (o : Option PostfixOperator) → postfix_operator m ≡ o → step_of o ≡ Some k → SuffixAt k (fixed n m ∷ r)
step_at k n m r None e is = cc
step_at k n m r (Some o) e is = subst (λ (z : Option Suffix). at_some z) is (step n m o r e)
  where
    at_some : Option Suffix → Type 0
    at_some (Some s) = SuffixAt s (fixed n m ∷ r)
    at_some None = ⊥

suffix_terminal : (k : Suffix) (n : ℕ) (m : Terminal) (r : List Numbered) → suffix_of (Some (symbol.Fixed m)) ≡ Some k → SuffixAt k (fixed n m ∷ r)
suffix_terminal k n terminal.Dot r e = subst (λ (z : Option Suffix). at_some z) e (dot n r)
  where
    at_some : Option Suffix → Type 0
    at_some (Some s) = SuffixAt s (fixed n terminal.Dot ∷ r)
    at_some None = ⊥
suffix_terminal k n m r e = step_at k n m r (postfix_operator m) refl e

suffix_fixed_at : (k : Suffix) (n : ℕ) (s : Symbol) (r : List Numbered) → suffix_of (Some s) ≡ Some k → SuffixAt k (at n s ∷ r)
suffix_fixed_at k n (symbol.Fixed m) r e = suffix_terminal k n m r e
suffix_fixed_at k n (symbol.Name f) r e = cc
suffix_fixed_at k n (symbol.Int v) r e = cc
suffix_fixed_at k n symbol.Float r e = cc
suffix_fixed_at k n (symbol.Text v) r e = cc
suffix_fixed_at k n symbol.Unknown r e = cc

suffix_fixed : (i : List Numbered) (k : Suffix) → suffix_of (first i) ≡ Some k → SuffixAt k i
unfolding first
suffix_fixed [] k e = cc
suffix_fixed (s ∷ r) k e = suffix_fixed_at k s.number s.symbol r e

-- one suffix after the postfix expression ps
right_suffix : (k : Suffix) (x : PlainExpr) (ps i : List Numbered) → Postfix x ps → SuffixAt k i
    → Right (λ y ys rest. Postfix y (ps ++ ys) × (0 < length ys)) (λ ys. Viable Postfix (ps ++ ys)) ⊥ i (suffix k x i)
unfolding suffix take
right_suffix k x ps i p (dot n r) =
    further (fixed n terminal.Dot ∷ []) refl (then_name r
    (λ k f z e. right_pure (grammar.member n k f p, omega arith))
    (viable_under Postfix ps (fixed n terminal.Dot ∷ []) (λ j. (by_name ∷ [], tree.member n x some_name, grammar.member n j some_name p))))
right_suffix k x ps i p (step n m o r is) = further (fixed n m ∷ []) refl (right_pure (grammar.step n m o is p, omega arith))

suffixes_go : (t : ℕ) (x : PlainExpr) (ps i : List Numbered) → Postfix x ps
    → ((y : PlainExpr) (ls r : List Numbered) → Postfix y ls → Right (λ z zs end. Postfix z (ls ++ zs)) (λ zs. Viable Postfix (ls ++ zs)) (t ≤ length r) r (suffixes t y r))
    → (z : Option Suffix) → suffix_of (first i) ≡ z
    → Right (λ y ys rest. Postfix y (ps ++ ys)) (λ ys. Viable Postfix (ps ++ ys)) (suc t ≤ length i) i (suffixes_by (suffixes t) x z i)
suffixes_go t x ps i p again None e = right_pure (subst (λ (z : List Numbered). Postfix x z) (sym (append-nil ps)) p)
suffixes_go t x ps i p again (Some k) e =
    then (right_suffix k x ps i p (suffix_fixed i k e))
    (λ y ys rest h is.
    right_as (again y (ps ++ ys) rest h.0)
    (λ z zs end q. subst (λ (l : List Numbered). Postfix z l) (append_assoc ps ys zs) q)
    (λ zs v. subst (λ (l : List Numbered). Viable Postfix l) (append_assoc ps ys zs) v)
    (λ d. let long : 0 < length ys = h.1 in omega (arith, rest_length i ys rest is)))
    (λ ys v. v)
    (λ bad. absurd bad)

right_suffixes : (t : ℕ) (x : PlainExpr) (ps i : List Numbered) → Postfix x ps
    → Right (λ y ys rest. Postfix y (ps ++ ys)) (λ ys. Viable Postfix (ps ++ ys)) (t ≤ length i) i (suffixes t x i)
right_suffixes zero x ps i p = right_deep (omega arith)
right_suffixes (suc t) x ps i p = suffixes_go t x ps i p (λ y ls r q. right_suffixes t y ls r q) (suffix_of (first i)) refl

-- arguments up to `)`
data Ended : PlainExprs → List Numbered → Type 0 where
  ended : {all : PlainExprs} {xs : List Numbered} (k : ℕ) → Expressions all xs → Ended all (xs ++ fixed k terminal.Close ∷ [])

data Arguments : PlainExprs → List Numbered → Type 0 where
  none : (k : ℕ) → Arguments tree.no_expr (fixed k terminal.Close ∷ [])
  some : {all : PlainExprs} {xs : List Numbered} → Ended all xs → Arguments all xs

ended_more : (n : ℕ) (x : PlainExpr) (xs : List Numbered) → Expression x xs → {all : PlainExprs} {ys : List Numbered} → Ended all ys → Ended (tree.more_exprs x all) (xs ++ fixed n terminal.Comma ∷ ys)
ended_more n x xs e {all} (ended {xs = ws} k es) =
    subst (λ (z : List Numbered). Ended (tree.more_exprs x all) z) (append_assoc xs (fixed n terminal.Comma ∷ ws) (fixed k terminal.Close ∷ [])) (ended k (grammar.more n e es))

ended_call : (n m : ℕ) (f : List ℕ) {all : PlainExprs} {xs : List Numbered} → Ended all xs → Primary (tree.call n f all) (at n (symbol.Name f) ∷ fixed m terminal.Open ∷ xs)
ended_call n m f (ended k es) = grammar.call n m k f es

called : (n m : ℕ) (f : List ℕ) {all : PlainExprs} {xs : List Numbered} → Arguments all xs → Primary (tree.call n f all) (at n (symbol.Name f) ∷ fixed m terminal.Open ∷ xs)
called n m f (none k) = grammar.call_empty n m k f
called n m f (some e) = ended_call n m f e

-- an expression to complete a prefix with
pub zero_expression : (n : ℕ) → Expression (tree.int n (cast_signed w32 0)) (at n (symbol.Int 0) ∷ [])
zero_expression n = grammar.value (lower 1 unary_level (omega arith) (grammar.unary (grammar.postfix (grammar.primary (grammar.int n 0)))))

module _ (d : ℕ) (inner : ℕ → Parser PlainExpr)
    (right : (k : ℕ) → k ≤ unary_level → (i : List Numbered) → Right (λ x xs rest. LevelAt k x xs × NoOperator k rest) (Viable (LevelAt k)) (d ≤ length i) i (inner k i)) where
  right_arguments_from : (t : ℕ) (before : PlainExprs) (i : List Numbered)
      → Right (λ all xs rest. (more : PlainExprs) × (all ≡ joined_exprs before more) × Ended more xs) (Viable Ended) ((t ≤ length i) ⊎ (d ≤ length i)) i (arguments_from d inner t before i)
  right_arguments_from zero before i = right_deep (inl (omega arith))
  right_arguments_from (suc t) before i =
      then (right 0 (omega arith) i)
      (λ x xs rest h is.
      let long : 0 < length xs = starts_length begins_expression xs (starts_expression h.0) in
      let lengths = rest_length i xs rest is in
      right_choice terminal.Comma rest (λ j. and_then (take j) (λ n. arguments_from d inner t (joined_exprs before (tree.more_exprs x tree.no_expr)))) _
      (λ k r e. after_take (λ n. arguments_from d inner t (joined_exprs before (tree.more_exprs x tree.no_expr))) k (symbol.Fixed terminal.Comma) r e
      (right_as (right_arguments_from t (joined_exprs before (tree.more_exprs x tree.no_expr)) r)
      (λ all zs end q. let (more, same, p) = q in (tree.more_exprs x more, same ∙ joined_step before more x, ended_more k x xs h.0 p))
      (λ zs v. viable_under Ended xs (fixed k terminal.Comma ∷ zs)
      (viable_as Ended (λ all ys. Ended all (xs ++ fixed k terminal.Comma ∷ ys)) zs v
      (λ all ys p. (tree.more_exprs x all, ended_more k x xs h.0 p))))
      (λ deep. let shorter : length rest ≡ suc (length r) = ap length e in elim deep [ inl a ↦ inl (omega arith) | inr b ↦ inr (omega arith) ])))
      (λ other. then_expect terminal.Close rest
      (λ k r e. right_pure (tree.more_exprs x tree.no_expr, refl, ended k (grammar.one h.0)))
      (λ j. (
        by_terminal terminal.Close ∷ [],
        tree.more_exprs x tree.no_expr,
        subst
            (λ (z : List Numbered). Ended (tree.more_exprs x tree.no_expr) (z ++ fixed j terminal.Close ∷ []))
            (sym (append-nil xs)) (ended j (grammar.one h.0)),
      ))))
      (λ xs v. viable_then Expression Ended xs (by_terminal terminal.Close ∷ []) v (λ x ys n e. (tree.more_exprs x tree.no_expr, ended n (grammar.one e))))
      (λ deep. inr deep)

  right_arguments : (i : List Numbered) → Right (λ all xs rest. Arguments all xs) (Viable Arguments) (d ≤ length i) i (arguments d inner i)
  unfolding arguments
  right_arguments i =
      right_choice terminal.Close i (λ j. and_then (take j) (λ k. λ r. Got tree.no_expr r)) (arguments_from d inner d tree.no_expr)
      (λ k r e. after_take (λ k. λ r. Got tree.no_expr r) k (symbol.Fixed terminal.Close) r e (right_pure (none k)))
      (λ other. right_as (right_arguments_from d tree.no_expr i)
      (λ all xs rest h. let (more, same, p) = h in subst (λ (z : PlainExprs). Arguments z xs) (sym same) (some p))
      (λ xs v. viable_as Ended Arguments xs v (λ all ys p. (all, some p)))
      (λ deep. elim deep [ inl a ↦ a | inr b ↦ b ]))

  right_after_name : (n : ℕ) (f : List ℕ) (i : List Numbered)
      → Right (λ x xs rest. Primary x (at n (symbol.Name f) ∷ xs)) (λ xs. Viable Primary (at n (symbol.Name f) ∷ xs)) (d ≤ length i) i (after_name d inner n f i)
  unfolding after_name
  right_after_name n f i =
      right_choice terminal.Open i (λ j. and_then (take j) (λ m. λ r. and_then (arguments d inner r) (λ all. λ z. Got (tree.call n f all) z))) _
      (λ m r e. after_take (λ m. λ r. and_then (arguments d inner r) (λ all. λ z. Got (tree.call n f all) z)) m (symbol.Fixed terminal.Open) r e
      (then (right_arguments r)
      (λ all xs rest a is. right_pure (subst (λ (z : List Numbered). Primary (tree.call n f all) (at n (symbol.Name f) ∷ fixed m terminal.Open ∷ z)) (sym (append-nil xs)) (called n m f a)))
      (λ xs v. viable_as Arguments (λ x ys. Primary x (at n (symbol.Name f) ∷ fixed m terminal.Open ∷ ys)) xs v (λ all ys a. (tree.call n f all, called n m f a)))
      (λ deep. let shorter : length i ≡ suc (length r) = ap length e in omega arith)))
      (λ other. right_pure (grammar.name n f))

  right_primary_at : (n : ℕ) (s : Symbol) (r : List Numbered) → Right (λ x xs rest. Primary x xs) (Viable Primary) (suc d ≤ length (at n s ∷ r)) (at n s ∷ r) (primary_by d inner (Some s) (at n s ∷ r))
  unfolding take
  right_primary_at n (symbol.Int v) r = right_got (at n (symbol.Int v) ∷ []) refl (grammar.int n v)
  right_primary_at n symbol.Float r = right_got (at n symbol.Float ∷ []) refl (grammar.float n)
  right_primary_at n (symbol.Text bytes) r = right_got (at n (symbol.Text bytes) ∷ []) refl (grammar.text n bytes)
  right_primary_at n (symbol.Fixed terminal.ObjectSelf) r = right_got (fixed n terminal.ObjectSelf ∷ []) refl (grammar.object_self n)
  right_primary_at n (symbol.Fixed terminal.ObjectInvalid) r = right_got (fixed n terminal.ObjectInvalid ∷ []) refl (grammar.object_invalid n)
  right_primary_at n (symbol.Name f) r = further (at n (symbol.Name f) ∷ []) refl (right_as (right_after_name n f r) (λ x xs rest p. p) (λ xs v. v) (λ deep. omega arith))
  right_primary_at n (symbol.Fixed terminal.Open) r =
      further (fixed n terminal.Open ∷ []) refl
      (then_fixed terminal.Close (right 0 (omega arith) r)
      (λ x xs rest k z h e is. right_pure (grammar.parenthesized n k h.0))
      (λ x xs rest h. viable_done Expression x xs h.0)
      (λ xs v. viable_then Expression (λ x ys. Primary x (fixed n terminal.Open ∷ ys)) xs (by_terminal terminal.Close ∷ []) v (λ x ys k e. (x, grammar.parenthesized n k e)))
      (λ deep. omega arith))
  right_primary_at n s r = right_stuck (λ j. (by_zero ∷ [], tree.int j (cast_signed w32 0), grammar.int j 0))

  right_primary : (i : List Numbered) → Right (λ x xs rest. Primary x xs) (Viable Primary) (suc d ≤ length i) i (primary d inner i)
  unfolding primary first
  right_primary [] = right_stuck (λ j. (by_zero ∷ [], tree.int j (cast_signed w32 0), grammar.int j 0))
  right_primary (s ∷ r) = right_primary_at s.number s.symbol r

  right_prefix_by : (i : List Numbered) (z : Option PrefixOperator) → prefix_of (first i) ≡ z → Right (λ x xs rest. Unary x xs) (Viable Unary) (suc d ≤ length i) i (prefix_by d inner z i)
  right_prefix_by i (Some o) e =
      let (n, m, r, is, operator) = prefix_fixed i o e in
      after_take (λ n. λ r. and_then (inner unary_level r) (λ x. λ z. Got (tree.prefix n o x) z)) n (symbol.Fixed m) r is
      (then (right unary_level (omega arith) r)
      (λ x xs rest h e. right_pure (subst (λ (z : List Numbered). Unary (tree.prefix n o x) (fixed n m ∷ z)) (sym (append-nil xs)) (grammar.prefix n m o operator (unary_only h.0 (omega arith)))))
      (λ xs v. viable_as (Binary unary_level) (λ x ys. Unary x (fixed n m ∷ ys)) xs v (λ x ys b. (tree.prefix n o x, grammar.prefix n m o operator (unary_only b (omega arith)))))
      (λ deep. let shorter : length i ≡ suc (length r) = ap length is in omega arith))
  right_prefix_by i None e =
      then (right_primary i)
      (λ x xs rest p is. right_as (right_suffixes d x xs rest (grammar.primary p))
      (λ y ys end q. grammar.postfix q)
      (λ ys v. viable_as Postfix Unary (xs ++ ys) v (λ y zs q. (y, grammar.postfix q)))
      (λ deep. let long : 0 < length xs = starts_length begins_expression xs (starts_primary p) in omega (arith, rest_length i xs rest is)))
      (λ xs v. viable_as Primary Unary xs v (λ x ys p. (x, grammar.postfix (grammar.primary p))))
      (λ deep. deep)

  right_prefix : (i : List Numbered) → Right (λ x xs rest. Unary x xs) (Viable Unary) (suc d ≤ length i) i (prefix d inner i)
  unfolding prefix
  right_prefix i = right_prefix_by i (prefix_of (first i)) refl

  -- an operator and its right operand, after the left operand ls
  right_operation : (o : BinaryOperator) (x : PlainExpr) (ls i : List Numbered) → Binary (level_of o) x ls → binary_of (first i) ≡ Some o
      → Right (λ y ys rest. Binary (level_of o) y (ls ++ ys) × NoOperator (suc (level_of o)) rest × (0 < length ys))
      (λ ys. Viable (Binary (level_of o)) (ls ++ ys)) (d ≤ length i) i (operation d inner o x i)
  unfolding operation
  right_operation o x ls i l e =
      let (n, m, r, is, operator) = binary_fixed i o e in
      after_take (λ n. λ r. and_then (inner (level_of o + 1) r) (λ y. λ z. Got (tree.binary n o x y) z)) n (symbol.Fixed m) r is
      (then (right_same (ap (λ (k : ℕ). inner k r) (add-one (level_of o))) (right (suc (level_of o)) (level_below o) r))
      (λ y ys rest h e'. right_pure
      (subst (λ (z : List Numbered). Binary (level_of o) (tree.binary n o x y) (ls ++ fixed n m ∷ z)) (sym (append-nil ys)) (grammar.operation n m o operator l h.0), h.1, omega arith))
      (λ ys v. viable_under (Binary (level_of o)) ls (fixed n m ∷ ys)
      (viable_as (Binary (suc (level_of o))) (λ y zs. Binary (level_of o) y (ls ++ fixed n m ∷ zs)) ys v (λ y zs b. (tree.binary n o x y, grammar.operation n m o operator l b))))
      (λ deep. let shorter : length i ≡ suc (length r) = ap length is in omega arith))

  climb_go : (t least j : ℕ) (x : PlainExpr) (ls i : List Numbered) → least ≤ j → 0 < j → Binary j x ls → NoOperator (suc j) i
      → ((k : ℕ) (y : PlainExpr) (ps r : List Numbered) → least ≤ k → 0 < k → Binary k y ps → NoOperator (suc k) r
      → Right (λ z zs end. LevelAt least z (ps ++ zs) × NoOperator least end) (λ zs. Viable (LevelAt least) (ps ++ zs)) ((t ≤ length r) ⊎ (d ≤ length r)) r (climb d inner t least y r))
      → (z : Option BinaryOperator) → binary_of (first i) ≡ z
      → Right (λ y ys rest. LevelAt least y (ls ++ ys) × NoOperator least rest)
      (λ ys. Viable (LevelAt least) (ls ++ ys)) ((suc t ≤ length i) ⊎ (d ≤ length i)) i
      (climb_by d inner (climb d inner t least) least x z i)
  climb_go t least j x ls i le positive l tight again None e =
      right_pure (subst (λ (z : List Numbered). LevelAt least x z) (sym (append-nil ls)) (level_at least j le positive l), λ o is. absurd (let bad : Some o ≡ None = sym is ∙ e in cc))
  climb_go t least j x ls i le positive l tight again (Some o) e = by_test (nat_lt (level_of o) least) refl
    where
      by_test : (b : Bool) → nat_lt (level_of o) least ≡ b
          → Right (λ y ys rest. LevelAt least y (ls ++ ys) × NoOperator least rest)
          (λ ys. Viable (LevelAt least) (ls ++ ys)) ((suc t ≤ length i) ⊎ (d ≤ length i)) i
          (branch b (λ r. Got x r) (operation d inner o x >>= climb d inner t least) i)
      by_test true lt =
          right_pure (
            subst (λ (z : List Numbered). LevelAt least x z) (sym (append-nil ls)) (level_at least j le positive l),
            λ p is. let same : Some p
                ≡ Some o = sym is ∙ e in let h : level_of o < least = ltb-true (level_of o) least lt in subst
                (λ (q : BinaryOperator). level_of q < least) (let s : o ≡ p = cc in s) h,
          )
      by_test false ge =
          let loose : least ≤ level_of o = ltb-false (level_of o) least ge in
          let below : level_of o < suc j = tight o e in
          let some : 0 < level_of o = level_positive o in
          then (right_operation o x ls i (lower (level_of o) j (omega arith) l) e)
          (λ y ys rest h is.
          right_as (again (level_of o) y (ls ++ ys) rest loose some h.0 h.1)
          (λ z zs end q. (subst (λ (w : List Numbered). LevelAt least z w) (append_assoc ls ys zs) q.0, q.1))
          (λ zs v. subst (λ (w : List Numbered). Viable (LevelAt least) w) (append_assoc ls ys zs) v)
          (λ deep. let long : 0 < length ys = h.2 in let lengths = rest_length i ys rest is in elim deep [ inl a ↦ inl (omega arith) | inr b ↦ inr (omega arith) ]))
          (λ ys v. viable_as (Binary (level_of o)) (LevelAt least) (ls ++ ys) v (λ y zs b. (y, level_at least (level_of o) loose some b)))
          (λ deep. inr deep)

  right_climb : (t least j : ℕ) (x : PlainExpr) (ls i : List Numbered) → least ≤ j → 0 < j → Binary j x ls → NoOperator (suc j) i
      → Right (λ y ys rest. LevelAt least y (ls ++ ys) × NoOperator least rest) (λ ys. Viable (LevelAt least) (ls ++ ys)) ((t ≤ length i) ⊎ (d ≤ length i)) i (climb d inner t least x i)
  right_climb zero least j x ls i le positive l tight = right_deep (inl (omega arith))
  right_climb (suc t) least j x ls i le positive l tight =
      climb_go t least j x ls i le positive l tight (λ k y ps r le' positive' b tight'. right_climb t least k y ps r le' positive' b tight') (binary_of (first i)) refl

  -- the operators after a first unary, and none tighter than a level
  right_operators : (least : ℕ) (x : PlainExpr) (xs i : List Numbered) → least ≤ unary_level → Unary x xs
      → Right (λ y ys rest. LevelAt least y (xs ++ ys) × NoOperator least rest) (λ ys. Viable (LevelAt least) (xs ++ ys)) (d ≤ length i) i (climb d inner d least x i)
  right_operators least x xs i le u =
      right_as (right_climb d least unary_level x xs i le (omega arith) (grammar.unary u) (λ o is. let h = level_below o in omega arith))
      (λ y ys rest p. p) (λ ys v. v) (λ deep. elim deep [ inl a ↦ a | inr b ↦ b ])

  right_assigned_by : (x : PlainExpr) (xs i : List Numbered) → Unary x xs → (z : Option AssignOperator) → assign_of (first i) ≡ z
      → Right (λ y ys rest. Expression y (xs ++ ys) × NoOperator 0 rest) (λ ys. Viable Expression (xs ++ ys)) (d ≤ length i) i (assigned_by d inner x z i)
  right_assigned_by x xs i u None e = right_operators 0 x xs i (omega arith) u
  right_assigned_by x xs i u (Some o) e =
      let (n, m, r, is, operator) = assign_fixed i o e in
      after_take (λ n. λ r. and_then (inner 0 r) (λ y. λ z. Got (tree.assign n o x y) z)) n (symbol.Fixed m) r is
      (then (right 0 (omega arith) r)
      (λ y ys rest h e'. right_pure (subst (λ (z : List Numbered). Expression (tree.assign n o x y) (xs ++ fixed n m ∷ z)) (sym (append-nil ys)) (grammar.assignment n m o operator u h.0), h.1))
      (λ ys v. viable_under Expression xs (fixed n m ∷ ys)
      (viable_as Expression (λ y zs. Expression y (xs ++ fixed n m ∷ zs)) ys v (λ y zs b. (tree.assign n o x y, grammar.assignment n m o operator u b))))
      (λ deep. let shorter : length i ≡ suc (length r) = ap length is in omega arith))

  right_after_first : (least : ℕ) (x : PlainExpr) (xs i : List Numbered) → least ≤ unary_level → Unary x xs
      → Right (λ y ys rest. LevelAt least y (xs ++ ys) × NoOperator least rest) (λ ys. Viable (LevelAt least) (xs ++ ys)) (d ≤ length i) i (after_first d inner least x i)
  unfolding after_first assigned
  right_after_first zero x xs i le u = right_assigned_by x xs i u (assign_of (first i)) refl
  right_after_first (suc k) x xs i le u =
      right_same (ap (λ (b : Bool). branch b (assigned d inner x) (climb d inner d (suc k) x) i)
      (ne_eqb (suc k) 0 (λ bad. let h : suc k ≡ 0 = bad in omega arith))) (right_operators (suc k) x xs i le u)

  right_next_level : (least : ℕ) (i : List Numbered) → least ≤ unary_level
      → Right (λ x xs rest. LevelAt least x xs × NoOperator least rest) (Viable (LevelAt least)) (suc d ≤ length i) i (and_then (prefix d inner i) (after_first d inner least))
  right_next_level least i le =
      then (right_prefix i)
      (λ x xs rest u is. right_as (right_after_first least x xs rest le u) (λ y ys end p. p) (λ ys v. v)
      (λ deep. let long : 0 < length xs = starts_length begins_expression xs (starts_unary u) in omega (arith, rest_length i xs rest is)))
      (λ xs v. viable_as Unary (LevelAt least) xs v (λ x ys u. (x, level_at least unary_level le (omega arith) (grammar.unary u))))
      (λ deep. deep)

pub right_level : (d least : ℕ) → least ≤ unary_level → (i : List Numbered)
    → Right (λ x xs rest. LevelAt least x xs × NoOperator least rest) (Viable (LevelAt least)) (d ≤ length i) i (level d least i)
unfolding level
right_level zero least le i = right_deep (omega arith)
right_level (suc d) least le i = right_next_level d (level d) (λ k lk j. right_level d k lk j) least i le
