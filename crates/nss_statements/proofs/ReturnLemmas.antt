-- Tests of statements in a row.
use Rattle.std.proofs.Common.{◌≡◌, ℕ, ◌+◌, ◌<◌, ◌≤◌, Bool, true, false, ◌&&◌, ◌||◌, if◌then◌else◌, List, [], ◌∷◌, length, drop, get_or, refl, sym, ap, ◌∙◌}
use Rattle.std.proofs.lemmas.List.{at_drop_more, at_drop_all}
use Rattle.nss_tree.specs.declared.statements.Stmt.{Stmt}
use Rattle.nss_tree.specs.Readings.{map_stmts_none, stmts_more}
use Rattle.nss_tree.specs.Statements.{PlainStmt, PlainStmts, map_stmts, block, empty, expression, if_only, if_else, while_loop, do_loop, for_loop, switch, break_off, continue_on, return_from}
use Rattle.nss_tree.specs.Statements.{declaration, case_label, default_label, more_stmts, no_stmt}
use Rattle.nwq_value.specs.declared.value.Ty.{Ty}
use Rattle.nwq_value.specs.declared.engine.Const.{Const}
use Rattle.typing_rules.specs.declared.expressions.Expression.{Expression}
use Rattle.typing_rules.specs.declared.places.Variable.{Variable}
use Rattle.typing_rules.specs.Reading.{plain}
use Rattle.typing_rules.specs.Returns.{has_statement, is_statement, last_returns, returns}
use Rattle.typing_rules.specs.Typed.{TypedStmt, TypedStmts}
use Rattle.typing_rules.specs.UnitReading.{typed_stmt, typed_stmts}
use Rattle.nss_statements.specs.Returns.{last_or}

more : (x : Stmt Expression Const Ty Variable) (xs : List (Stmt Expression Const Ty Variable)) → typed_stmts (x ∷ xs) ≡ more_stmts (typed_stmt x) (typed_stmts xs)
more x xs = ap (map_stmts plain) (stmts_more x xs)

none : typed_stmts [] ≡ no_stmt
none = map_stmts_none plain

module _ (F : TypedStmts → Bool) (f : TypedStmt → Bool) (step : (x : _) (xs : _) → F (more_stmts x xs) ≡ (f x || F xs)) (xs : List (Stmt Expression Const Ty Variable)) (i : ℕ) where
  any_at : (x : Stmt Expression Const Ty Variable) → i < length xs → x ≡ get_or xs i x → F (typed_stmts (drop i xs)) ≡ (f (typed_stmt x) || F (typed_stmts (drop (i + 1) xs)))
  any_at x lt is =
      at_drop_more (λ ys. F (typed_stmts ys)) xs i x lt
      ∙ (ap (λ y. F (typed_stmts (y ∷ drop (i + 1) xs))) (sym is) ∙ (ap F (more x (drop (i + 1) xs)) ∙ step (typed_stmt x) (typed_stmts (drop (i + 1) xs))))

  pub any_here : (x : Stmt Expression Const Ty Variable) (b whole : Bool) → i < length xs → x ≡ get_or xs i x → b ≡ f (typed_stmt x) → b ≡ true → F (typed_stmts (drop i xs)) ≡ whole → true ≡ whole
  any_here x b whole lt is test found so_far = sym (ap (λ c. c || F (typed_stmts (drop (i + 1) xs))) (sym test ∙ found)) ∙ (sym (any_at x lt is) ∙ so_far)

  pub any_next : (x : Stmt Expression Const Ty Variable) (b whole : Bool) → i < length xs → x ≡ get_or xs i x → b ≡ f (typed_stmt x) → b ≡ false → F (typed_stmts (drop i xs)) ≡ whole
      → F (typed_stmts (drop (i + 1) xs)) ≡ whole
  any_next x b whole lt is test no_test so_far = sym (ap (λ c. c || F (typed_stmts (drop (i + 1) xs))) (sym test ∙ no_test)) ∙ (sym (any_at x lt is) ∙ so_far)

  pub any_end : (whole : Bool) → F no_stmt ≡ false → length xs ≤ i → F (typed_stmts (drop i xs)) ≡ whole → false ≡ whole
  any_end whole no_one le so_far = sym no_one ∙ (ap F (sym none) ∙ (sym (at_drop_all (λ ys. F (typed_stmts ys)) xs i le) ∙ so_far))

-- ---- the last statement

no_return : {E C T N : Type 0} (x : PlainStmt E C T N) → is_statement x ≡ false → returns x ≡ false
no_return (block n xs) e = absurd cc
no_return (empty n) e = refl
no_return (expression n v) e = refl
no_return (if_only n v a) e = refl
no_return (if_else n v a b) e = absurd cc
no_return (while_loop n v a) e = refl
no_return (do_loop n a v) e = absurd cc
no_return (for_loop n v y z a) e = refl
no_return (switch n v xs) e = absurd cc
no_return (break_off n) e = refl
no_return (continue_on n) e = refl
no_return (return_from n v) e = absurd cc
no_return (declaration n t ds) e = refl
no_return (case_label n c) e = refl
no_return (default_label n) e = refl

module _ {E C T N : Type 0} where
  last_step : (before : Bool) (x : PlainStmt E C T N) (xs : PlainStmts E C T N) → last_or before (more_stmts x xs) ≡ last_or (if is_statement x then returns x else before) xs
  last_step before x xs = by (is_statement x) refl (has_statement xs)
    where
      by : (b : Bool) → is_statement x ≡ b → (h : Bool)
          → (if b || h then (if h then last_returns xs else returns x) else before) ≡ (if h then last_returns xs else (if b then returns x else before))
      by true is true = refl
      by true is false = refl
      by false is true = refl
      by false is false = refl

  pub last_begin : (xs : PlainStmts E C T N) → last_or false xs ≡ last_returns xs
  last_begin no_stmt = refl
  last_begin (more_stmts x xs) = by (is_statement x) refl (has_statement xs)
    where
      by : (b : Bool) → is_statement x ≡ b → (h : Bool)
          → (if b || h then (if h then last_returns xs else returns x) else false) ≡ (if h then last_returns xs else returns x)
      by true is true = refl
      by true is false = refl
      by false is true = refl
      by false is false = sym (no_return x is)

pub last_next : (xs : List (Stmt Expression Const Ty Variable)) (i : ℕ) (x : Stmt Expression Const Ty Variable) (before after whole : Bool) → i < length xs → x ≡ get_or xs i x
    → after ≡ (if is_statement (typed_stmt x) then returns (typed_stmt x) else before) → last_or before (typed_stmts (drop i xs)) ≡ whole
    → last_or after (typed_stmts (drop (i + 1) xs)) ≡ whole
last_next xs i x before after whole lt is next so_far =
    ap (λ b. last_or b (typed_stmts (drop (i + 1) xs))) next
    ∙ (sym (last_step before (typed_stmt x) (typed_stmts (drop (i + 1) xs)))
    ∙ (ap (last_or before) (sym (more x (drop (i + 1) xs)))
    ∙ (ap (λ y. last_or before (typed_stmts (y ∷ drop (i + 1) xs))) is
    ∙ (sym (at_drop_more (λ ys. last_or before (typed_stmts ys)) xs i x lt) ∙ so_far))))

pub last_end : (xs : List (Stmt Expression Const Ty Variable)) (i : ℕ) (before whole : Bool) → length xs ≤ i → last_or before (typed_stmts (drop i xs)) ≡ whole → before ≡ whole
last_end xs i before whole le so_far = ap (last_or before) (sym none) ∙ (sym (at_drop_all (λ ys. last_or before (typed_stmts ys)) xs i le) ∙ so_far)

-- ---- tests of two

pub or_then : (a b r : Bool) → r ≡ a → r ≡ true → r ≡ (a || b)
or_then a b r is found = found ∙ sym (ap (λ c. c || b) (sym is ∙ found))

pub or_else : (a b r q : Bool) → r ≡ a → r ≡ false → q ≡ b → q ≡ (a || b)
or_else a b r q is missed other = other ∙ sym (ap (λ c. c || b) (sym is ∙ missed))

pub and_then : (a b r q : Bool) → r ≡ a → r ≡ true → q ≡ b → q ≡ (a && b)
and_then a b r q is found other = other ∙ sym (ap (λ c. c && b) (sym is ∙ found))

pub and_else : (a b r : Bool) → r ≡ a → r ≡ false → r ≡ (a && b)
and_else a b r is missed = missed ∙ sym (ap (λ c. c && b) (sym is ∙ missed))
