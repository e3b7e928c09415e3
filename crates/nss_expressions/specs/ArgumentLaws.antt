-- Arguments by their number, for the walks here and in crates above: their defaults, and their
-- values one after the other.
use Rattle.std.proofs.Common.{◌≡◌, ℕ, suc, nat_lt, Bool, true, false, ◌+◌, ◌<◌, ◌≤◌, if◌then◌else◌, get_or, List, [], ◌∷◌, ◌++◌, length, drop, Option, None, Some, refl, sym, ap, ◌∙◌, arith}
use Rattle.std.proofs.lemmas.Bool.Decides.{nat_tests}
use Rattle.std.proofs.lemmas.List.{at_drop_more, at_drop_all}
use Rattle.nwq_value.specs.declared.engine.Param.{Param}
use Rattle.nss_tree.specs.declared.expressions.Expr.{Expr}
use Rattle.nss_tree.specs.Reading.{plain_expr, plain_exprs}
use Rattle.nss_tree.specs.Readings.{plain_exprs_none, plain_exprs_more}
use Rattle.typing_rules.specs.declared.expressions.Expression.{Expression}
use Rattle.typing_rules.specs.Reading.{plain, plain_all}
use Rattle.typing_rules.specs.Readings.{plain_all_none, plain_all_more}
use Rattle.typing_rules.specs.Nodes.{fine}
use Rattle.typing_rules.specs.Rules.{defaults, filled, others, takes_action}
use Rattle.typing_rules.specs.Sight.{Head, Sight}
use Rattle.typing_rules.specs.Typed.{TypedExpr, TypedExprs, no_typed, more_typed}
use Rattle.typing_rules.specs.Verdicts.{all_fine, one_more_typed, verdict}
use Rattle.nss_expressions.specs.Arguments.{defaults_behind, joined_typed, with_last, with_others}

no_less : (n : ℕ) → nat_lt n 0 ≡ false
no_less n = grind (arith, nat_tests)

some_less : (n : ℕ) → nat_lt 0 (suc n) ≡ true
some_less n = grind (arith, nat_tests)

less_suc : (m n : ℕ) → nat_lt (suc m) (suc n) ≡ nat_lt m n
less_suc m n = grind (arith, nat_tests)

pub filled_is : (xs : List Expression) (ps : List Param) → filled (plain_all xs) ps ≡ defaults_behind (length xs) ps
filled_is [] ps = ap (λ ts. filled ts ps) plain_all_none ∙ sym (ap (λ b. if b then None else defaults ps) (no_less (length ps)))
filled_is (x ∷ xs) [] = ap (λ ts. filled ts []) (plain_all_more x xs) ∙ sym (ap (λ b. if b then None else Some []) (some_less (length xs)))
filled_is (x ∷ xs) (p ∷ ps) =
    ap (λ ts. filled ts (p ∷ ps)) (plain_all_more x xs)
    ∙ (filled_is xs ps ∙ sym (ap (λ b. if b then None else defaults (drop (length xs) ps)) (less_suc (length ps) (length xs))))

-- ---- typed expressions in a row

joined_more : (xs : TypedExprs) (x : TypedExpr) (ys : TypedExprs) → joined_typed (joined_typed xs (more_typed x no_typed)) ys ≡ joined_typed xs (more_typed x ys)
joined_more no_typed x ys = refl
joined_more (more_typed z xs) x ys = ap (more_typed z) (joined_more xs x ys)

joined_none : (xs : TypedExprs) → joined_typed xs no_typed ≡ xs
joined_none no_typed = refl
joined_none (more_typed x xs) = ap (more_typed x) (joined_none xs)

pub others_step : (all : Option TypedExprs) (one : Option TypedExpr) (rest : Option TypedExprs)
    → with_others (with_last all one) rest ≡ with_others all (one_more_typed one rest)
others_step None one rest = refl
others_step (Some xs) None rest = refl
others_step (Some xs) (Some x) None = refl
others_step (Some xs) (Some x) (Some ys) = ap Some (joined_more xs x ys)

pub others_end : (all : Option TypedExprs) → with_others all (Some no_typed) ≡ all
others_end None = refl
others_end (Some xs) = ap Some (joined_none xs)

others_begin : (rest : Option TypedExprs) → with_others (Some no_typed) rest ≡ rest
others_begin None = refl
others_begin (Some ys) = refl

-- an expression behind others, as code holds them
pub pushed : (xs : List Expression) (x : Expression) → plain_all (xs ++ x ∷ []) ≡ joined_typed (plain_all xs) (more_typed (plain x) no_typed)
unfolding plain_all
pushed [] x = refl
pushed (y ∷ xs) x = ap (more_typed (plain y)) (pushed xs x)

-- ---- arguments, one after the other

module _ (hs : List Head) (s : Sight) where
  fine_at : (es : List Expr) (i : ℕ) (e : Expr) (ps : List Param) → i < length es → e ≡ get_or es i e
      → all_fine hs s ps (plain_exprs (drop i es)) ≡ one_more_typed (fine (verdict hs s (takes_action ps) (plain_expr e))) (all_fine hs s (others ps) (plain_exprs (drop (i + 1) es)))
  fine_at es i e ps lt is =
      at_drop_more (λ ys. all_fine hs s ps (plain_exprs ys)) es i e lt
      ∙ (ap (λ y. all_fine hs s ps (plain_exprs (y ∷ drop (i + 1) es))) (sym is) ∙ ap (all_fine hs s ps) (plain_exprs_more e (drop (i + 1) es)))

  module _ (es : List Expr) (i : ℕ) (e : Expr) (ps next : List Param) (as_action : Bool) (lt : i < length es)
      (is : e ≡ get_or es i e) (action : as_action ≡ takes_action ps) (behind : next ≡ others ps) where
    pub next_value : (all all' : Option TypedExprs) (one : Option TypedExpr) (whole : Option TypedExprs) → one ≡ fine (verdict hs s as_action (plain_expr e)) → all' ≡ with_last all one
        → with_others all (all_fine hs s ps (plain_exprs (drop i es))) ≡ whole → with_others all' (all_fine hs s next (plain_exprs (drop (i + 1) es))) ≡ whole
    next_value all all' one whole typed more so_far =
        ap (λ a. with_others a (all_fine hs s next (plain_exprs (drop (i + 1) es)))) more
        ∙ (ap (λ qs. with_others (with_last all one) (all_fine hs s qs (plain_exprs (drop (i + 1) es)))) behind
        ∙ (others_step all one (all_fine hs s (others ps) (plain_exprs (drop (i + 1) es)))
        ∙ (ap (λ o. with_others all (one_more_typed o (all_fine hs s (others ps) (plain_exprs (drop (i + 1) es))))) (typed ∙ ap (λ b. fine (verdict hs s b (plain_expr e))) action)
        ∙ (ap (with_others all) (sym (fine_at es i e ps lt is)) ∙ so_far))))

  pub end_value : (es : List Expr) (i : ℕ) (ps : List Param) (all whole : Option TypedExprs) → length es ≤ i → with_others all (all_fine hs s ps (plain_exprs (drop i es))) ≡ whole → all ≡ whole
  end_value es i ps all whole le so_far =
      sym (others_end all) ∙ (ap (with_others all) (ap (all_fine hs s ps) (sym plain_exprs_none) ∙ sym (at_drop_all (λ ys. all_fine hs s ps (plain_exprs ys)) es i le)) ∙ so_far)

pub begin_value : (first : List Expression) (rest : Option TypedExprs) → first ≡ [] → with_others (Some (plain_all first)) rest ≡ rest
begin_value first rest is = ap (λ xs. with_others (Some (plain_all xs)) rest) is ∙ (ap (λ ts. with_others (Some ts) rest) plain_all_none ∙ others_begin rest)
