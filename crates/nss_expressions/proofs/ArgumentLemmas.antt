-- Arguments by their number: whether parameters take them, and the least of their faults.
use Rattle.std.proofs.Common.{◌≡◌, ℕ, Bool, true, ◌+◌, ◌<◌, ◌≤◌, ◌&&◌, get_or, List, [], ◌∷◌, ◌++◌, length, drop, Option, sym, ap, ◌∙◌}
use Rattle.std.proofs.lemmas.List.{at_drop_more, at_drop_all}
use Rattle.nss_tree.specs.declared.expressions.Expr.{Expr}
use Rattle.nss_tree.specs.Reading.{plain_expr, plain_exprs}
use Rattle.nss_tree.specs.Readings.{plain_exprs_none, plain_exprs_more}
use Rattle.typing_rules.specs.declared.fault.Fault.{Fault}
use Rattle.typing_rules.specs.Nodes.{kept}
use Rattle.typing_rules.specs.Sight.{Head, Sight}
use Rattle.nss_expressions.specs.Kept.{kept_append}
use Rattle.nwq_value.specs.declared.engine.Param.{Param}
use Rattle.typing_rules.specs.declared.expressions.Expression.{Expression}
use Rattle.typing_rules.specs.Reading.{plain, plain_all}
use Rattle.typing_rules.specs.Readings.{plain_all_none, plain_all_more}
use Rattle.typing_rules.specs.Rules.{all_taken, others, takes_action}
use Rattle.typing_rules.specs.Verdicts.{all_faults, faults}
use Rattle.nss_expressions.specs.Arguments.{first_takes}

-- ---- values and parameters side by side

pub all_taken_step : (x : Expression) (xs : List Expression) (ps : List Param) → all_taken (plain_all (x ∷ xs)) ps ≡ (first_takes ps (plain x) && all_taken (plain_all xs) (others ps))
all_taken_step x xs [] = ap (λ ts. all_taken ts []) (plain_all_more x xs)
all_taken_step x xs (p ∷ ps) = ap (λ ts. all_taken ts (p ∷ ps)) (plain_all_more x xs)

pub all_taken_end : (ps : List Param) → all_taken (plain_all []) ps ≡ true
all_taken_end ps = ap (λ ts. all_taken ts ps) plain_all_none

pub all_taken_at : (xs : List Expression) (i : ℕ) (x : Expression) (ps : List Param) → i < length xs → x ≡ get_or xs i x
    → all_taken (plain_all (drop i xs)) ps ≡ (first_takes ps (plain x) && all_taken (plain_all (drop (i + 1) xs)) (others ps))
all_taken_at xs i x ps lt is =
    at_drop_more (λ ys. all_taken (plain_all ys) ps) xs i x lt
    ∙ (ap (λ y. all_taken (plain_all (y ∷ drop (i + 1) xs)) ps) (sym is) ∙ all_taken_step x (drop (i + 1) xs) ps)

-- ---- arguments, one after the other

module _ (hs : List Head) (s : Sight) where
  faults_at : (es : List Expr) (i : ℕ) (e : Expr) (ps : List Param) → i < length es → e ≡ get_or es i e
      → all_faults hs s ps (plain_exprs (drop i es)) ≡ faults hs s (takes_action ps) (plain_expr e) ++ all_faults hs s (others ps) (plain_exprs (drop (i + 1) es))
  faults_at es i e ps lt is =
      at_drop_more (λ ys. all_faults hs s ps (plain_exprs ys)) es i e lt
      ∙ (ap (λ y. all_faults hs s ps (plain_exprs (y ∷ drop (i + 1) es))) (sym is) ∙ ap (all_faults hs s ps) (plain_exprs_more e (drop (i + 1) es)))

  module _ (es : List Expr) (i : ℕ) (e : Expr) (ps next : List Param) (as_action : Bool) (lt : i < length es)
      (is : e ≡ get_or es i e) (action : as_action ≡ takes_action ps) (behind : next ≡ others ps) where
    pub next_least : (l l' whole : Option Fault) → l' ≡ kept l (faults hs s as_action (plain_expr e)) → kept l (all_faults hs s ps (plain_exprs (drop i es))) ≡ whole
        → kept l' (all_faults hs s next (plain_exprs (drop (i + 1) es))) ≡ whole
    next_least l l' whole walked so_far =
        ap (λ k. kept k (all_faults hs s next (plain_exprs (drop (i + 1) es)))) walked
        ∙ (sym (kept_append l (faults hs s as_action (plain_expr e)) (all_faults hs s next (plain_exprs (drop (i + 1) es))))
        ∙ (ap (λ b. kept l (faults hs s b (plain_expr e) ++ all_faults hs s next (plain_exprs (drop (i + 1) es)))) action
        ∙ (ap (λ qs. kept l (faults hs s (takes_action ps) (plain_expr e) ++ all_faults hs s qs (plain_exprs (drop (i + 1) es)))) behind
        ∙ (ap (kept l) (sym (faults_at es i e ps lt is)) ∙ so_far))))

  pub end_least : (es : List Expr) (i : ℕ) (ps : List Param) (l whole : Option Fault) → length es ≤ i → kept l (all_faults hs s ps (plain_exprs (drop i es))) ≡ whole → l ≡ whole
  end_least es i ps l whole le so_far =
      ap (kept l) (ap (all_faults hs s ps) (sym plain_exprs_none) ∙ sym (at_drop_all (λ ys. all_faults hs s ps (plain_exprs ys)) es i le)) ∙ so_far
