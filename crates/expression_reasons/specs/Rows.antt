-- What is found in a row, part by part, for the walks here and in the crate above.
use Rattle.std.proofs.Common.{◌≡◌, ℕ, ◌+◌, ◌<◌, ◌≤◌, List, [], ◌∷◌, ◌++◌, length, drop, get_or, Option, sym, ap, ◌∙◌}
use Rattle.std.proofs.lemmas.List.{at_drop_more, at_drop_all}
use Rattle.typing_rules.specs.Verdicts.{after}
use Rattle.expression_reasons.specs.declared.reason.Reason.{Reason}
use Rattle.expression_reasons.specs.Seen.{Node, seen, seen_append}

pub record RowLaws {C R : Type 0} (after : C → R → C) (own_nodes : C → R → List Node)
    (Nodes : C → List R → List Node) (After : C → List R → C) : Type 0 where
  pub nodes_more : (c : C) (r : R) (rs : List R) → Nodes c (r ∷ rs) ≡ own_nodes c r ++ Nodes (after c r) rs
  pub nodes_none : (c : C) → Nodes c [] ≡ []
  pub after_more : (c : C) (r : R) (rs : List R) → After c (r ∷ rs) ≡ After (after c r) rs
  pub after_none : (c : C) → After c [] ≡ c

module _ {C R : Type 0} {after : C → R → C} {own_nodes : C → R → List Node}
    {Nodes : C → List R → List Node} {After : C → List R → C}
    (laws : RowLaws after own_nodes Nodes After) (rs : List R) (i : ℕ) where
  module _ (d e : R) (lt : i < length rs) (is : e ≡ get_or rs i d) (c c' : C) (next : c' ≡ after c e) where
    nodes_at : Nodes c (drop i rs) ≡ own_nodes c e ++ Nodes (after c e) (drop (i + 1) rs)
    nodes_at = at_drop_more (Nodes c) rs i d lt
        ∙ (ap (λ y. Nodes c (y ∷ drop (i + 1) rs)) (sym is) ∙ laws.nodes_more c e (drop (i + 1) rs))

    after_at : After c (drop i rs) ≡ After (after c e) (drop (i + 1) rs)
    after_at = at_drop_more (After c) rs i d lt
        ∙ (ap (λ y. After c (y ∷ drop (i + 1) rs)) (sym is) ∙ laws.after_more c e (drop (i + 1) rs))

    pub row_found : (k : ℕ) (l l' whole : Option Reason) → l' ≡ seen k l (own_nodes c e)
        → seen k l (Nodes c (drop i rs)) ≡ whole → seen k l' (Nodes c' (drop (i + 1) rs)) ≡ whole
    row_found k l l' whole walked so_far =
        ap (λ o. seen k o (Nodes c' (drop (i + 1) rs))) walked
        ∙ (ap (λ s. seen k (seen k l (own_nodes c e)) (Nodes s (drop (i + 1) rs))) next
        ∙ (sym (seen_append k l (own_nodes c e) (Nodes (after c e) (drop (i + 1) rs)))
        ∙ (ap (seen k l) (sym nodes_at) ∙ so_far)))

    pub row_sight : (whole : C) → After c (drop i rs) ≡ whole → After c' (drop (i + 1) rs) ≡ whole
    row_sight whole so_far = ap (λ s. After s (drop (i + 1) rs)) next ∙ (sym after_at ∙ so_far)

  module _ (le : length rs ≤ i) (c : C) where
    pub row_end_found : (k : ℕ) (l whole : Option Reason) → seen k l (Nodes c (drop i rs)) ≡ whole → l ≡ whole
    row_end_found k l whole so_far = ap (seen k l)
        (sym (laws.nodes_none c) ∙ sym (at_drop_all (Nodes c) rs i le)) ∙ so_far

    pub row_end_sight : (whole : C) → After c (drop i rs) ≡ whole → c ≡ whole
    row_end_sight whole so_far = sym (laws.after_none c) ∙ (sym (at_drop_all (After c) rs i le) ∙ so_far)
