-- A loop over the parts of a node, each walked in what the ones before it leave in sight. These
-- lemmas hold of parts of every type, of which no clause can speak.
use Rattle.std.proofs.Common.{◌≡◌, ℕ, ◌+◌, ◌<◌, ◌≤◌, List, [], ◌∷◌, ◌++◌, length, map, drop, get_or, Option, None, Some, refl, sym, ap, ◌∙◌}
use Rattle.std.proofs.lemmas.List.{append_assoc, append-nil, at_drop_more, at_drop_all, map_push}
use Rattle.std.specs.Option.{option_map}
use Rattle.typing_rules.specs.declared.fault.Fault.{Fault}
use Rattle.typing_rules.specs.Nodes.{kept}
use Rattle.typing_rules.specs.Verdicts.{one_more}
use Rattle.nss_expressions.specs.Rows.{and_one, with_rest}
use Rattle.nss_expressions.specs.Kept.{kept_append}

-- C is what is in sight, R a part of the tree, T what code answers, X and XS what is typed: one,
-- and several.
pub record RowLaws {C R T X XS : Type 0} (V : Option (List T) → Option XS) (v : Option T → Option X)
    (more : Option X → Option XS → Option XS)
    (behind : Option XS → Option XS → Option XS) (after : C → R → C) (one : C → R → Option X)
    (own : C → R → List Fault)
    (Fine : C → List R → Option XS) (Faults : C → List R → List Fault)
    (After : C → List R → C) : Type 0 where
  pub begin : (rest : Option XS) → behind (V (Some [])) rest ≡ rest
  pub step : (all : Option (List T)) (x : Option T) (rest : Option XS)
      → behind (V (and_one all x)) rest ≡ behind (V all) (more (v x) rest)
  pub end : (all : Option (List T)) (c : C) → behind (V all) (Fine c []) ≡ V all
  pub fine_more : (c : C) (r : R) (rs : List R)
      → Fine c (r ∷ rs) ≡ more (one c r) (Fine (after c r) rs)
  pub faults_more : (c : C) (r : R) (rs : List R)
      → Faults c (r ∷ rs) ≡ own c r ++ Faults (after c r) rs
  pub faults_none : (c : C) → Faults c [] ≡ []
  pub after_more : (c : C) (r : R) (rs : List R) → After c (r ∷ rs) ≡ After (after c r) rs
  pub after_none : (c : C) → After c [] ≡ c

module _ {C R T X XS : Type 0} {V : Option (List T) → Option XS} {v : Option T
    → Option X} {more : Option X → Option XS → Option XS}
    {behind : Option XS → Option XS → Option XS} {after : C → R → C} {one : C → R
    → Option X} {own : C → R → List Fault}
    {Fine : C → List R → Option XS} {Faults : C → List R → List Fault} {After : C → List R → C}
    (laws : RowLaws V v more behind after one own Fine Faults After)
    (rs : List R) (i : ℕ) where
  module _ (d e : R) (lt : i < length rs) (is : e ≡ get_or rs i d) (c c' : C)
      (next : c' ≡ after c e) where
    fine_at : Fine c (drop i rs) ≡ more (one c e) (Fine (after c e) (drop (i + 1) rs))
    fine_at = at_drop_more (Fine c) rs i d lt
        ∙ (ap (λ y. Fine c (y ∷ drop (i + 1) rs)) (sym is) ∙ laws.fine_more c e (drop (i + 1) rs))

    faults_at : Faults c (drop i rs) ≡ own c e ++ Faults (after c e) (drop (i + 1) rs)
    faults_at = at_drop_more (Faults c) rs i d lt
        ∙ (ap (λ y. Faults c (y ∷ drop (i + 1) rs)) (sym is)
        ∙ laws.faults_more c e (drop (i + 1) rs))

    after_at : After c (drop i rs) ≡ After (after c e) (drop (i + 1) rs)
    after_at = at_drop_more (After c) rs i d lt
        ∙ (ap (λ y. After c (y ∷ drop (i + 1) rs)) (sym is) ∙ laws.after_more c e (drop (i + 1) rs))

    pub row_value : (all all' : Option (List T)) (x : Option T) (whole : Option XS) → v x ≡ one c e
        → all' ≡ and_one all x
        → behind (V all) (Fine c (drop i rs)) ≡ whole
        → behind (V all') (Fine c' (drop (i + 1) rs)) ≡ whole
    row_value all all' x whole typed added so_far =
        ap (λ a. behind (V a) (Fine c' (drop (i + 1) rs))) added
        ∙ (ap (λ k. behind (V (and_one all x)) (Fine k (drop (i + 1) rs))) next
        ∙ (laws.step all x (Fine (after c e) (drop (i + 1) rs))
        ∙ (ap (λ o. behind (V all) (more o (Fine (after c e) (drop (i + 1) rs)))) typed
        ∙ (ap (behind (V all)) (sym fine_at) ∙ so_far))))

    pub row_least : (l l' whole : Option Fault) → l' ≡ kept l (own c e)
        → kept l (Faults c (drop i rs)) ≡ whole → kept l' (Faults c' (drop (i + 1) rs)) ≡ whole
    row_least l l' whole walked so_far =
        ap (λ k. kept k (Faults c' (drop (i + 1) rs))) walked
        ∙ (ap (λ k. kept (kept l (own c e)) (Faults k (drop (i + 1) rs))) next
        ∙ (sym (kept_append l (own c e) (Faults (after c e) (drop (i + 1) rs)))
        ∙ (ap (kept l) (sym faults_at) ∙ so_far)))

    pub row_sight : (whole : C) → After c (drop i rs) ≡ whole → After c' (drop (i + 1) rs) ≡ whole
    row_sight whole so_far = ap (λ k. After k (drop (i + 1) rs)) next ∙ (sym after_at ∙ so_far)

  module _ (le : length rs ≤ i) (c : C) where
    pub row_end_value : (all : Option (List T)) (whole : Option XS)
        → behind (V all) (Fine c (drop i rs)) ≡ whole → V all ≡ whole
    row_end_value all whole so_far = sym (laws.end all c)
        ∙ (ap (behind (V all)) (sym (at_drop_all (Fine c) rs i le)) ∙ so_far)

    pub row_end_least : (l whole : Option Fault) → kept l (Faults c (drop i rs)) ≡ whole → l ≡ whole
    row_end_least l whole so_far = ap (kept l)
        (sym (laws.faults_none c) ∙ sym (at_drop_all (Faults c) rs i le)) ∙ so_far

    pub row_end_sight : (whole : C) → After c (drop i rs) ≡ whole → c ≡ whole
    row_end_sight whole so_far = sym (laws.after_none c)
        ∙ (sym (at_drop_all (After c) rs i le) ∙ so_far)

-- ---- lists

module _ {A : Type 0} where
  pub rest_begin : (rest : Option (List A)) → with_rest (Some []) rest ≡ rest
  rest_begin None = refl
  rest_begin (Some ys) = refl

  pub rest_step : (all : Option (List A)) (x : Option A) (rest : Option (List A))
      → with_rest (and_one all x) rest ≡ with_rest all (one_more x rest)
  rest_step None x rest = refl
  rest_step (Some xs) None rest = refl
  rest_step (Some xs) (Some x) None = refl
  rest_step (Some xs) (Some x) (Some ys) = ap Some (append_assoc xs (x ∷ []) ys)

  pub rest_end : (all : Option (List A)) → with_rest all (Some []) ≡ all
  rest_end None = refl
  rest_end (Some xs) = ap Some (append-nil xs)

-- each part seen through a function
module _ {T X : Type 0} (f : T → X) where
  mapped_one : (all : Option (List T)) (x : Option T)
      → option_map (map f) (and_one all x) ≡ and_one (option_map (map f) all) (option_map f x)
  mapped_one None x = refl
  mapped_one (Some xs) None = refl
  mapped_one (Some xs) (Some x) = ap Some (map_push f xs x)

  pub mapped_step : (all : Option (List T)) (x : Option T) (rest : Option (List X))
      → with_rest (option_map (map f) (and_one all x)) rest
      ≡ with_rest (option_map (map f) all) (one_more (option_map f x) rest)
  mapped_step all x rest = ap (λ a. with_rest a rest) (mapped_one all x)
      ∙ rest_step (option_map (map f) all) (option_map f x) rest
