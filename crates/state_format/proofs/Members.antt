-- Reading members one after the other.
use Rattle.std.proofs.Common.{◌≡◌, ℕ, suc, List, [], ◌∷◌, ◌++◌, Result, Ok, Err, refl, sym, ap, subst, ◌∙◌, append_assoc}
use Rattle.std.proofs.lemmas.List.{append-nil}
use Rattle.state_format.specs.declared.fault.Stop.{Stop}
use Rattle.state_format.specs.declared.fault.Stop.TheVariants as stop
use Rattle.state_format.specs.Reading.{Reader, ◌>>=◌, StateFails, mapped, many}

-- what was read before stands in front
abbrev pub with_front : {A : Type 0} → List A → Result (List A × List ℕ) ℕ → Result (List A × List ℕ) ℕ
with_front front read = mapped (λ xs. front ++ xs) read

one_more : {A : Type 0} (front : List A) (x : A) (read : Result (List A × List ℕ) ℕ)
    → with_front front (mapped (λ (z : A × List A). z.0 ∷ z.1) (mapped (λ y. (x, y)) read))
    ≡ with_front (front ++ x ∷ []) read
one_more {A = A} front x (Ok y) = ap (λ l. Ok (l, y.1)) (sym (append_assoc front (x ∷ []) y.0))
one_more {A = A} front x (Err left) = refl

pub members_step : {A : Type 0} (p : Reader A) (k j : ℕ) (front now : List A) (bytes rest : List ℕ) (x : A) (all : Result (List A × List ℕ) ℕ)
    → with_front front (many k p bytes) ≡ all → k ≡ suc j → p bytes ≡ Ok (x, rest) → now ≡ front ++ x ∷ [] → with_front now (many j p rest) ≡ all
members_step {A = A} p k j front now bytes rest x all before more read grown =
    let at : with_front front (many (suc j) p bytes) ≡ all = subst (λ (i : ℕ). with_front front (many i p bytes) ≡ all) more before in
    let opened : with_front front (mapped (λ (z : A × List A). z.0 ∷ z.1) (mapped (λ y. (x, y)) (many j p rest))) ≡ all =
    sym (ap (λ (r : Result (A × List ℕ) ℕ). with_front front (mapped (λ (z : A × List A). z.0 ∷ z.1) (r >>= λ u. mapped (λ y. (u.0, y)) (many j p u.1)))) read) ∙ at in
    ap (λ (l : List A). with_front l (many j p rest)) grown ∙ sym (one_more front x (many j p rest)) ∙ opened

pub members_end : {A : Type 0} (p : Reader A) (k : ℕ) (front : List A) (bytes : List ℕ) (all : Result (List A × List ℕ) ℕ)
    → with_front front (many k p bytes) ≡ all → k ≡ 0 → all ≡ Ok (front, bytes)
members_end {A = A} p k front bytes all before none =
    let at : with_front front (many 0 p bytes) ≡ all = subst (λ (i : ℕ). with_front front (many i p bytes) ≡ all) none before in
    sym at ∙ ap (λ l. Ok (l, bytes)) (append-nil front)
