-- Writing members one after the other.
use Rattle.std.proofs.Common.{◌≡◌, ◌<◌, ℕ, zero, suc, ◌+◌, List, [], ◌∷◌, ◌++◌, length, take, get_or, sym, ap, ◌∙◌, append_assoc, add-one, arith}
use Rattle.std.specs.List.{flat_map}
use Rattle.std.proofs.lemmas.List.{append-nil}
use Rattle.state_format.specs.Fields.{Fields, joined}
use Rattle.state_format.specs.WritingLemmas.{joined_append}

-- one member more of those that were taken
taken_more : {A : Type 0} (f : A → Fields) (xs : List A) (i : ℕ) (x : A) → i < length xs → x ≡ get_or xs i x → joined (flat_map f (take (suc i) xs)) ≡ joined (flat_map f (take i xs)) ++ joined (f x)
taken_more f [] i x h e = absurd (omega arith)
taken_more f (y ∷ ys) zero x h e =
    ap joined (append-nil (f y)) ∙ ap (λ z. joined (f z)) (sym e)
taken_more f (y ∷ ys) (suc i) x h e =
    joined_append (f y) (flat_map f (take (suc i) ys)) ∙ ap (λ (l : List ℕ). joined (f y) ++ l) (taken_more f ys i x (omega arith) e)
    ∙ sym (append_assoc (joined (f y)) (joined (flat_map f (take i ys))) (joined (f x)))
    ∙ ap (λ (l : List ℕ). l ++ joined (f x)) (sym (joined_append (f y) (flat_map f (take i ys))))

pub put_more : {A : Type 0} (f : A → Fields) (first old new : List ℕ) (xs : List A) (i : ℕ) (x : A)
    → old ≡ first ++ joined (flat_map f (take i xs)) → new ≡ old ++ joined (f x) → i < length xs → x ≡ get_or xs i x
    → new ≡ first ++ joined (flat_map f (take (i + 1) xs))
put_more f first old new xs i x before grown h e =
    grown ∙ ap (λ (l : List ℕ). l ++ joined (f x)) before ∙ append_assoc first _ _
    ∙ ap (λ (l : List ℕ). first ++ l) (sym (taken_more f xs i x h e)) ∙ ap (λ (k : ℕ). first ++ joined (flat_map f (take k xs))) (sym (add-one i))
