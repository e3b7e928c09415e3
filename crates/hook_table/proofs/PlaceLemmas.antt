-- The first place at which a test passes.
use Rattle.std.proofs.Common.{◌≡◌, ℕ, ◌+◌, ◌<◌, length, Bool, true, false, cond, List, ◌∷◌, drop, get_or, Some, None, sym, ap, ◌∙◌, arith}
use Rattle.std.proofs.lemmas.Iterator.Adapters.{position_from-zero}
use Rattle.std.proofs.lemmas.List.{drop_more, drop_all}
use Rattle.std.specs.List.{position, position_from}

rest_at : {X : Type 0} (test : X → Bool) (xs : List X) (i : ℕ) (x : X) (t : Bool) → i < length xs → x ≡ get_or xs i x → test x ≡ t
    → position_from test i (drop i xs) ≡ cond t (Some i) (position_from test (i + 1) (drop (i + 1) xs))
rest_at test xs i x t inside is passes =
    ap (position_from test i) (drop_more xs i x inside ∙ ap (λ y. y ∷ drop (i + 1) xs) (sym is))
    ∙ ap (λ b. cond b (Some i) (position_from test (i + 1) (drop (i + 1) xs))) passes

-- the place is here
pub place_here : {X : Type 0} (test : X → Bool) (xs : List X) (i : ℕ) (x : X) → i < length xs → x ≡ get_or xs i x → test x ≡ true
    → position_from test i (drop i xs) ≡ position_from test 0 xs → Some i ≡ position test xs
place_here test xs i x inside is passes so =
    sym (rest_at test xs i x true inside is passes) ∙ so ∙ sym (position_from-zero test xs)

-- the place is further on
pub place_on : {X : Type 0} (test : X → Bool) (xs : List X) (i : ℕ) (x : X) → i < length xs → x ≡ get_or xs i x → test x ≡ false
    → position_from test i (drop i xs) ≡ position_from test 0 xs → position_from test (i + 1) (drop (i + 1) xs) ≡ position_from test 0 xs
place_on test xs i x inside is fails so = sym (rest_at test xs i x false inside is fails) ∙ so

-- there is none
pub no_place : {X : Type 0} (test : X → Bool) (xs : List X) (i : ℕ) → i ≡ length xs
    → position_from test i (drop i xs) ≡ position_from test 0 xs → None ≡ position test xs
no_place test xs i end so =
    sym (ap (position_from test i) (drop_all i xs (omega arith))) ∙ so ∙ sym (position_from-zero test xs)
