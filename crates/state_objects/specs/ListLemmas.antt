-- Lists that are tested member by member. No contract speaks of these lemmas; they serve the proofs of
-- parts that are made from such lists.
use Rattle.std.proofs.Common.{◌≡◌, ◌<◌, ℕ, zero, suc, List, [], ◌∷◌, length, get_or, refl, sym, subst, arith}
use Rattle.std.specs.Prelude.{Bool, true, false, ◌&&◌, IsTrue}
use Rattle.std.specs.List.{list_all}

pub both_true : (a b : Bool) → IsTrue (a && b) → IsTrue a × IsTrue b
both_true true true t = (refl, refl)
both_true true false t = absurd cc
both_true false b t = absurd cc

pub test_at : {A : Type 0} (p : A → Bool) (xs : List A) (i : ℕ) (x : A) → IsTrue (list_all p xs)
    → i < length xs → x ≡ get_or xs i x → IsTrue (p x)
test_at p [] i x all h e = absurd (omega arith)
test_at p (y ∷ ys) zero x all h e = subst (λ z. IsTrue (p z)) (sym e)
    (both_true (p y) (list_all p ys) all).0
test_at p (y ∷ ys) (suc i) x all h e =
    test_at p ys i x (both_true (p y) (list_all p ys) all).1 (omega arith) e
