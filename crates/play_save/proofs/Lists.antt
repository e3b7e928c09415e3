-- Lists that are made, and tested, member by member.
use Rattle.std.proofs.Common.{◌≡◌, ◌<◌, ◌≤◌, ℕ, zero, suc, ◌-◌, List, [], ◌∷◌, length, take, drop, get_or, sym, ap, refl, ◌∙◌, subst, arith}
use Rattle.std.specs.Prelude.{Bool, true, false, ◌&&◌, ◌↔◌, IsTrue}
use Rattle.std.specs.List.{AllByRecursion, list_all}
use Rattle.state_objects.specs.ListLemmas.{both_true}

-- a member is what all are
pub all_at : {A : Type 0} (P : A → Type 0) (xs : List A) (i : ℕ) (x : A) → AllByRecursion P xs → i < length xs → x ≡ get_or xs i x → P x
all_at P [] i x all h e = absurd (omega arith)
all_at P (y ∷ ys) zero x all h e = subst P (sym e) all.0
all_at P (y ∷ ys) (suc i) x all h e = all_at P ys i x all.1 (omega arith) e

pub take_whole : {A : Type 0} (n : ℕ) (xs : List A) → length xs ≤ n → take n xs ≡ xs
take_whole zero [] h = refl
take_whole zero (x ∷ xs) h = absurd (omega arith)
take_whole (suc n) [] h = refl
take_whole (suc n) (x ∷ xs) h = ap (λ (l : List _). x ∷ l) (take_whole n xs (omega arith))

-- what a slice up to the end shows
pub rest_whole : {A : Type 0} (j : ℕ) (xs : List A) → take (length xs - j) (drop j xs) ≡ drop j xs
rest_whole zero xs = take_whole (length xs - 0) xs (omega arith)
rest_whole (suc j) [] = take_whole (0 - suc j) [] (omega arith)
rest_whole (suc j) (x ∷ xs) =
    let same : length (x ∷ xs) - suc j ≡ length xs - j = omega arith in
    ap (λ (k : ℕ). take k (drop j xs)) same ∙ rest_whole j xs

pub and_true : (a b : Bool) → IsTrue a → IsTrue b → IsTrue (a && b)
and_true true b x y = y
and_true false b x y = absurd cc

-- tests of all members
pub tests_all : {A : Type 0} (p : A → Bool) (P : A → Type 0) (xs : List A) → ((x : A) → IsTrue (p x) ↔ P x) → IsTrue (list_all p xs) ↔ AllByRecursion P xs
tests_all p P [] each = ((λ t. tt), (λ all. refl))
tests_all p P (x ∷ xs) each = (
  (λ t. ((each x).0 (both_true (p x) (list_all p xs) t).0, (tests_all p P xs each).0 (both_true (p x) (list_all p xs) t).1)),
  (λ all. and_true (p x) (list_all p xs) ((each x).1 all.0) ((tests_all p P xs each).1 all.1)),
)
