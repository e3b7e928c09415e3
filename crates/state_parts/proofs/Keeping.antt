-- Parts of values that are asked for one by one, and what is lent of them.
use Rattle.std.proofs.Common.{◌≡◌, ◌<◌, ◌≤◌, ℕ, zero, suc, ◌+◌, List, [], ◌∷◌, ◌++◌, length, take, drop, get_or, map, sym, ap, refl, ◌∙◌, add-one, subst, arith}
use Rattle.std.specs.Prelude.{Bool, Option, Some, None, slice_get}
use Rattle.std.specs.Borrow.{Bor}
use Rattle.std.specs.Option.{option_copied, option_map}
use Rattle.std.specs.List.{AllByRecursion}
use Rattle.state_format.specs.Parts.{IsNumber}
use Rattle.state_parts.specs.Keeping.{IsPartOf}
use Rattle.state_parts.specs.KeepingLemmas.{IsKeeping, keep_more}

pub got_none : {A : Type 0} (xs : List A) (i : ℕ) → slice_get xs i ≡ None → drop i xs ≡ []
got_none [] zero at = refl
got_none [] (suc i) at = refl
got_none (y ∷ xs) zero at = absurd cc
got_none (y ∷ xs) (suc i) at = got_none xs i at

pub got_within : {A : Type 0} (xs : List A) (i : ℕ) → slice_get xs i ≡ None → length xs ≤ i
got_within [] i at = omega arith
got_within (x ∷ xs) zero at = absurd cc
got_within (x ∷ xs) (suc i) at = let rest = got_within xs i at in omega arith

-- ---- what is lent

pub lent_none : {A : Type 0} (xs : List A) (i : ℕ) (o : Option (Bor A)) → option_copied o ≡ slice_get xs i → o ≡ None → slice_get xs i ≡ None
lent_none xs i o is at = sym is ∙ ap (λ (p : Option (Bor _)). option_copied p) at

pub lent_some : {A : Type 0} (xs : List A) (i : ℕ) (o : Option (Bor A)) (x : Bor A) → option_copied o ≡ slice_get xs i → o ≡ Some x → slice_get xs i ≡ Some x.now
lent_some xs i o x is at = sym is ∙ ap (λ (p : Option (Bor _)). option_copied p) at

pub seen_none : {A B : Type 0} (f : B → A) (xs : List A) (i : ℕ) (o : Option B) → option_map f o ≡ slice_get xs i → o ≡ None → slice_get xs i ≡ None
seen_none f xs i o is at = sym is ∙ ap (λ (p : Option _). option_map f p) at

pub seen_some : {A B : Type 0} (f : B → A) (xs : List A) (i : ℕ) (o : Option B) (x : B) → option_map f o ≡ slice_get xs i → o ≡ Some x → slice_get xs i ≡ Some (f x)
seen_some f xs i o x is at = sym is ∙ ap (λ (p : Option _). option_map f p) at

pub first_left : {A : Type 0} (xs : List A) (i : ℕ) → slice_get (drop i xs) 0 ≡ slice_get xs i
first_left [] zero = refl
first_left [] (suc i) = refl
first_left (x ∷ xs) zero = refl
first_left (x ∷ xs) (suc i) = first_left xs i

left_one : {A : Type 0} (xs : List A) (i : ℕ) → drop 1 (drop i xs) ≡ drop (suc i) xs
left_one [] zero = refl
left_one [] (suc i) = refl
left_one (x ∷ xs) zero = refl
left_one (x ∷ xs) (suc i) = left_one xs i

pub left_more : {A : Type 0} (xs : List A) (i : ℕ) → drop 1 (drop i xs) ≡ drop (i + 1) xs
left_more xs i = left_one xs i ∙ ap (λ (k : ℕ). drop k xs) (sym (add-one i))
