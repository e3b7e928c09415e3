-- The first remarks, and one more.
use Rattle.std.proofs.Common.{arith, ◌≡◌, ◌≤◌, ◌<◌, ◌++◌, ◌∷◌, ℕ, List, [], length, take}
use Rattle.std.proofs.lemmas.List.{length_push, take_all, take_at}

pub none_more : {A : Type 0} (n : ℕ) (xs : List A) (x : A) → length xs ≤ n → n ≤ length xs → take n (xs ++ x ∷ []) ≡ xs
none_more n xs x under over = take_at xs (x ∷ []) n (omega arith)

pub one_more : {A : Type 0} (n : ℕ) (xs : List A) (x : A) → length xs < n → take n (xs ++ x ∷ []) ≡ xs ++ x ∷ []
one_more n xs x less = let more = length_push xs x in take_all n (xs ++ x ∷ []) (omega arith)

pub ruleset kept_lemmas = (none_more, one_more)
