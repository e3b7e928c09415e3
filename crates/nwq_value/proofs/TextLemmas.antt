use Rattle.std.proofs.Common.{◌≡◌, ◌≤◌, ◌+◌, ◌++◌, ◌-◌, ℕ, List, length, take, sym, ◌∙◌, ap, arith}
use Rattle.std.proofs.lemmas.List as lists
use Rattle.std.proofs.Math.Seq.{take-append-add}

-- a prefix at least as long as the list is the list
pub take_all : {A : Type 0} (n : ℕ) (xs : List A) → length xs ≤ n → xs ≡ take n xs
take_all n xs h = sym (lists.take_all n xs h)

-- what is left of the room is filled from the second list
pub take_joined : {A : Type 0} (n : ℕ) (xs ys : List A) → length xs ≤ n → xs ++ take (n - length xs) ys ≡ take n (xs ++ ys)
take_joined n xs ys h =
    let whole : length xs + (n - length xs) ≡ n = omega arith
    in sym (take-append-add xs ys (n - length xs)) ∙ ap (λ k. take k (xs ++ ys)) whole
