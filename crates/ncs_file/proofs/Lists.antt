use Rattle.std.proofs.Common.{◌≡◌, ◌≤◌, ◌+◌, ◌++◌, ◌-◌, ◌∷◌, [], ℕ, List, length, take, sym, ◌∙◌, ap, arith, refl, true, false, replicate, append_assoc, Bool}
use Rattle.std.proofs.lemmas.List as lists
use Rattle.ncs_code.specs.File.{magic}
use Rattle.ncs_code.specs.Spelling.{four}

-- a prefix at least as long as the list is the list
pub take_all : {A : Type 0} (n : ℕ) (xs : List A) → length xs ≤ n → xs ≡ take n xs
take_all n xs h = sym (lists.take_all n xs h)

pub magic_front : (n : ℕ) → take 9 (magic ++ four n) ≡ magic
magic_front n = refl

pub mark_next : (n : ℕ) (old : List Bool) → 1 ≤ n → (old ++ true ∷ replicate (n - 1) false) ++ false ∷ [] ≡ old ++ true ∷ replicate (n + 1 - 1) false
mark_next n old some =
    let count : n - 1 + 1 ≡ n + 1 - 1 = omega arith in
    append_assoc old (true ∷ replicate (n - 1) false) (false ∷ []) ∙ ap (λ (rest : List Bool). old ++ true ∷ rest) (lists.replicate_more (n - 1) false ∙ ap (λ k. replicate k false) count)
