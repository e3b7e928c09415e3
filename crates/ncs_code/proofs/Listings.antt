-- The instructions of bytes that spell instructions are those.
use Rattle.std.proofs.Common.{◌≡◌, ◌≤◌, ◌++◌, ◌∷◌, [], ℕ, suc, zero, List, length, drop, ◌∙◌, ap, sym, arith, refl}
use Rattle.std.specs.List.{AllByRecursion}
use Rattle.std.proofs.lemmas.List.{drop_at, length-append}
use Rattle.ncs_code.specs.Plain.{PlainOp}
use Rattle.ncs_code.specs.Spelling.{spelling, op_size, IsOp}
use Rattle.ncs_code.specs.Reading.{op_of, ops_of}
use Rattle.ncs_code.specs.File.{spellings}
use Rattle.ncs_code.proofs.Sizes.{size_is_length, spelling_some}
use Rattle.ncs_code.proofs.Readings.{op_again}

-- one step, where there are bytes
ops_of_next : (n : ℕ) (bytes : List ℕ) → 1 ≤ length bytes → ops_of (suc n) bytes ≡ op_of bytes ∷ ops_of n (drop (op_size (op_of bytes)) bytes)
unfolding ops_of
ops_of_next n [] some = absurd (omega arith)
ops_of_next n (b ∷ bytes) some = refl

ops_of_none : (n : ℕ) → ops_of n [] ≡ []
unfolding ops_of
ops_of_none zero = refl
ops_of_none (suc n) = refl

pub ops_of_spellings : (n : ℕ) (ops : List PlainOp) → AllByRecursion IsOp ops → length (spellings ops) ≤ n → ops_of n (spellings ops) ≡ ops
ops_of_spellings n [] each long = ops_of_none n
ops_of_spellings zero (op ∷ ops) each long =
    absurd (omega (arith, spelling_some op, length-append (spelling op) (spellings ops), long))
ops_of_spellings (suc n) (op ∷ ops) each long =
    let size = length-append (spelling op) (spellings ops) in
    let step = ops_of_next n (spelling op ++ spellings ops) (omega (arith, spelling_some op, size)) in
    let first : op_of (spelling op ++ spellings ops) ≡ op = op_again op (spellings ops) each.0 in
    let rest : drop (op_size op) (spelling op ++ spellings ops) ≡ spellings ops = drop_at (spelling op) (spellings ops) (op_size op) (sym (size_is_length op)) in
    step ∙ rw (first, rest) (ap (λ (others : List PlainOp). op ∷ others) (ops_of_spellings n ops each.1 (omega (arith, spelling_some op, size, long))))
