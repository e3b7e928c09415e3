use Rattle.std.proofs.Common.{◌≡◌, ◌≤◌, ◌<◌, ℕ, ◌+◌, List, [], ◌∷◌, ◌++◌, length, get_or, take, sym, ap, ◌∙◌, Result, Ok, Err}
use Rattle.std.proofs.lemmas.List.{take_more, take_all, flat_map_more}
use Rattle.std.specs.List.{flat_map}
use Rattle.std.specs.Result.{IsErr, OnOk, OnErr}
use Rattle.nwq_text.proofs.TakenBack.{taken_back, taken_back_after}

-- one more text was appended
pub one_more : {A : Type 0} (text : A → List ℕ) (before middle now : List ℕ) (xs : List A) (i : ℕ) (x d : A) → i < length xs → x ≡ get_or xs i d
    → middle ≡ before ++ flat_map text (take i xs) → now ≡ middle ++ text x → now ≡ before ++ flat_map text (take (i + 1) xs)
one_more text before middle now xs i x d h is so e =
    e ∙ ap (λ m. m ++ text x) so ∙ flat_map_more text before (take i xs) x ∙ ap (λ y. before ++ flat_map text (take i xs ++ y ∷ [])) is
    ∙ ap (λ ys. before ++ flat_map text ys) (sym (take_more xs i d h))

-- all texts were appended
pub all_appended : {A : Type 0} (text : A → List ℕ) (before now : List ℕ) (xs : List A) (i : ℕ) → length xs ≤ i
    → now ≡ before ++ flat_map text (take i xs) → now ≡ before ++ flat_map text xs
all_appended text before now xs i h e = e ∙ ap (λ ys. before ++ flat_map text ys) (take_all i xs h)

refused : {T E : Type 0} (result : Result T E) (P Q : Type 0) → IsErr result → Q → OnOk result P × OnErr result Q
refused (Ok x) P Q h q = absurd cc
refused (Err e) P Q h q = (tt, q)

-- what a refusal leaves is taken back, also where it left a part
pub refused_after : {T E : Type 0} (result : Result T E) (P : Type 0) (before more between after : List ℕ) → IsErr result → between ≡ before ++ more
    → take (length between) after ≡ between → OnOk result P × OnErr result (take (length before) after ≡ before)
refused_after result P before more between after h is kept = refused result P _ h (taken_back_after before more between after is kept)

-- and where it left nothing
pub refused_at : {T E : Type 0} (result : Result T E) (P : Type 0) (before more between after : List ℕ) → IsErr result → between ≡ before ++ more
    → after ≡ between → OnOk result P × OnErr result (take (length before) after ≡ before)
refused_at result P before more between after h is kept = refused result P _ h (taken_back before more after (kept ∙ is))
