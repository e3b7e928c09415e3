-- The folder of a name, as the code finds it.
use Rattle.std.proofs.Common.{◌≡◌, ◌∙◌, ℕ, zero, suc, ◌+◌, ◌-◌, ◌<◌, ◌==◌, if◌then◌else◌, List, [], ◌∷◌, ◌++◌, None, Some, length, take, drop, slice_index, slice_get, refl, sym, ap, arith}
use Rattle.std.proofs.lemmas.Option.{same_Some}
use Rattle.std.specs.Option.{option_map}
use Rattle.std.specs.Path.{slash, rfind_below, rsplit_once}
use Rattle.real_files.specs.Disk.{folder_of, front_of}

pub rfind_step : (c : ℕ) (text : List ℕ) (n : ℕ) → 0 < n
    → rfind_below c text n ≡ (if slice_index text (n - 1) == c then Some (n - 1) else rfind_below c text (n - 1))
rfind_step c text zero some = absurd (omega arith)
rfind_step c text (suc n) some = let back : suc n - 1 ≡ n = omega arith in rw back refl

take_next : (name : List ℕ) (place byte : ℕ) → slice_get name place ≡ Some byte → take (place + 1) name ≡ take place name ++ byte ∷ []
take_next [] place byte is = cc
take_next (b ∷ bs) zero byte is = ap (λ x. x ∷ []) (same_Some b byte is)
take_next (b ∷ bs) (suc n) byte is = let later : suc n + 1 ≡ suc (n + 1) = omega arith in rw later (ap (λ xs. b ∷ xs) (take_next bs n byte is))

pub folder_found : (name : List ℕ) (place : ℕ) → rfind_below slash name (length name) ≡ Some place → slice_get name place ≡ Some slash
    → folder_of name ≡ take (place + 1) name
unfolding rsplit_once
folder_found name place is there =
    ap (λ o. front_of (option_map (λ i. (take i name, drop (i + 1) name)) o)) is ∙ sym (take_next name place slash there)

pub folder_none : (name : List ℕ) → rfind_below slash name (length name) ≡ None → folder_of name ≡ []
unfolding rsplit_once
folder_none name is = ap (λ o. front_of (option_map (λ i. (take i name, drop (i + 1) name)) o)) is

pub ruleset folders = (folder_found, folder_none)
