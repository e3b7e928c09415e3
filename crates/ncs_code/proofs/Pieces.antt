-- Numbers as the bytes that they were read from.
use Rattle.std.proofs.Common.{◌≡◌, ◌++◌, ◌+◌, ◌-◌, ◌<◌, ◌≤◌, ◌^◌, ℕ, zero, suc, List, [], ◌∷◌, length, take, drop, get_or, refl, ap, sym, ◌∙◌, arith, ltb, false, inl, inr}
use Rattle.std.proofs.Math.Seq.{take-append_seam, take-add}
use Rattle.std.specs.Int.{w16, w32, to_be_bytes, from_be_bytes, cast_signed}
use Rattle.std.proofs.lemmas.Int.{of_z-to_z}
use Rattle.std.proofs.lemmas.Bool.{le-ltb, cases_lt}
use Rattle.std.proofs.lemmas.Nat.{be_bytes_2, be_bytes_4}
use Rattle.std.proofs.lemmas.List.{drop_more, length-take, length-drop, get_or-drop, get_or-take, get_or_past}
use Rattle.ncs_code.specs.Spelling.{two, four, signed, first_two, lit_size}

abbrev pub IsBytes : List ℕ → Type 0
IsBytes bytes = (i : ℕ) → get_or bytes i 0 < 256

IsBytes-take : (n : ℕ) (bytes : List ℕ) → IsBytes bytes → IsBytes (take n bytes)
IsBytes-take n bytes h i =
    elim (cases_lt i n) [
      | inl lt ↦ rw (get_or-take n bytes i 0 lt) (h i)
      | inr le ↦ rw (get_or_past (take n bytes) i 0 (omega (arith, length-take n bytes))) (omega arith)
    ]

-- what was appended is taken back
pub taken_back : {A : Type 0} (xs ys : List A) → take (length xs) (xs ++ ys) ≡ xs
taken_back xs ys = take-append_seam xs ys

pub taken_back_to : {A : Type 0} (n : ℕ) (xs ys zs : List A) → n ≡ length xs → zs ≡ xs ++ ys → take n zs ≡ xs
taken_back_to n xs ys zs size is = ap (take n) is ∙ ap (λ m. take m (xs ++ ys)) size ∙ taken_back xs ys

-- the front item and what is left of a rest
next : (xs : List ℕ) (i j : ℕ) → j ≡ i + 1 → i < length xs → drop i xs ≡ get_or xs i 0 ∷ drop j xs
next xs i j is lt = rw is (drop_more xs i 0 lt)

two_items : (xs : List ℕ) (at : ℕ) → at + 2 ≤ length xs → take 2 (drop at xs) ≡ get_or xs at 0 ∷ get_or xs (at + 1) 0 ∷ []
two_items xs at h =
    let first = next xs at (at + 1) (omega arith) (omega arith) in
    let second = next xs (at + 1) (at + 2) (omega arith) (omega arith) in
    rw (first, second) refl

four_items : (xs : List ℕ) (at : ℕ) → at + 4 ≤ length xs → take 4 (drop at xs) ≡ get_or xs at 0 ∷ get_or xs (at + 1) 0 ∷ get_or xs (at + 2) 0 ∷ get_or xs (at + 3) 0 ∷ []
four_items xs at h =
    let first = next xs at (at + 1) (omega arith) (omega arith) in
    let second = next xs (at + 1) (at + 2) (omega arith) (omega arith) in
    let third = next xs (at + 2) (at + 3) (omega arith) (omega arith) in
    let fourth = next xs (at + 3) (at + 4) (omega arith) (omega arith) in
    rw (first, second, third, fourth) refl

pair_fits : (x y : ℕ) → x < 256 → y < 256 → IsBytes (x ∷ y ∷ [])
pair_fits x y f g zero = f
pair_fits x y f g (suc zero) = g
pair_fits x y f g (suc (suc i)) = omega arith

four_fit : (x y z w : ℕ) → x < 256 → y < 256 → z < 256 → w < 256 → IsBytes (x ∷ y ∷ z ∷ w ∷ [])
four_fit x y z w f g h k zero = f
four_fit x y z w f g h k (suc zero) = g
four_fit x y z w f g h k (suc (suc zero)) = h
four_fit x y z w f g h k (suc (suc (suc zero))) = k
four_fit x y z w f g h k (suc (suc (suc (suc i)))) = omega arith

pub two_read : (xs : List ℕ) (at n : ℕ) → IsBytes xs → at + 2 ≤ length xs → n ≡ from_be_bytes w16 (get_or xs at 0 ∷ get_or xs (at + 1) 0 ∷ []) → two n ≡ take 2 (drop at xs)
unfolding two
two_read xs at n fits h e =
    be_bytes_2 (get_or xs at 0 ∷ get_or xs (at + 1) 0 ∷ []) n refl (pair_fits _ _ (fits at) (fits (at + 1))) e ∙ sym (two_items xs at h)

pub four_read : (xs : List ℕ) (at n : ℕ) → IsBytes xs → at + 4 ≤ length xs
    → n ≡ from_be_bytes w32 (get_or xs at 0 ∷ get_or xs (at + 1) 0 ∷ get_or xs (at + 2) 0 ∷ get_or xs (at + 3) 0 ∷ [])
    → four n ≡ take 4 (drop at xs)
unfolding four
four_read xs at n fits h e =
    be_bytes_4 (get_or xs at 0 ∷ get_or xs (at + 1) 0 ∷ get_or xs (at + 2) 0 ∷ get_or xs (at + 3) 0 ∷ []) n refl
    (four_fit _ _ _ _ (fits at) (fits (at + 1)) (fits (at + 2)) (fits (at + 3))) e ∙ sym (four_items xs at h)

-- four bytes read as a signed number
pub signed_read : (n : ℕ) → n < 2 ^ 32 → signed (cast_signed w32 n) ≡ four n
unfolding signed four
signed_read n h = ap (to_be_bytes w32) (of_z-to_z w32 n h)

pub text_read : (xs : List ℕ) (n : ℕ) → IsBytes xs → 2 ≤ length xs → lit_size 0x05 xs ≤ length xs → n ≡ from_be_bytes w16 (get_or xs 0 0 ∷ get_or xs 1 0 ∷ [])
    → two (length (take (2 + n - 2) (drop 2 xs))) ++ take (2 + n - 2) (drop 2 xs) ≡ take (lit_size 0x05 xs) xs
unfolding first_two
text_read xs n fits has long e =
    let test : ltb (length xs) 2 ≡ false = le-ltb _ _ has in
    let n-is : n ≡ first_two xs = omega (arith, e) in
    let size-is : lit_size 0x05 xs ≡ 2 + n = rw (test, n-is) refl in
    let count : 2 + n - 2 ≡ n = omega arith in
    let len : length (take n (drop 2 xs)) ≡ n = omega (arith, length-take n (drop 2 xs), length-drop 2 xs, size-is, long) in
    rw (count, len, size-is, two_read xs 0 n fits has e) (sym (take-add 2 n xs))

pub each_byte : (xs : List ℕ) → IsBytes xs → (k d : ℕ) → k < length xs → get_or xs k d < 256
each_byte [] fits k d h = absurd (omega arith)
each_byte (x ∷ xs) fits zero d h = fits 0
each_byte (x ∷ xs) fits (suc k) d h = each_byte xs (λ i. fits (suc i)) k d (omega arith)

pub part_bytes : (xs : List ℕ) (m n : ℕ) → IsBytes xs → (k d : ℕ) → k < length (take n (drop m xs)) → get_or (take n (drop m xs)) k d < 256
part_bytes xs m n fits = each_byte (take n (drop m xs)) (λ i. IsBytes-take n (drop m xs) (λ j. rw get_or-drop (fits (m + j))) i)
