-- Readers of single fields, and of lists.
use Rattle.std.proofs.Common.{◌≡◌, ◌<◌, ◌≤◌, inl, inr, ℕ, zero, suc, ℤ, ltb, List, [], ◌∷◌, ◌++◌, length, take, drop, slice_index, Result, Ok, Err, refl, sym, ap, subst, ◌∙◌, append_assoc, arith}
use Rattle.std.proofs.Common.{lit<}
use Rattle.std.specs.Prelude.{if◌then◌else◌}
use Rattle.std.specs.List.{AllByRecursion, flat_map}
use Rattle.std.specs.Int.{w32, byte_at as byte_of, bytes_low_first, cast_signed, cast_unsigned}
use Rattle.std.specs.Str.{bytes_eq}
use Rattle.std.proofs.lemmas.Bool.{ltb-false, le-ltb}
use Rattle.std.proofs.lemmas.List.{append-nil, length-append, length-take, take_at, drop_at, take-append-drop}
use Rattle.std.proofs.lemmas.Int.{of_z-to_z, to_z-of_z}
use Rattle.std.proofs.Math.Facts.{sfits_to_z, Fits-of_z}
use Rattle.std.proofs.lemmas.Slice.Eq.{bytes_eq-Decides}
use Rattle.byteorder.specs.Endian.{little_from, little_number}
use Rattle.byteorder.specs.Numbers.{little_from-cons, little_from-take, little_from-lt, little_number-reads_back, length-bytes_low_first}
use Rattle.state_format.specs.Parts.{AreStateBytes, IsNumber, IsSigned, IsBlob, IsList}
use Rattle.state_format.specs.Fields.{Fields, joined, number, blob, magic, list_of, number_fields, signed_fields, blob_fields}
use Rattle.state_format.specs.Reading.{Reader, ◌>>=◌, followed, many, number_at, signed_at, blob_at, magic_at, list_at}
use Rattle.state_format.proofs.Readers.{IsReader, single, via-reader, followed-reader, many-reader, bytes-behind, bytes-front, ok_is, err_is, done, bind_ok, answered, tested, chosen_true}
use Rattle.state_format.proofs.Readers.{chosen_false, takes_false}

-- ---- numbers

byte-below : (bytes : List ℕ) → AreStateBytes bytes → (k : ℕ) → slice_index bytes k < 256
byte-below [] h k = omega arith
byte-below (b ∷ bytes) h zero = h.0
byte-below (b ∷ bytes) h (suc k) = byte-below bytes h.1 k

byte_of-below : (i x : ℕ) → byte_of i x < 256
byte_of-below zero x = omega arith
byte_of-below (suc i) x = omega arith

low-bytes : (i n x : ℕ) → AreStateBytes (bytes_low_first i n x)
low-bytes i zero x = tt
low-bytes i (suc n) x = (byte_of-below i x, low-bytes (suc i) n x)

-- a number has one spelling
one-number : (n : ℕ) (xs ys : List ℕ) → length xs ≡ n → length ys ≡ n → AreStateBytes xs → AreStateBytes ys → little_from 0 n xs ≡ little_from 0 n ys → xs ≡ ys
one-number zero [] [] lx ly hx hy e = refl
one-number zero (x ∷ xs) ys lx ly hx hy e = absurd cc
one-number zero [] (y ∷ ys) lx ly hx hy e = absurd cc
one-number (suc n) [] ys lx ly hx hy e = absurd cc
one-number (suc n) (x ∷ xs) [] lx ly hx hy e = absurd cc
one-number (suc n) (x ∷ xs) (y ∷ ys) lx ly hx hy e =
    let mx = little_from-cons 0 n x xs in
    let my = little_from-cons 0 n y ys in
    let low = hx.0 in
    let lower = hy.0 in
    let head : x ≡ y = omega (arith, mx, my, e, low, lower) in
    let tail : little_from 0 n xs ≡ little_from 0 n ys = omega (arith, mx, my, e, low, lower) in
    let rest : xs ≡ ys = one-number n xs ys (omega (arith, lx)) (omega (arith, ly)) hx.1 hy.1 tail in
    cc

front-length : (n : ℕ) (xs : List ℕ) → n ≤ length xs → length (take n xs) ≡ n
front-length n xs h = omega (arith, length-take n xs)

take-bytes : (n : ℕ) (xs : List ℕ) → AreStateBytes xs → AreStateBytes (take n xs)
take-bytes n xs h = bytes-front (take n xs) (drop n xs) (subst AreStateBytes (sym (take-append-drop n xs)) h)

-- the bytes of the number in the first bytes are these
number-again : (n : ℕ) (xs : List ℕ) → AreStateBytes xs → n ≤ length xs → bytes_low_first 0 n (little_from 0 n xs) ≡ take n xs
number-again n xs h long =
    let x : ℕ = little_from 0 n xs in
    let back : little_from 0 n (bytes_low_first 0 n x ++ []) ≡ x = little_number-reads_back n x [] (little_from-lt 0 n xs (byte-below xs h)) in
    let left : little_from 0 n (bytes_low_first 0 n x) ≡ x = ap (little_from 0 n) (sym (append-nil (bytes_low_first 0 n x))) ∙ back in
    one-number n (bytes_low_first 0 n x) (take n xs) (length-bytes_low_first 0 n x) (front-length n xs long)
    (low-bytes 0 n x) (take-bytes n xs h) (left ∙ sym (little_from-take 0 n n xs (omega arith)))

pub number-stops : (size : ℕ) (bytes : List ℕ) (left : ℕ) → number_at size bytes ≡ Err left → left ≡ length bytes
unfolding number_at
number-stops size bytes left e = elim (tested (ltb (length bytes) size)) [
  | inl t ↦ sym (err_is (ℕ × List ℕ) _ _ (chosen_true (ltb (length bytes) size) (Err (length bytes)) (done (little_number size bytes, drop size bytes)) (Err left) t e))
  | inr t ↦ let no : done (little_number size bytes, drop size bytes)
      ≡ Err left = chosen_false (ltb (length bytes) size) (Err (length bytes))
      (done (little_number size bytes, drop size bytes)) (Err left) t e in absurd cc
]

pub number-reader : (size : ℕ) → IsReader (IsNumber size) (number_fields size) (number_at size)
unfolding number number_at
number-reader size = single (IsNumber size) (number size) (number_at size) sound again (number-stops size) 0 (omega (arith, little_from-lt 0 size [] (byte-below [] tt)))
  where
    sound : (bytes : List ℕ) (x : ℕ × List ℕ) → AreStateBytes bytes → number_at size bytes ≡ Ok x → IsNumber size x.0 × (bytes ≡ number size x.0 ++ x.1)
    sound bytes x h e = elim (tested (ltb (length bytes) size)) [
      | inl t ↦ let no : Err (length bytes) ≡ done x = chosen_true (ltb (length bytes) size) (Err (length bytes)) (done (little_number size bytes, drop size bytes)) (done x) t e in absurd cc
      | inr t ↦
          let long : size ≤ length bytes = ltb-false _ _ t in
          let same : (little_number size bytes, drop size bytes)
          ≡ x = ok_is _ _ (chosen_false (ltb (length bytes) size) (Err (length bytes))
          (done (little_number size bytes, drop size bytes)) (done x) t e) in
          let parts : bytes ≡ number size (little_number size bytes)
          ++ drop size bytes = sym (take-append-drop size bytes)
          ∙ ap (λ (l : List ℕ). l ++ drop size bytes) (sym (number-again size bytes h long)) in
          subst (λ (z : ℕ × List ℕ). IsNumber size z.0 × (bytes ≡ number size z.0 ++ z.1)) same (little_from-lt 0 size bytes (byte-below bytes h), parts)
    ]

    again : (n : ℕ) (rest : List ℕ) → IsNumber size n → number_at size (number size n ++ rest) ≡ Ok (n, rest)
    again n rest h =
        let len = length-bytes_low_first 0 size n in
        let all = length-append (number size n) rest in
        let long : size ≤ length (number size n ++ rest) = omega (arith, len, all) in
        let first : little_number size (number size n ++ rest) ≡ n = little_number-reads_back size n rest h in
        let behind : drop size (number size n ++ rest) ≡ rest = drop_at (number size n) rest size len in
        takes_false (ltb (length (number size n ++ rest)) size) (Err (length (number size n ++ rest)))
        (done (little_number size (number size n ++ rest), drop size (number size n ++ rest))) (le-ltb _ _ long)
        ∙ ap (λ (z : ℕ). done (z, drop size (number size n ++ rest))) first ∙ ap (λ (l : List ℕ). done (n, l)) behind

-- ---- signed numbers

pub signed-reader : IsReader IsSigned signed_fields signed_at
unfolding number
signed-reader = via-reader (IsNumber 4) (number_fields 4) IsSigned signed_fields (cast_signed w32) (number_at 4) (number-reader 4) makes onto
  where
    makes : (n : ℕ) → IsNumber 4 n → IsSigned (cast_signed w32 n) × (signed_fields (cast_signed w32 n) ≡ number_fields 4 n)
    makes n h = (sfits_to_z (record { fits = h }), ap (number_fields 4) (of_z-to_z w32 n h))

    onto : (z : ℤ) → IsSigned z → (n : ℕ) × (IsNumber 4 n × (cast_signed w32 n ≡ z))
    onto z h = (cast_unsigned w32 z, ((Fits-of_z h).fits, to_z-of_z w32 z h))

-- ---- blobs

pub blob-reader : IsReader IsBlob blob_fields blob_at
unfolding blob_at
blob-reader = single IsBlob blob blob_at sound again stops [] (lit< tt, tt)
  where
    sound : (bytes : List ℕ) (x : List ℕ × List ℕ) → AreStateBytes bytes → blob_at bytes ≡ Ok x → IsBlob x.0 × (bytes ≡ blob x.0 ++ x.1)
    sound bytes x h e =
        let m = bind_ok (number_at 4 bytes) (λ n. (if ltb (length n.1) n.0 then Err (length bytes) else Ok (take n.0 n.1, drop n.0 n.1))) x e in
        let n : ℕ × List ℕ = m.0 in
        let s = (number-reader 4).sound bytes n h m.1.0 in
        let behind : AreStateBytes n.1 = bytes-behind (joined (number_fields 4 n.0)) n.1 (subst AreStateBytes s.1 h) in
        elim (tested (ltb (length n.1) n.0)) [
          | inl t ↦ let no : Err (length bytes) ≡ done x = chosen_true (ltb (length n.1) n.0) (Err (length bytes)) (done (take n.0 n.1, drop n.0 n.1)) (done x) t m.1.1 in absurd cc
          | inr t ↦
              let long : n.0 ≤ length n.1 = ltb-false _ _ t in
              let same : (take n.0 n.1, drop n.0 n.1) ≡ x = ok_is _ _ (chosen_false (ltb (length n.1) n.0) (Err (length bytes)) (done (take n.0 n.1, drop n.0 n.1)) (done x) t m.1.1) in
              let len : length (take n.0 n.1) ≡ n.0 = front-length n.0 n.1 long in
              let counted : IsNumber 4 (length (take n.0 n.1)) = subst (IsNumber 4) (sym len) s.0 in
              let head : joined (number_fields 4 n.0) ++ n.1 ≡ number 4 n.0 ++ n.1 = ap (λ (l : List ℕ). l ++ n.1) (append-nil (number 4 n.0)) in
              let parts : bytes ≡ blob (take n.0 n.1) ++ drop n.0 n.1 =
              s.1 ∙ head ∙ ap (λ (l : List ℕ). number 4 n.0 ++ l) (sym (take-append-drop n.0 n.1)) ∙ sym (append_assoc (number 4 n.0) (take n.0 n.1) (drop n.0 n.1))
              ∙ ap (λ (k : ℕ). (number 4 k ++ take n.0 n.1) ++ drop n.0 n.1) (sym len) in
              subst (λ (z : List ℕ × List ℕ). IsBlob z.0 × (bytes ≡ blob z.0 ++ z.1)) same ((counted, take-bytes n.0 n.1 behind), parts)
        ]

    again : (text : List ℕ) (rest : List ℕ) → IsBlob text → blob_at (blob text ++ rest) ≡ Ok (text, rest)
    again text rest h =
        let bytes : List ℕ = blob text ++ rest in
        let same : bytes ≡ joined (number_fields 4 (length text)) ++ (text ++ rest) =
        append_assoc (number 4 (length text)) text rest ∙ ap (λ (l : List ℕ). l ++ (text ++ rest)) (sym (append-nil (number 4 (length text)))) in
        let read : number_at 4 bytes ≡ Ok (length text, text ++ rest) = ap (number_at 4) same ∙ (number-reader 4).again (length text) (text ++ rest) h.0 in
        let all = length-append text rest in
        let long : length text ≤ length (text ++ rest) = omega (arith, all) in
        ap (λ (r : Result (ℕ × List ℕ) ℕ). r >>= λ n. (if ltb (length n.1) n.0 then Err (length bytes) else Ok (take n.0 n.1, drop n.0 n.1))) read
        ∙ takes_false (ltb (length (text ++ rest)) (length text)) (Err (length bytes)) (done (take (length text) (text ++ rest), drop (length text) (text ++ rest))) (le-ltb _ _ long)
        ∙ ap (λ (l : List ℕ). done (l, drop (length text) (text ++ rest))) (take_at text rest (length text) refl) ∙ ap (λ (l : List ℕ). done (text, l)) (drop_at text rest (length text) refl)

    stops : (bytes : List ℕ) (left : ℕ) → blob_at bytes ≡ Err left → left ≡ length bytes
    stops bytes left e = elim (answered (number_at 4 bytes)) [
      | inl y ↦
          let n : ℕ × List ℕ = y.0 in
          let there : (if ltb (length n.1) n.0 then Err (length bytes) else done (take n.0 n.1, drop n.0 n.1)) ≡ Err left =
          sym (ap (λ (r : Result (ℕ × List ℕ) ℕ). r >>= λ n. (if ltb (length n.1) n.0 then Err (length bytes) else done (take n.0 n.1, drop n.0 n.1))) y.1) ∙ e in
          elim (tested (ltb (length n.1) n.0)) [
            | inl t ↦ sym (err_is (List ℕ × List ℕ) _ _ (chosen_true (ltb (length n.1) n.0) (Err (length bytes)) (done (take n.0 n.1, drop n.0 n.1)) (Err left) t there))
            | inr t ↦ let no : done (take n.0 n.1, drop n.0 n.1)
                ≡ Err left = chosen_false (ltb (length n.1) n.0) (Err (length bytes))
                (done (take n.0 n.1, drop n.0 n.1)) (Err left) t there in absurd cc
          ]
      | inr y ↦
          let there : Err y.0 ≡ Err left = sym (ap (λ (r : Result (ℕ × List ℕ) ℕ). r >>= λ n. (if ltb (length n.1) n.0 then Err (length bytes) else done (take n.0 n.1, drop n.0 n.1))) y.1) ∙ e in
          sym (err_is (List ℕ × List ℕ) _ _ there) ∙ number-stops 4 bytes y.0 y.1
    ]

-- ---- the bytes of the format's name

pub magic-reader : IsReader (λ (x : Unit {0}). Unit {0}) (λ x. magic ∷ []) magic_at
unfolding magic_at
magic-reader = single (λ (x : Unit {0}). Unit {0}) (λ x. magic) magic_at sound again stops tt tt
  where
    sound : (bytes : List ℕ) (x : Unit {0} × List ℕ) → AreStateBytes bytes → magic_at bytes ≡ Ok x → Unit {0} × (bytes ≡ magic ++ x.1)
    sound bytes x h e = elim (tested (ltb (length bytes) 8)) [
      | inl t ↦ let no : Err (length bytes) ≡ done x = chosen_true (ltb (length bytes) 8) _ _ (done x) t e in absurd cc
      | inr t ↦
          let there : (if bytes_eq (take 8 bytes) magic then done (tt, drop 8 bytes) else Err (length bytes)) ≡ done x = chosen_false (ltb (length bytes) 8) _ _ (done x) t e in
          elim (tested (bytes_eq (take 8 bytes) magic)) [
            | inl u ↦
                let same : (tt, drop 8 bytes) ≡ x = ok_is _ _ (chosen_true (bytes_eq (take 8 bytes) magic) (done (tt, drop 8 bytes)) (Err (length bytes)) (done x) u there) in
                let front : take 8 bytes ≡ magic = (bytes_eq-Decides (take 8 bytes) magic).0 u in
                let parts : bytes ≡ magic ++ drop 8 bytes = sym (take-append-drop 8 bytes) ∙ ap (λ (l : List ℕ). l ++ drop 8 bytes) front in
                subst (λ (z : Unit {0} × List ℕ). Unit {0} × (bytes ≡ magic ++ z.1)) same (tt, parts)
            | inr u ↦ let no : Err (length bytes) ≡ done x = chosen_false (bytes_eq (take 8 bytes) magic) (done (tt, drop 8 bytes)) (Err (length bytes)) (done x) u there in absurd cc
          ]
    ]

    again : (x : Unit {0}) (rest : List ℕ) → Unit {0} → magic_at (magic ++ rest) ≡ Ok (x, rest)
    again x rest h = takes_false (ltb (length (magic ++ rest)) 8) (Err (length (magic ++ rest))) (done (x, rest)) (le-ltb (length (magic ++ rest)) 8 (omega arith))

    stops : (bytes : List ℕ) (left : ℕ) → magic_at bytes ≡ Err left → left ≡ length bytes
    stops bytes left e = elim (tested (ltb (length bytes) 8)) [
      | inl t ↦ sym (err_is (Unit {0} × List ℕ) _ _ (chosen_true (ltb (length bytes) 8) _ _ (Err left) t e))
      | inr t ↦
          let there : (if bytes_eq (take 8 bytes) magic then done (tt, drop 8 bytes) else Err (length bytes)) ≡ Err left = chosen_false (ltb (length bytes) 8) _ _ (Err left) t e in
          elim (tested (bytes_eq (take 8 bytes) magic)) [
            | inl u ↦ let no : done (tt, drop 8 bytes) ≡ Err left = chosen_true (bytes_eq (take 8 bytes) magic) (done (tt, drop 8 bytes)) (Err (length bytes)) (Err left) u there in absurd cc
            | inr u ↦ sym (err_is (Unit {0} × List ℕ) _ _ (chosen_false (bytes_eq (take 8 bytes) magic) (done (tt, drop 8 bytes)) (Err (length bytes)) (Err left) u there))
          ]
    ]

-- ---- lists

pub list-reader : {A : Type 0} (Has : A → Type 0) (f : A → Fields) (p : Reader A) → IsReader Has f p → IsReader (IsList Has) (list_of f) (list_at p)
unfolding list_at
list-reader {A = A} Has f p r =
    via-reader (λ (x : ℕ × List A). IsNumber 4 x.0 × ((length x.1 ≡ x.0) × AllByRecursion Has x.1))
    (λ x. number_fields 4 x.0 ++ flat_map f x.1) (IsList Has) (list_of f) (λ x. x.1)
    (followed (number_at 4) (λ n. many n p))
    (followed-reader (IsNumber 4) (λ n l. (length l ≡ n) × AllByRecursion Has l) (number_fields 4) (λ n. flat_map f) (number_at 4) (λ n. many n p) (number-reader 4) (λ n h. many-reader Has f p n r))
    (λ x h. ((subst (IsNumber 4) (sym h.1.0) h.0, h.1.1), ap (λ (n : ℕ). number 4 n ∷ flat_map f x.1) h.1.0))
    (λ l h. ((length l, l), ((h.0, (refl, h.1)), refl)))
