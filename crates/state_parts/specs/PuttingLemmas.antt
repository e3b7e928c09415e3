-- How parts are put one by one. No contract speaks of these lemmas: they serve the proofs here and of
-- the states above.
use Rattle.std.proofs.Common.{◌≡◌, ◌<◌, ◌≤◌, ℕ, zero, suc, ◌+◌, List, [], ◌∷◌, ◌++◌, length, take, drop, get_or, map, sym, ap, refl, ◌∙◌, add-one, subst, arith, append_assoc}
use Rattle.std.specs.Prelude.{Bool, Some, slice_get}
use Rattle.std.specs.List.{flat_map, AllByRecursion}
use Rattle.std.proofs.lemmas.List.{append-nil, take_all}
use Rattle.state_format.specs.Parts.{IsNumber}
use Rattle.state_format.specs.Fields.{Fields, joined, number, list_of}
use Rattle.state_format.specs.WritingLemmas.{fields_behind, put_listed}
use Rattle.state_parts.specs.Keeping.{IsPartOf, ArePartsOf}
use Rattle.state_parts.specs.KeepingLemmas.{IsKeeping, keep_none, keep_more, keep_end}

-- a member that is read with a default, and one that is asked for
pub asked : {A : Type 0} (xs : List A) (i : ℕ) (x : A) → i < length xs → x ≡ get_or xs i x
    → slice_get xs i ≡ Some x
asked [] i x h e = absurd (omega arith)
asked (y ∷ xs) zero x h e = ap (λ z. Some z) (sym e)
asked (y ∷ xs) (suc i) x h e = asked xs i x (omega arith) e

-- a number that is read with any default
pub asked_by : {A : Type 0} (xs : List A) (i : ℕ) (d : A) → i < length xs
    → slice_get xs i ≡ Some (get_or xs i d)
asked_by [] i d h = absurd (omega arith)
asked_by (y ∷ xs) zero d h = refl
asked_by (y ∷ xs) (suc i) d h = asked_by xs i d (omega arith)

pub asked_within : {A : Type 0} (xs : List A) (i : ℕ) (x : A) → slice_get xs i ≡ Some x
    → i < length xs
asked_within [] i x at = absurd cc
asked_within (y ∷ xs) zero x at = omega arith
asked_within (y ∷ xs) (suc i) x at = let rest = asked_within xs i x at in omega (arith, rest)

-- ---- what is taken off the front

pub moved_more : {A : Type 0} (all rest now left xs : List A) (x : A) → all ++ rest ≡ xs
    → now ≡ all ++ x ∷ [] → slice_get rest 0 ≡ Some x → left ≡ drop 1 rest → now ++ left ≡ xs
moved_more all [] now left xs x before grown at is = absurd cc
moved_more all (y ∷ rest) now left xs x before grown at is =
    let same : y ≡ x = cc in
    ap (λ (l : List _). l ++ left) grown ∙ append_assoc all (x ∷ []) left
    ∙ ap (λ (l : List _). all ++ x ∷ l) is
    ∙ ap (λ z. all ++ z ∷ rest) (sym same) ∙ before

pub moved_all : {A : Type 0} (all rest xs : List A) → all ++ rest ≡ xs → rest ≡ [] → all ≡ xs
moved_all all rest xs before none = sym (append-nil all) ∙ ap (λ (l : List _). all ++ l) (sym none)
    ∙ before

taken_suc : {A B : Type 0} (f : A → B) (xs : List A) (i : ℕ) (x : A) → slice_get xs i ≡ Some x
    → map f (take (suc i) xs) ≡ map f (take i xs) ++ f x ∷ []
taken_suc f [] i x at = absurd cc
taken_suc f (y ∷ xs) zero x at = let same : y ≡ x = cc in ap (λ z. f z ∷ []) same
taken_suc f (y ∷ xs) (suc i) x at = ap (λ (l : List _). f y ∷ l) (taken_suc f xs i x at)

taken_behind : {A B : Type 0} (f : A → B) (xs : List A) (i : ℕ) (x : A) → slice_get xs i ≡ Some x
    → map f (take (i + 1) xs) ≡ map f (take i xs) ++ f x ∷ []
taken_behind f xs i x at = ap (λ (k : ℕ). map f (take k xs)) (add-one i) ∙ taken_suc f xs i x at

mapped_count : {A B : Type 0} (f : A → B) (xs : List A) → length xs ≡ length (map f xs)
mapped_count f [] = refl
mapped_count f (x ∷ xs) = ap suc (mapped_count f xs)

-- the rest from a member that is asked for
got_next : {A : Type 0} (xs : List A) (i : ℕ) (x : A) → slice_get xs i ≡ Some x
    → drop i xs ≡ x ∷ drop (suc i) xs
got_next [] i x at = absurd cc
got_next (y ∷ xs) zero x at = (let e = at in cc)
got_next (y ∷ xs) (suc i) x at = got_next xs i x at

keep_got : {A B : Type 0} (tells : B → A) (Is : B → Type 0) (is_short : B → Bool) (xs : List A)
    (i : ℕ) (x : A) (ps new : List B) (p : B)
    → IsKeeping tells Is is_short xs (drop i xs) i ps → new ≡ ps ++ p ∷ []
    → IsPartOf tells Is is_short x p → slice_get xs i ≡ Some x
    → IsKeeping tells Is is_short xs (drop (i + 1) xs) (i + 1) new
keep_got tells Is is_short xs i x ps new p before grown is at =
    subst (λ (k : ℕ). IsKeeping tells Is is_short xs (drop k xs) (i + 1) new) (sym (add-one i))
    (keep_more tells Is is_short xs x (drop (suc i) xs) i ps new p
    (subst (λ (l : List _). IsKeeping tells Is is_short xs l i ps)
    (got_next xs i x at) before) grown is)

-- what a writer took, where the parts of so many values were put
pub record ArePut {A B : Type 0} (tells : B → A) (Is : B → Type 0) (is_short : B → Bool)
    (fields : B → Fields) (part : A → B) (xs : List A) (first : List ℕ) (i : ℕ)
    (now : List ℕ) : Type 0 where
  pub put : now ≡ first ++ joined (flat_map fields (map part (take i xs)))
  pub parts : IsKeeping tells Is is_short xs (drop i xs) i (map part (take i xs))

module _ {A B : Type 0} (tells : B → A) (Is : B → Type 0) (is_short : B → Bool)
    (fields : B → Fields) (part : A → B) where
  none_put : (xs : List A) (first : List ℕ)
      → first ≡ first ++ joined (flat_map fields (map part (take 0 xs)))
  none_put [] first = sym (append-nil first)
  none_put (x ∷ xs) first = sym (append-nil first)

  none_kept : (xs : List A) → IsKeeping tells Is is_short xs (drop 0 xs) 0 (map part (take 0 xs))
  none_kept [] = keep_none tells Is is_short [] [] refl
  none_kept (x ∷ xs) = keep_none tells Is is_short (x ∷ xs) [] refl

  pub put_none : (xs : List A) (first : List ℕ)
      → ArePut tells Is is_short fields part xs first 0 first
  put_none xs first = record { put = none_put xs first; parts = none_kept xs }

  pub put_got : (xs : List A) (first : List ℕ) (i : ℕ) (x : A) (old new : List ℕ)
      → ArePut tells Is is_short fields part xs first i old → new ≡ old ++ joined (fields (part x))
      → IsPartOf tells Is is_short x (part x) → slice_get xs i ≡ Some x
      → ArePut tells Is is_short fields part xs first (i + 1) new
  put_got xs first i x old new before grown is at = record {
    put = grown ∙ ap (λ (l : List ℕ). l ++ joined (fields (part x))) before.put
        ∙ append_assoc first (joined (flat_map fields (map part (take i xs))))
        (joined (fields (part x)))
        ∙ ap (λ (l : List ℕ). first ++ l)
        (sym (fields_behind fields (map part (take i xs)) (part x)))
        ∙ ap (λ (l : List B). first ++ joined (flat_map fields l))
        (sym (taken_behind part xs i x at));
    parts = keep_got tells Is is_short xs i x (map part (take i xs)) (map part (take (i + 1) xs))
        (part x) before.parts (taken_behind part xs i x at) is at;
  }

  pub put_end : (xs : List A) (first : List ℕ) (i : ℕ) (now : List ℕ)
      → ArePut tells Is is_short fields part xs first i now → length xs ≤ i
      → now ≡ first ++ joined (flat_map fields (map part xs))
  put_end xs first i now before end = before.put
      ∙ ap (λ (l : List A). first ++ joined (flat_map fields (map part l))) (take_all i xs end)

  pub parts_end : (xs : List A) (first : List ℕ) (i : ℕ) (now : List ℕ)
      → ArePut tells Is is_short fields part xs first i now → length xs ≤ i
      → ArePartsOf tells Is is_short xs (map part xs)
  parts_end xs first i now before end =
      subst (λ (l : List A). ArePartsOf tells Is is_short xs (map part l)) (take_all i xs end)
      (keep_end tells Is is_short xs i (map part (take i xs)) before.parts end)

-- members behind their count
pub listed_put : {A B : Type 0} (fields : B → Fields) (part : A → B) (xs : List A) (n : ℕ)
    (old counted new : List ℕ) → counted ≡ old ++ number 4 n → n ≡ length xs
    → new ≡ counted ++ joined (flat_map fields (map part xs))
    → new ≡ old ++ joined (list_of fields (map part xs))
listed_put fields part xs n old counted new one count all = put_listed fields
    (map part xs) n old counted new one (count ∙ mapped_count part xs) all

pub listed_few : {A B : Type 0} (part : A → B) (xs : List A) → length xs ≤ 4294967295
    → IsNumber 4 (length (map part xs))
listed_few part xs few = subst (IsNumber 4) (mapped_count part xs) (omega arith)

-- ---- members that stand for themselves

pub flat_mapped : {A B : Type 0} (fields : B → Fields) (part : A → B) (xs : List A)
    → flat_map (λ x. fields (part x)) (map (λ x. x) xs) ≡ flat_map fields (map part xs)
flat_mapped fields part [] = refl
flat_mapped fields part (x ∷ xs) = ap (λ (l : Fields). fields (part x) ++ l)
    (flat_mapped fields part xs)
