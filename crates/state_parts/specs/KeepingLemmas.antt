-- How lists of parts are made one by one. No contract speaks of these lemmas: they serve the proofs
-- here and of the states above.
use Rattle.std.proofs.Common.{◌≡◌, ◌<◌, ◌≤◌, ℕ, zero, suc, ◌+◌, List, [], ◌∷◌, ◌++◌, length, take, drop, get_or, map, sym, ap, refl, ◌∙◌, add-one, subst, arith}
use Rattle.std.specs.Prelude.{Bool, true, false, ◌&&◌, IsTrue, Some, slice_get}
use Rattle.std.specs.List.{AllByRecursion, list_all}
use Rattle.std.proofs.lemmas.List.{drop_all}
use Rattle.state_format.specs.Parts.{IsNumber}
use Rattle.state_parts.specs.Keeping.{IsPartOf, ArePartsOf}

-- ---- lists, member by member

taken_more : {A B : Type 0} (f : A → B) (xs : List A) (i : ℕ) (x : A) → i < length xs
    → x ≡ get_or xs i x → map f (take (suc i) xs) ≡ map f (take i xs) ++ f x ∷ []
taken_more f [] i x h e = absurd (omega arith)
taken_more f (y ∷ ys) zero x h e = ap (λ z. f z ∷ []) (sym e)
taken_more f (y ∷ ys) (suc i) x h e = ap (λ (l : List _). f y ∷ l)
    (taken_more f ys i x (omega arith) e)

-- one member more of those that were made
pub map_more : {A B : Type 0} (f : A → B) (xs : List A) (i : ℕ) (x : A) (y : B) (old new : List B)
    → old ≡ map f (take i xs) → new ≡ old ++ y ∷ [] → y ≡ f x
    → i < length xs → x ≡ get_or xs i x → new ≡ map f (take (i + 1) xs)
map_more f xs i x y old new before grown is h e =
    grown ∙ ap (λ (l : List _). l ++ y ∷ []) before ∙ ap (λ z. map f (take i xs) ++ z ∷ []) is
    ∙ sym (taken_more f xs i x h e)
    ∙ ap (λ (k : ℕ). map f (take k xs)) (sym (add-one i))

drop_more : {A : Type 0} (xs : List A) (i : ℕ) (x : A) → i < length xs → x ≡ get_or xs i x
    → drop i xs ≡ x ∷ drop (suc i) xs
drop_more [] i x h e = absurd (omega arith)
drop_more (y ∷ ys) zero x h e = ap (λ z. z ∷ ys) (sym e)
drop_more (y ∷ ys) (suc i) x h e = drop_more ys i x (omega arith) e

-- the rest from a member on
pub drop_at : {A : Type 0} (xs : List A) (i : ℕ) (x : A) → i < length xs → x ≡ get_or xs i x
    → drop i xs ≡ x ∷ drop (i + 1) xs
drop_at xs i x h e = drop_more xs i x h e ∙ ap (λ (k : ℕ). x ∷ drop k xs) (sym (add-one i))

pub all_got : {A : Type 0} (P : A → Type 0) (xs : List A) (i : ℕ) (x : A) → AllByRecursion P xs
    → slice_get xs i ≡ Some x → P x
all_got P [] i x all at = absurd cc
all_got P (y ∷ xs) zero x all at = let same : y ≡ x = cc in subst P same all.0
all_got P (y ∷ xs) (suc i) x all at = all_got P xs i x all.1 at

-- ---- one more behind a list

map_behind : {A B : Type 0} (f : B → A) (ps : List B) (p : B) (rest : List A)
    → map f (ps ++ p ∷ []) ++ rest ≡ map f ps ++ f p ∷ rest
map_behind f [] p rest = refl
map_behind f (q ∷ ps) p rest = ap (λ (l : List _). f q ∷ l) (map_behind f ps p rest)

pub all_behind : {B : Type 0} (P : B → Type 0) (ps : List B) (p : B) → AllByRecursion P ps → P p
    → AllByRecursion P (ps ++ p ∷ [])
all_behind P [] p all is = (is, tt)
all_behind P (q ∷ ps) p all is = (all.0, all_behind P ps p all.1 is)

both : (a b : Bool) → IsTrue a → IsTrue b → IsTrue (a && b)
both true b x y = y
both false b x y = absurd cc

left_of : (a b : Bool) → IsTrue (a && b) → IsTrue a
left_of true b t = refl
left_of false b t = absurd cc

right_of : (a b : Bool) → IsTrue (a && b) → IsTrue b
right_of true b t = t
right_of false b t = absurd cc

pub test_behind : {B : Type 0} (t : B → Bool) (ps : List B) (p : B) → IsTrue (list_all t ps)
    → IsTrue (t p) → IsTrue (list_all t (ps ++ p ∷ []))
test_behind t [] p all is = both (t p) true is refl
test_behind t (q ∷ ps) p all is = both (t q) (list_all t (ps ++ p ∷ []))
    (left_of (t q) (list_all t ps) all) (test_behind t ps p (right_of (t q) (list_all t ps) all) is)

length_behind : {B : Type 0} (ps : List B) (p : B) → length (ps ++ p ∷ []) ≡ suc (length ps)
length_behind [] p = refl
length_behind (q ∷ ps) p = ap suc (length_behind ps p)

pub count_more : {B : Type 0} (ps new : List B) (p : B) (i : ℕ) → length ps ≡ i → new ≡ ps ++ p ∷ []
    → length new ≡ i + 1
count_more ps new p i is grown = ap length grown ∙ length_behind ps p ∙ ap suc is ∙ sym (add-one i)

behind_none : {A : Type 0} (xs : List A) → xs ++ [] ≡ xs
behind_none [] = refl
behind_none (x ∷ xs) = ap (λ (l : List _). x ∷ l) (behind_none xs)

-- ---- parts that are made

-- parts of the values before the rest, so many
pub record IsKeeping {A B : Type 0} (tells : B → A) (Is : B → Type 0) (is_short : B → Bool)
    (xs rest : List A) (i : ℕ) (ps : List B) : Type 0 where
  pub same : map tells ps ++ rest ≡ xs
  pub form : AllByRecursion Is ps
  pub short : IsTrue (list_all is_short ps)
  pub count : length ps ≡ i

pub keep_none : {A B : Type 0} (tells : B → A) (Is : B → Type 0) (is_short : B → Bool) (xs : List A)
    (ps : List B) → ps ≡ [] → IsKeeping tells Is is_short xs xs 0 ps
keep_none tells Is is_short xs ps none = subst (IsKeeping tells Is is_short xs xs 0) (sym none)
    (record { same = refl; form = tt; short = refl; count = refl })

pub keep_more : {A B : Type 0} (tells : B → A) (Is : B → Type 0) (is_short : B → Bool) (xs : List A)
    (x : A) (rest : List A) (i : ℕ) (ps new : List B) (p : B)
    → IsKeeping tells Is is_short xs (x ∷ rest) i ps → new ≡ ps ++ p ∷ []
    → IsPartOf tells Is is_short x p → IsKeeping tells Is is_short xs rest (i + 1) new
keep_more tells Is is_short xs x rest i ps new p before grown is =
    subst (IsKeeping tells Is is_short xs rest (i + 1)) (sym grown) (record {
      same = map_behind tells ps p rest ∙ ap (λ z. map tells ps ++ z ∷ rest) is.same ∙ before.same;
      form = all_behind Is ps p before.form is.form;
      short = test_behind is_short ps p before.short is.short;
      count = length_behind ps p ∙ ap suc before.count ∙ sym (add-one i);
    })

-- the same of a number, which is read by any default
got_same : {A : Type 0} (xs : List A) (i : ℕ) (d e : A) → i < length xs
    → get_or xs i d ≡ get_or xs i e
got_same [] i d e h = absurd (omega arith)
got_same (x ∷ xs) zero d e h = refl
got_same (x ∷ xs) (suc i) d e h = got_same xs i d e (omega arith)

pub keep_all : {A B : Type 0} (tells : B → A) (Is : B → Type 0) (is_short : B → Bool)
    (xs rest : List A) (i : ℕ) (ps : List B) → IsKeeping tells Is is_short xs rest i ps
    → rest ≡ [] → ArePartsOf tells Is is_short xs ps
keep_all tells Is is_short xs rest i ps before end = record {
  same = sym (behind_none (map tells ps)) ∙ ap (λ (l : List _). map tells ps ++ l) (sym end)
      ∙ before.same;
  form = before.form;
  short = before.short;
}

pub keep_end : {A B : Type 0} (tells : B → A) (Is : B → Type 0) (is_short : B → Bool) (xs : List A)
    (i : ℕ) (ps : List B) → IsKeeping tells Is is_short xs (drop i xs) i ps
    → length xs ≤ i → ArePartsOf tells Is is_short xs ps
keep_end tells Is is_short xs i ps before end = keep_all tells Is is_short xs
    (drop i xs) i ps before (drop_all i xs end)

pub map_same : {A : Type 0} (xs : List A) → map (λ x. x) xs ≡ xs
map_same [] = refl
map_same (x ∷ xs) = ap (λ (l : List _). x ∷ l) (map_same xs)
