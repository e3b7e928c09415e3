-- Variables by their places: how many have each, and those that share one.
use Rattle.std.proofs.Common.{◌≡◌, ◌<◌, ◌≤◌, ℕ, zero, suc, ◌+◌, List, [], ◌∷◌, ◌++◌, length, take, drop, get_or, map, filter, replicate, cond, sym, ap, refl, ◌∙◌, subst, inl, inr, ◌⊎◌, ◌%◌, arith}
use Rattle.std.specs.Prelude.{◌==◌, Result, Ok, Err, IfOk, Some, slice_get, Bool, true, false, IsTrue, ◌↔◌, nat_eq, nat_lt, if◌then◌else◌}
use Rattle.std.specs.List.{AllByRecursion, IsDistinct, list_any}
use Rattle.std.specs.Option.{option_map}
use Rattle.std.specs.Str.{bytes_eq}
use Rattle.std.proofs.lemmas.Bool.{eqb-true}
use Rattle.std.proofs.lemmas.Bool.Decides.{nat_tests}
use Rattle.std.proofs.lemmas.List.{get_or-replicate, length-replicate, take_all}
use Rattle.std.proofs.lemmas.List.Elements.{filter-append}
use Rattle.std.proofs.lemmas.Slice.Eq.{bytes_eq-Decides}
use Rattle.nwq_value.specs.declared.memory.NoMemory.{NoMemory}
use Rattle.local_variables.specs.Variables.{Variable, same_variable}
use Rattle.local_variables.specs.Laws.{SameIsEquivalence}
use Rattle.state_format.specs.declared.parts.Variable.{Variable as Part}
use Rattle.state_format.specs.declared.parts.Variable.TheVariants as variable
use Rattle.state_parts.specs.World.{variable_of}
use Rattle.state_parts.specs.KeepingLemmas.{drop_at, map_more}
use Rattle.state_objects.specs.Places.{hash_of, place_of, once_more, count_at, CountsPlaces, CountsPlace, shares_place}
use Rattle.state_objects.proofs.Short.{neither, none_same}

-- ---- one variable more at its place

both_ways : (b c : Bool) (n m : ℕ) → m ≡ (if c then once_more n else n) → (if b then once_more m else m) ≡ (if c then once_more (if b then once_more n else n) else (if b then once_more n else n))
both_ways true true n m e = ap once_more e
both_ways true false n m e = ap once_more e
both_ways false true n m e = e
both_ways false false n m e = e

count_end : (places place : ℕ) (vs : List Part) (v : Part) →
    count_at places place (vs ++ v ∷ []) ≡ (if nat_eq place (place_of places v) then once_more (count_at places place vs) else count_at places place vs)
count_end places place [] v = refl
count_end places place (x ∷ vs) v =
    both_ways (nat_eq place (place_of places x)) (nat_eq place (place_of places v)) (count_at places place vs) (count_at places place (vs ++ v ∷ [])) (count_end places place vs v)

same_list : {A : Type 0} (xs : List A) → map (λ x. x) xs ≡ xs
same_list [] = refl
same_list (x ∷ xs) = ap (λ (l : List _). x ∷ l) (same_list xs)

pub taken_more : {A : Type 0} (xs : List A) (i : ℕ) (x : A) → i < length xs → x ≡ get_or xs i x → take (i + 1) xs ≡ take i xs ++ x ∷ []
taken_more xs i x h at =
    sym (map_more (λ y. y) xs i x x (take i xs) (take i xs ++ x ∷ []) (sym (same_list (take i xs))) refl refl h at ∙ same_list (take (i + 1) xs))

pub counts_step : (counts new : List ℕ) (vs : List Part) (i : ℕ) (v : Part) → CountsPlaces counts (take i vs) → CountsPlace counts v new → length new ≡ length counts
    → i < length vs → v ≡ get_or vs i v → CountsPlaces new (take (i + 1) vs)
counts_step counts new vs i v before one long h at place inside =
    let n = length counts in
    one place ∙ ap (option_map (λ (m : ℕ). if nat_eq place (place_of n v) then once_more m else m)) (before place (subst (λ k. place < k) long inside))
    ∙ ap Some (sym (count_end n place (take i vs) v)) ∙ ap (λ (l : List Part). Some (count_at n place l)) (sym (taken_more vs i v h at))
    ∙ ap (λ (k : ℕ). Some (count_at k place (take (i + 1) vs))) (sym long)

some_at : (xs : List ℕ) (k : ℕ) → k < length xs → slice_get xs k ≡ Some (get_or xs k 0)
some_at [] k h = absurd (omega arith)
some_at (x ∷ xs) zero h = refl
some_at (x ∷ xs) (suc k) h = some_at xs k (omega arith)

some_same : (a b : ℕ) → Some a ≡ Some b → a ≡ b
some_same a b e = cc

pub counts_none : (counts : List ℕ) (n : ℕ) → counts ≡ replicate n 0 → CountsPlaces counts []
counts_none counts n is place inside =
    let below : place < n = subst (λ k. place < k) (ap length is ∙ length-replicate n 0) inside in
    some_at counts place inside ∙ ap (λ (l : List ℕ). Some (get_or l place 0)) is ∙ ap Some (get_or-replicate n place 0 0 below)

-- ---- variables of one type and name have one place

same_name : (a b : List ℕ) → bytes_eq a b ≡ true → a ≡ b
same_name a b h = (bytes_eq-Decides a b).0 h

same_hash : (v w : Part) → same_variable (variable_of v) (variable_of w) ≡ true → hash_of v ≡ hash_of w
same_hash (variable.Int a n) (variable.Int b m) h = ap (λ (l : List ℕ). hash_of (variable.Int l m)) (same_name a b h)
same_hash (variable.Int a n) (variable.Text b t) h = absurd cc
same_hash (variable.Text a s) (variable.Int b m) h = absurd cc
same_hash (variable.Text a s) (variable.Text b t) h = ap (λ (l : List ℕ). hash_of (variable.Text l t)) (same_name a b h)

same_place : (places : ℕ) (v w : Part) → same_variable (variable_of v) (variable_of w) ≡ true → place_of places v ≡ place_of places w
same_place places v w h = ap (λ (n : ℕ). n % places) (same_hash v w h)

either : (b : Bool) → (b ≡ true) ⊎ (b ≡ false)
either true = inl refl
either false = inr refl

-- those of other places are others
apart_by : (v w : Part) → (same_variable (variable_of v) (variable_of w) ≡ true → ⊥) → same_variable (variable_of v) (variable_of w) ≡ false
apart_by v w never = by_test (either (same_variable (variable_of v) (variable_of w)))
  where
    by_test : (same_variable (variable_of v) (variable_of w) ≡ true) ⊎ (same_variable (variable_of v) (variable_of w) ≡ false) → same_variable (variable_of v) (variable_of w) ≡ false
    by_test (inl t) = absurd (never t)
    by_test (inr f) = f

eq_same : (a b : ℕ) → a ≡ b → nat_eq a b ≡ true
eq_same a b e = grind (arith, nat_tests)

count_most : (places place : ℕ) (vs : List Part) → count_at places place vs ≤ 2
count_most places place [] = omega arith
count_most places place (v ∷ vs) = by_test (nat_eq place (place_of places v)) (count_at places place vs) (count_most places place vs)
  where
    by_test : (b : Bool) (n : ℕ) → n ≤ 2 → (if b then once_more n else n) ≤ 2
    by_test true zero h = omega arith
    by_test true (suc n) h = omega arith
    by_test false n h = h

-- no fewer with one more in front
count_grows : (places place : ℕ) (v : Part) (vs : List Part) → count_at places place vs ≤ count_at places place (v ∷ vs)
count_grows places place v vs = by_test (nat_eq place (place_of places v)) (count_at places place vs) (count_most places place vs)
  where
    by_test : (b : Bool) (n : ℕ) → n ≤ 2 → n ≤ (if b then once_more n else n)
    by_test true zero h = omega arith
    by_test true (suc n) h = omega (arith, h)
    by_test false n h = omega arith

-- a variable at its own place
count_own : (places : ℕ) (v : Part) (vs : List Part) → count_at places (place_of places v) (v ∷ vs) ≡ once_more (count_at places (place_of places v) vs)
count_own places v vs = ap (λ (b : Bool). if b then once_more (count_at places (place_of places v) vs) else count_at places (place_of places v) vs)
    (eq_same (place_of places v) (place_of places v) refl)

-- where none has a place, none is there
none_there : (places : ℕ) (v : Part) (vs : List Part) → count_at places (place_of places v) vs ≡ 0 → AllByRecursion (λ (w : Variable). same_variable (variable_of v) w ≡ false) (map variable_of vs)
none_there places v [] none = tt
none_there places v (w ∷ vs) none =
    (apart_by v w (λ same. absurd (other (count_at places (place_of places v) vs) (eq_same (place_of places v) (place_of places w) (same_place places v w same)))), none_there places v vs rest)
  where
    rest : count_at places (place_of places v) vs ≡ 0
    rest = let grows = count_grows places (place_of places v) w vs in omega (arith, grows, none)

    once_some : (n : ℕ) → once_more n ≡ 0 → ⊥
    once_some zero e = absurd cc
    once_some (suc n) e = absurd cc

    other : (n : ℕ) → nat_eq (place_of places v) (place_of places w) ≡ true → ⊥
    other n t = once_some (count_at places (place_of places v) vs)
        (sym (ap (λ (b : Bool). if b then once_more (count_at places (place_of places v) vs) else count_at places (place_of places v) vs) t) ∙ none)

-- ---- those that share places

filter_with : {A : Type 0} (p : A → Bool) (x : A) (xs : List A) → p x ≡ true → filter p (x ∷ xs) ≡ x ∷ filter p xs
filter_with p x xs is = ap (λ (b : Bool). cond b (x ∷ filter p xs) (filter p xs)) is

filter_without : {A : Type 0} (p : A → Bool) (x : A) (xs : List A) → p x ≡ false → filter p (x ∷ xs) ≡ filter p xs
filter_without p x xs is = ap (λ (b : Bool). cond b (x ∷ filter p xs) (filter p xs)) is

-- the counts are at least those of these
abbrev CountsMore : List ℕ → List Part → Type 0
CountsMore counts vs = (place : ℕ) → place < length counts → count_at (length counts) place vs ≤ get_or counts place 0

place_inside : (places : ℕ) (v : Part) → 0 < places → place_of places v < places
place_inside places v some = omega (arith, some)

lt_not : (a b : ℕ) → nat_lt a b ≡ false → b ≤ a
lt_not a b h = grind (arith, nat_tests)

-- a variable that shares no place is another than those behind it
alone : (counts : List ℕ) (v : Part) (vs : List Part) → 0 < length counts → CountsMore counts (v ∷ vs) → shares_place counts v ≡ false
    → AllByRecursion (λ (w : Variable). same_variable (variable_of v) w ≡ false) (map variable_of vs)
alone counts v vs some more single = none_there n v vs (none (count_at n (place_of n v) vs) below)
  where
    n : ℕ
    n = length counts

    below : once_more (count_at n (place_of n v) vs) ≤ 1
    below = let own = count_own n v vs in let most = more (place_of n v) (place_inside n v some) in let few = lt_not 1 (get_or counts (place_of n v) 0) single in omega (arith, own, most, few)

    none : (m : ℕ) → once_more m ≤ 1 → m ≡ 0
    none zero h = refl
    none (suc m) h = absurd (omega (arith, h))

differ : (counts : List ℕ) (v w : Part) → place_of (length counts) v ≡ place_of (length counts) w → shares_place counts v ≡ true → shares_place counts w ≡ false → ⊥
differ counts v w same shared single = let here = ap (λ (place : ℕ). nat_lt 1 (get_or counts place 0)) same in absurd cc

-- one that shares its place is another than all behind it, where it is another than those that share theirs
among : (counts : List ℕ) (v : Part) (vs : List Part) → shares_place counts v ≡ true
    → AllByRecursion (λ (w : Variable). same_variable (variable_of v) w ≡ false) (map variable_of (filter (shares_place counts) vs))
    → AllByRecursion (λ (w : Variable). same_variable (variable_of v) w ≡ false) (map variable_of vs)
among counts v [] shared all = tt
among counts v (w ∷ vs) shared all = by_test (either (shares_place counts w)) (among counts v vs shared)
  where
    by_test : (shares_place counts w ≡ true) ⊎ (shares_place counts w ≡ false) →
        (AllByRecursion (λ (x : Variable). same_variable (variable_of v) x ≡ false) (map variable_of (filter (shares_place counts) vs))
        → AllByRecursion (λ (x : Variable). same_variable (variable_of v) x ≡ false) (map variable_of vs))
        → AllByRecursion (λ (x : Variable). same_variable (variable_of v) x ≡ false) (map variable_of (w ∷ vs))
    by_test (inl too) more =
        let both = subst (λ (l : List Part). AllByRecursion (λ (x : Variable). same_variable (variable_of v) x ≡ false) (map variable_of l)) (filter_with (shares_place counts) w vs too) all in
        (both.0, more both.1)
    by_test (inr single) more = (
      apart_by v w (λ same. absurd (differ counts v w (same_place (length counts) v w same) shared single)),
      more (subst (λ (l : List Part). AllByRecursion (λ (x : Variable). same_variable (variable_of v) x ≡ false) (map variable_of l)) (filter_without (shares_place counts) w vs single) all),
    )

distinct_more : (counts : List ℕ) (vs : List Part) → 0 < length counts → CountsMore counts vs → IsDistinct same_variable (map variable_of (filter (shares_place counts) vs))
    → IsDistinct same_variable (map variable_of vs)
unfolding IsDistinct
distinct_more counts [] some more apart = tt
distinct_more counts (v ∷ vs) some more apart = by_test (either (shares_place counts v)) (distinct_more counts vs some rest)
  where
    rest : CountsMore counts vs
    rest place inside = let grows = count_grows (length counts) place v vs in let most = more place inside in omega (arith, grows, most)

    by_test : (shares_place counts v ≡ true) ⊎ (shares_place counts v ≡ false)
        → (IsDistinct same_variable (map variable_of (filter (shares_place counts) vs)) → IsDistinct same_variable (map variable_of vs)) → IsDistinct same_variable (map variable_of (v ∷ vs))
    by_test (inl shared) behind =
        let both = subst (λ (l : List Part). IsDistinct same_variable (map variable_of l)) (filter_with (shares_place counts) v vs shared) apart in
        (among counts v vs shared both.0, behind both.1)
    by_test (inr single) behind =
        (alone counts v vs some more single, behind (subst (λ (l : List Part). IsDistinct same_variable (map variable_of l)) (filter_without (shares_place counts) v vs single) apart))

all_fewer : (P : Variable → Type 0) (p : Part → Bool) (vs : List Part) → AllByRecursion P (map variable_of vs) → AllByRecursion P (map variable_of (filter p vs))
all_fewer P p [] all = tt
all_fewer P p (v ∷ vs) all = by_test (p v) (all_fewer P p vs all.1)
  where
    by_test : (b : Bool) → AllByRecursion P (map variable_of (filter p vs)) → AllByRecursion P (map variable_of (cond b (v ∷ filter p vs) (filter p vs)))
    by_test true behind = (all.0, behind)
    by_test false behind = behind

distinct_fewer : (p : Part → Bool) (vs : List Part) → IsDistinct same_variable (map variable_of vs) → IsDistinct same_variable (map variable_of (filter p vs))
unfolding IsDistinct
distinct_fewer p [] apart = tt
distinct_fewer p (v ∷ vs) apart = by_test (p v) (distinct_fewer p vs apart.1)
  where
    by_test : (b : Bool) → IsDistinct same_variable (map variable_of (filter p vs)) → IsDistinct same_variable (map variable_of (cond b (v ∷ filter p vs) (filter p vs)))
    by_test true behind = (all_fewer (λ (w : Variable). same_variable (variable_of v) w ≡ false) p vs apart.0, behind)
    by_test false behind = behind

-- all are distinct where those that share places are
by_places : (counts lent : List ℕ) (vs : List Part) (b : Bool) → lent ≡ counts → 0 < length counts → CountsPlaces counts vs
    → (IsTrue b ↔ IsDistinct same_variable (map variable_of (filter (shares_place lent) vs))) → IsTrue b ↔ IsDistinct same_variable (map variable_of vs)
by_places counts lent vs b same some are test = (
  (λ t. distinct_more counts vs some more (subst (λ (l : List ℕ). IsDistinct same_variable (map variable_of (filter (shares_place l) vs))) same (test.0 t))),
  (λ all. test.1 (distinct_fewer (shares_place lent) vs all)),
)
  where
    more : CountsMore counts vs
    more place inside = let is = some_same (get_or counts place 0) (count_at (length counts) place vs) (sym (some_at counts place inside) ∙ are place inside) in omega (arith, is)

-- ---- what was seen of those that share places

filter_one : {A : Type 0} (p : A → Bool) (x : A) → p x ≡ true → filter p (x ∷ []) ≡ x ∷ []
filter_one p x is = filter_with p x [] is

map_end : {A B : Type 0} (f : A → B) (xs : List A) (x : A) → map f (xs ++ x ∷ []) ≡ map f xs ++ f x ∷ []
map_end f [] x = refl
map_end f (y ∷ xs) x = ap (λ (l : List _). f y ∷ l) (map_end f xs x)

-- one that shares its place
pub seen_more : (p : Part → Bool) (vs : List Part) (i : ℕ) (v : Part) (old new : List Variable) (w : Variable) → old ≡ map variable_of (filter p (take i vs)) → new ≡ old ++ w ∷ []
    → w ≡ variable_of v → i < length vs → v ≡ get_or vs i v → p v ≡ true → new ≡ map variable_of (filter p (take (i + 1) vs))
seen_more p vs i v old new w before grown is h at shared =
    grown ∙ ap (λ (l : List Variable). l ++ w ∷ []) before ∙ ap (λ (x : Variable). map variable_of (filter p (take i vs)) ++ x ∷ []) is
    ∙ sym (ap (λ (l : List Part). map variable_of (filter p l)) (taken_more vs i v h at)
    ∙ ap (map variable_of) (filter-append p (take i vs) (v ∷ []) ∙ ap (λ (l : List Part). filter p (take i vs) ++ l) (filter_one p v shared))
    ∙ map_end variable_of (filter p (take i vs)) v)

append_none : {A : Type 0} (xs : List A) → xs ++ [] ≡ xs
append_none [] = refl
append_none (x ∷ xs) = ap (λ (l : List _). x ∷ l) (append_none xs)

-- one that shares no place
pub seen_same : (p : Part → Bool) (vs : List Part) (i : ℕ) (v : Part) (old : List Variable) → old ≡ map variable_of (filter p (take i vs)) → i < length vs → v ≡ get_or vs i v → p v ≡ false
    → old ≡ map variable_of (filter p (take (i + 1) vs))
seen_same p vs i v old before h at single =
    before ∙ sym (ap (λ (l : List Part). map variable_of (filter p l)) (taken_more vs i v h at)
    ∙ ap (map variable_of) (filter-append p (take i vs) (v ∷ []) ∙ ap (λ (l : List Part). filter p (take i vs) ++ l) (filter_without p v [] single) ∙ append_none (filter p (take i vs))))

middle_at : (P : Variable → Type 0) (xs ys : List Variable) (v : Variable) → AllByRecursion P (xs ++ v ∷ ys) → P v
middle_at P [] ys v all = all.0
middle_at P (x ∷ xs) ys v all = middle_at P xs ys v all.1

none_before : SameIsEquivalence → (xs ys : List Variable) (v : Variable) → IsDistinct same_variable (xs ++ v ∷ ys) → list_any (same_variable v) xs ≡ false
unfolding IsDistinct
none_before law [] ys v apart = refl
none_before law (x ∷ xs) ys v apart =
    neither (same_variable v x) (list_any (same_variable v) xs) (law.symm v x ∙ middle_at (λ (w : Variable). same_variable x w ≡ false) xs ys v apart.0) (none_before law xs ys v apart.1)

map_both : {A B : Type 0} (f : A → B) (xs ys : List A) → map f (xs ++ ys) ≡ map f xs ++ map f ys
map_both f [] ys = refl
map_both f (x ∷ xs) ys = ap (λ (l : List _). f x ∷ l) (map_both f xs ys)

take_drop : {A : Type 0} (n : ℕ) (xs : List A) → xs ≡ take n xs ++ drop n xs
take_drop zero xs = refl
take_drop (suc n) [] = refl
take_drop (suc n) (x ∷ xs) = ap (λ (l : List _). x ∷ l) (take_drop n xs)

-- a variable that was seen before
seen_twice : SameIsEquivalence → (p : Part → Bool) (vs : List Part) (i : ℕ) (v : Part) (seen : List Variable) (w : Variable) → seen ≡ map variable_of (filter p (take i vs)) → w ≡ variable_of v
    → list_any (same_variable w) seen ≡ true → i < length vs → v ≡ get_or vs i v → p v ≡ true → IsDistinct same_variable (map variable_of (filter p vs)) → ⊥
seen_twice law p vs i v seen w before is found h at shared apart =
    let front = filter p (take i vs) in
    let back = filter p (drop (i + 1) vs) in
    let parts : filter p vs ≡ front ++ v ∷ back = ap (filter p) (take_drop i vs ∙ ap (λ (l : List Part). take i vs ++ l) (drop_at vs i v h at)) ∙ filter-append p (take i vs) (v ∷ drop (i + 1) vs)
    ∙ ap (λ (l : List Part). front ++ l) (filter_with p v (drop (i + 1) vs) shared) in
    let split : IsDistinct same_variable (map variable_of front ++ variable_of v ∷ map variable_of back) =
    subst (IsDistinct same_variable) (ap (map variable_of) parts ∙ map_both variable_of front (v ∷ back)) apart in
    let none = none_before law (map variable_of front) (map variable_of back) (variable_of v) split in
    let any : list_any (same_variable (variable_of v)) (map variable_of front) ≡ true =
    ap (λ (l : List Variable). list_any (same_variable (variable_of v)) l) (sym before) ∙ ap (λ (x : Variable). list_any (same_variable x) seen) (sym is) ∙ found in
    absurd cc

pub seen_all : (p : Part → Bool) (vs : List Part) (i : ℕ) (seen : List Variable) → seen ≡ map variable_of (filter p (take i vs)) → length vs ≤ i → IsDistinct same_variable seen
    → IsDistinct same_variable (map variable_of (filter p vs))
seen_all p vs i seen is end apart = subst (IsDistinct same_variable) (is ∙ ap (λ (l : List Part). map variable_of (filter p l)) (take_all i vs end)) apart

-- a variable that no earlier one is
pub unseen : SameIsEquivalence → (vs : List Part) (i : ℕ) (v : Part) (seen : List Variable) (w : Variable) → seen ≡ map variable_of (take i vs) → w ≡ variable_of v
    → IsDistinct same_variable (map variable_of vs) → i < length vs → v ≡ get_or vs i v → list_any (same_variable w) seen ≡ false
unseen law vs i v seen w before is apart h at =
    ap (λ (x : Variable). list_any (same_variable x) seen) is ∙ ap (λ (l : List Variable). list_any (same_variable (variable_of v)) l) before ∙ none_same law vs i v apart h at

never_true : (b : Bool) → b ≡ false → IsTrue b → ⊥
never_true true e t = absurd cc
never_true false e t = absurd cc

pub seen_none : SameIsEquivalence → (p : Part → Bool) (vs : List Part) (i : ℕ) (v : Part) (seen : List Variable) (w : Variable) → seen ≡ map variable_of (filter p (take i vs)) → w ≡ variable_of v
    → list_any (same_variable w) seen ≡ true → i < length vs → v ≡ get_or vs i v → p v ≡ true → IsTrue false ↔ IsDistinct same_variable (map variable_of (filter p vs))
seen_none law p vs i v seen w before is found h at shared = (
  (λ f. absurd (never_true false refl f)),
  (λ all. absurd (seen_twice law p vs i v seen w before is found h at shared all)),
)

-- no variables are distinct
pub empty_distinct : (vs : List Part) (none : Bool) → none ≡ (length vs == 0) → none ≡ true → IsTrue true ↔ IsDistinct same_variable (map variable_of vs)
unfolding IsDistinct
empty_distinct [] none is t = ((λ t. tt), (λ all. refl))
empty_distinct (v ∷ vs) none is t = let zero = eqb-true (length (v ∷ vs)) 0 (sym is ∙ t) in absurd (omega (arith, zero))

pub apart_ok : (counts lent : List ℕ) (vs : List Part) (r : Result Bool NoMemory) → lent ≡ counts → 0 < length counts → CountsPlaces counts vs
    → IfOk r (λ b. IsTrue b ↔ IsDistinct same_variable (map variable_of (filter (shares_place lent) vs))) → IfOk r (λ b. IsTrue b ↔ IsDistinct same_variable (map variable_of vs))
apart_ok counts lent vs (Ok b) same some are test = by_places counts lent vs b same some are test
apart_ok counts lent vs (Err e) same some are test = tt
