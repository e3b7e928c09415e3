-- The ints that an entry begins with.
use Rattle.std.proofs.Common.{arith, ◌≡◌, ◌≤◌, ◌<◌, ◌+◌, ◌-◌, ◌++◌, ◌∷◌, ℕ, suc, zero, List, [], length, min, take, reverse, Option, Some, None, ℤ, set, slice_get, sym, ap, ◌∙◌, refl, subst}
use Rattle.std.specs.List.{cons_option, filter_map}
use Rattle.std.specs.Option.{option_and_then, option_to_list}
use Rattle.std.proofs.lemmas.List.{length-reverse, take_all}
use Rattle.std.proofs.lemmas.Option.{none-some}
use Rattle.play_remarks.specs.declared.Spot.{Spot}
use Rattle.ncs_machine.specs.Remarks.{Begun, most_cells}
use Rattle.ncs_machine.proofs.RemarkLemmas.{back_lies}

abbrev begun_at : Spot → List ℤ → Begun
begun_at s is = record { spot = s; ints = is }

-- ---- an int put behind others in an array

put_behind : {A : Type 0} (n : ℕ) (xs : List A) (x : A) → n < length xs → take (suc n) (set xs n x) ≡ take n xs ++ x ∷ []
put_behind n [] x less = absurd (omega (arith, less))
put_behind zero (y ∷ ys) x less = refl
put_behind (suc n) (y ∷ ys) x less = ap (λ zs. y ∷ zs) (put_behind n ys x (omega (arith, less)))

pub put_last : {A : Type 0} (n : ℕ) (xs : List A) (x : A) → n < length xs → take (n + 1) (set xs n x) ≡ take n xs ++ x ∷ []
put_last n xs x less = ap (λ k. take k (set xs n x)) next ∙ put_behind n xs x less
  where
    next : n + 1 ≡ suc n
    next = omega arith

pub all_taken : {A : Type 0} (n : ℕ) (xs : List A) → n ≤ length xs → length (take n xs) ≡ n
all_taken zero xs less = refl
all_taken (suc n) [] less = absurd (omega (arith, less))
all_taken (suc n) (x ∷ xs) less = ap suc (all_taken n xs (omega (arith, less)))

-- ---- the ints among cells

cons_more : {A : Type 0} (o : Option A) (xs ys : List A) → cons_option o (xs ++ ys) ≡ cons_option o xs ++ ys
cons_more None xs ys = refl
cons_more (Some x) xs ys = refl

more_picked : {A B : Type 0} (f : A → Option B) (xs ys : List A) → filter_map f (xs ++ ys) ≡ filter_map f xs ++ filter_map f ys
more_picked f [] ys = refl
more_picked f (x ∷ xs) ys = ap (cons_option (f x)) (more_picked f xs ys) ∙ cons_more (f x) (filter_map f xs) (filter_map f ys)

next_taken : {A : Type 0} (i : ℕ) (xs : List A) (x : A) → slice_get xs i ≡ Some x → take (suc i) xs ≡ take i xs ++ x ∷ []
next_taken i [] x h = absurd (none-some x h)
next_taken zero (y ∷ ys) x h = ap (λ o. some_of y o ∷ []) h
  where
    some_of : {A : Type 0} → A → Option A → A
    some_of d None = d
    some_of d (Some x) = x
next_taken (suc i) (y ∷ ys) x h = ap (λ zs. y ∷ zs) (next_taken i ys x h)

-- the next one is picked, where it is one of those
picked_next : {A B : Type 0} (f : A → Option B) (i : ℕ) (xs : List A) (x : A) → slice_get xs i ≡ Some x
    → filter_map f (take (i + 1) xs) ≡ filter_map f (take i xs) ++ cons_option (f x) []
picked_next f i xs x lies = ap (λ k. filter_map f (take k xs)) next ∙ ap (filter_map f) (next_taken i xs x lies) ∙ more_picked f (take i xs) (x ∷ [])
  where
    next : i + 1 ≡ suc i
    next = omega arith

append_none : {A : Type 0} (xs : List A) → xs ++ [] ≡ xs
append_none [] = refl
append_none (x ∷ xs) = ap (λ xs. x ∷ xs) (append_none xs)

-- the cell over which so many of the topmost lie, among those from the lowest of them on
front_lies : {A : Type 0} (k n : ℕ) (xs : List A) → k < n → slice_get (take n xs) k ≡ slice_get xs k
front_lies k zero xs h = absurd (omega (arith, h))
front_lies k (suc n) [] h = refl
front_lies zero (suc n) (x ∷ xs) h = refl
front_lies (suc k) (suc n) (x ∷ xs) h = front_lies k n xs (omega (arith, h))

from_top : {A : Type 0} (cells : List A) (n i : ℕ) → n ≤ length cells → i < n → slice_get (reverse (take n cells)) i ≡ slice_get cells (n - 1 - i)
from_top cells n i inside less =
    sym (back_lies (take n cells) i (subst (λ k. i < k) (sym (all_taken n cells inside)) less))
    ∙ ap (λ k. slice_get (take n cells) (k - 1 - i)) (all_taken n cells inside)
    ∙ front_lies (n - 1 - i) n cells (omega (arith, less))

some_lies : {A : Type 0} (i : ℕ) (xs : List A) → i < length xs → (x : A) × (slice_get xs i ≡ Some x)
some_lies i [] less = absurd (omega (arith, less))
some_lies zero (x ∷ xs) less = (x, refl)
some_lies (suc i) (x ∷ xs) less = some_lies i xs (omega (arith, less))

few_picked : {A B : Type 0} (f : A → Option B) (i : ℕ) (xs : List A) → length (filter_map f (take i xs)) ≤ i
few_picked f zero xs = omega arith
few_picked f (suc i) [] = omega arith
few_picked f (suc i) (x ∷ xs) = one_more (f x) (filter_map f (take i xs)) (few_picked f i xs)
  where
    one_more : {B : Type 0} (o : Option B) (ys : List B) {i : ℕ} → length ys ≤ i → length (cons_option o ys) ≤ suc i
    one_more None ys few = omega (arith, few)
    one_more (Some y) ys few = omega (arith, few)

listed : {A : Type 0} (o : Option A) → cons_option o [] ≡ option_to_list o
listed None = refl
listed (Some x) = refl

-- ---- what is kept so far

pub few_ints : {A : Type 0} (f : A → Option ℤ) (s : Spot) (n i : ℕ) (xs : List A) (b : Begun) → n ≤ most_cells → i < n → b ≡ begun_at s (filter_map f (take i xs))
    → length b.ints < most_cells
few_ints f s n i xs b small less at =
    let few = few_picked f i xs in
    let same = ap (λ (b : Begun). length b.ints) at in
    omega (arith, few, same, small, less)

put_none : (o : Option ℤ) (b c : Begun) → o ≡ None → c ≡ b → c ≡ begun_at b.spot (b.ints ++ option_to_list o)
put_none o b c none same =
    same ∙ ap (λ is. begun_at b.spot is) (sym (append_none b.ints)) ∙ ap (λ o. begun_at b.spot (b.ints ++ option_to_list o)) (sym none)

put_some : (o : Option ℤ) (n : ℤ) (b c : Begun) → o ≡ Some n → c ≡ begun_at b.spot (b.ints ++ n ∷ []) → c ≡ begun_at b.spot (b.ints ++ option_to_list o)
put_some o n b c some put = put ∙ ap (λ o. begun_at b.spot (b.ints ++ option_to_list o)) (sym some)

next_int : {A : Type 0} (f : A → Option ℤ) (s : Spot) (n i : ℕ) (cells : List A) (b c : Begun) (o : Option ℤ) → n ≤ length cells → i < n
    → b ≡ begun_at s (filter_map f (take i (reverse (take n cells)))) → o ≡ option_and_then f (slice_get cells (n - 1 - i))
    → c ≡ begun_at b.spot (b.ints ++ option_to_list o) → c ≡ begun_at s (filter_map f (take (i + 1) (reverse (take n cells))))
next_int f s n i cells b c o inside less at is put =
    let x = some_lies (n - 1 - i) cells (omega (arith, inside, less)) in
    let here = is ∙ ap (option_and_then f) x.1 in
    put ∙ ap (λ (b : Begun). begun_at b.spot (b.ints ++ option_to_list o)) at
    ∙ ap (λ zs. begun_at s (filter_map f (take i (reverse (take n cells))) ++ zs)) (ap option_to_list here ∙ sym (listed (f x.0)))
    ∙ ap (λ is. begun_at s is) (sym (picked_next f i (reverse (take n cells)) x.0 (from_top cells n i inside less ∙ x.1)))

pub next_some : {A : Type 0} (f : A → Option ℤ) (s : Spot) (n i : ℕ) (cells : List A) (b c : Begun) (o : Option ℤ) (int : ℤ) → n ≤ length cells → i < n
    → b ≡ begun_at s (filter_map f (take i (reverse (take n cells)))) → o ≡ option_and_then f (slice_get cells (n - 1 - i)) → o ≡ Some int
    → c ≡ begun_at b.spot (b.ints ++ int ∷ []) → c ≡ begun_at s (filter_map f (take (i + 1) (reverse (take n cells))))
next_some f s n i cells b c o int inside less at is some put = next_int f s n i cells b c o inside less at is (put_some o int b c some put)

pub next_none : {A : Type 0} (f : A → Option ℤ) (s : Spot) (n i : ℕ) (cells : List A) (b c : Begun) (o : Option ℤ) → n ≤ length cells → i < n
    → b ≡ begun_at s (filter_map f (take i (reverse (take n cells)))) → o ≡ option_and_then f (slice_get cells (n - 1 - i)) → o ≡ None
    → c ≡ b → c ≡ begun_at s (filter_map f (take (i + 1) (reverse (take n cells))))
next_none f s n i cells b c o inside less at is none same = next_int f s n i cells b c o inside less at is (put_none o b c none same)

pub none_yet : (s t : Spot) → s ≡ t → begun_at s [] ≡ begun_at t []
none_yet s t same = ap (λ (s : Spot). begun_at s []) same

same_top : {A : Type 0} (k n : ℕ) (xs : List A) → n ≡ min (length xs) k → take n xs ≡ take k xs
same_top zero n xs e = ap (λ m. take m xs) none
  where
    none : n ≡ 0
    none = omega (arith, e)
same_top (suc k) n [] e = ap (λ m. take m []) none
  where
    none : n ≡ 0
    none = omega (arith, e)
same_top (suc k) zero (x ∷ xs) e = absurd (omega (arith, e))
same_top (suc k) (suc n) (x ∷ xs) e = ap (λ zs. x ∷ zs) (same_top k n xs (omega (arith, e)))

pub all_ints : {A : Type 0} (f : A → Option ℤ) (s : Spot) (n i : ℕ) (cells : List A) (b : Begun) → n ≡ min (length cells) most_cells → n ≤ i
    → b ≡ begun_at s (filter_map f (take i (reverse (take n cells)))) → b ≡ begun_at s (filter_map f (reverse (take most_cells cells)))
all_ints f s n i cells b least over at =
    at ∙ ap (λ zs. begun_at s (filter_map f zs)) (take_all i (reverse (take n cells)) short ∙ ap reverse (same_top most_cells n cells least))
  where
    short : length (reverse (take n cells)) ≤ i
    short = let same = length-reverse (take n cells) in let few = all_taken n cells (omega (arith, least)) in omega (arith, same, few, over)

pub put_ints : (s : Spot) (n : ℕ) (xs : List ℤ) (y x : ℤ) (b : Begun) → y ≡ x → length xs ≡ most_cells → n ≤ most_cells → length b.ints < most_cells → begun_at s (take n xs) ≡ b
    → begun_at s (take (n + 1) (set xs n y)) ≡ begun_at b.spot (b.ints ++ x ∷ [])
put_ints s n xs y x b back size fits few is =
    ap (begun_at s) (put_last n xs y less ∙ ap (λ x. take n xs ++ x ∷ []) back) ∙ ap (λ (b : Begun). begun_at b.spot (b.ints ++ x ∷ [])) is
  where
    less : n < length xs
    less = let all = all_taken n xs (omega (arith, size, fits)) in let same = ap (λ (b : Begun). length b.ints) is in omega (arith, all, same, few, size)
