-- Facts of the members of lists and options, where what is made of these is made of their members.
use Rattle.std.proofs.Common.{ℕ, zero, suc, Bool, true, false, List, [], ◌∷◌, ◌++◌, map, take, drop, reverse, Option, Some, None, sym, subst, if◌then◌else◌}
use Rattle.std.specs.Prelude.{filter, slice_get}
use Rattle.std.specs.Option.{option_map, option_and_then}
use Rattle.std.specs.List.{AllByRecursion, find}
use Rattle.std.proofs.lemmas.List.{reverse-append}
use Rattle.state_format.specs.Parts.{IsMaybe}

-- ---- one of two

pub either : {A : Type 0} (P : A → Type 0) (b : Bool) (x y : A) → P x → P y → P (if b then x else y)
either P true x y h k = h
either P false x y h k = k

pub some_or_none : {A : Type 0} (P : A → Type 0) (b : Bool) (o : Option A) → IsMaybe P o → IsMaybe P (if b then o else None)
some_or_none P true o h = h
some_or_none P false o h = tt

-- ---- lists

module _ {A : Type 0} (P : A → Type 0) where
  pub all_append : (xs ys : List A) → AllByRecursion P xs → AllByRecursion P ys → AllByRecursion P (xs ++ ys)
  all_append [] ys h k = k
  all_append (x ∷ xs) ys h k = (h.0, all_append xs ys h.1 k)

  pub all_take : (n : ℕ) (xs : List A) → AllByRecursion P xs → AllByRecursion P (take n xs)
  all_take zero xs h = tt
  all_take (suc n) [] h = tt
  all_take (suc n) (x ∷ xs) h = (h.0, all_take n xs h.1)

  pub all_drop : (n : ℕ) (xs : List A) → AllByRecursion P xs → AllByRecursion P (drop n xs)
  all_drop zero xs h = h
  all_drop (suc n) [] h = tt
  all_drop (suc n) (x ∷ xs) h = all_drop n xs h.1

  pub all_reverse : (xs : List A) → AllByRecursion P xs → AllByRecursion P (reverse xs)
  all_reverse [] h = tt
  all_reverse (x ∷ xs) h = subst (AllByRecursion P) (sym (reverse-append (x ∷ []) xs)) (all_append (reverse xs) (x ∷ []) (all_reverse xs h.1) (h.0, tt))

  pub all_filter : (test : A → Bool) (xs : List A) → AllByRecursion P xs → AllByRecursion P (filter test xs)
  all_filter test [] h = tt
  all_filter test (x ∷ xs) h = either (AllByRecursion P) (test x) (x ∷ filter test xs) (filter test xs) (h.0, all_filter test xs h.1) (all_filter test xs h.1)

  pub some_of : (xs : List A) (n : ℕ) → AllByRecursion P xs → IsMaybe P (slice_get xs n)
  some_of [] n h = tt
  some_of (x ∷ xs) zero h = h.0
  some_of (x ∷ xs) (suc n) h = some_of xs n h.1

  pub found_of : (test : A → Bool) (xs : List A) → AllByRecursion P xs → IsMaybe P (find test xs)
  found_of test [] h = tt
  found_of test (x ∷ xs) h = either (IsMaybe P) (test x) (Some x) (find test xs) h.0 (found_of test xs h.1)

pub all_weaker : {A : Type 0} (P Q : A → Type 0) → ((x : A) → P x → Q x) → (xs : List A) → AllByRecursion P xs → AllByRecursion Q xs
all_weaker P Q weaker [] h = tt
all_weaker P Q weaker (x ∷ xs) h = (weaker x h.0, all_weaker P Q weaker xs h.1)

pub all_mapped : {A B : Type 0} (P : B → Type 0) (f : A → B) (xs : List A) → AllByRecursion (λ x. P (f x)) xs → AllByRecursion P (map f xs)
all_mapped P f [] h = tt
all_mapped P f (x ∷ xs) h = (h.0, all_mapped P f xs h.1)

-- ---- options

module _ {A B : Type 0} (Q : B → Type 0) where
  pub mapped : (P : A → Type 0) (f : A → B) → ((a : A) → P a → Q (f a)) → (o : Option A) → IsMaybe P o → IsMaybe Q (option_map f o)
  mapped P f keeps None h = tt
  mapped P f keeps (Some a) h = keeps a h

  pub mapped_any : (f : A → B) → ((a : A) → Q (f a)) → (o : Option A) → IsMaybe Q (option_map f o)
  mapped_any f keeps None = tt
  mapped_any f keeps (Some a) = keeps a

  pub after : (P : A → Type 0) (f : A → Option B) → ((a : A) → P a → IsMaybe Q (f a)) → (o : Option A) → IsMaybe P o → IsMaybe Q (option_and_then f o)
  after P f keeps None h = tt
  after P f keeps (Some a) h = keeps a h

  pub after_any : (f : A → Option B) → ((a : A) → IsMaybe Q (f a)) → (o : Option A) → IsMaybe Q (option_and_then f o)
  after_any f keeps None = tt
  after_any f keeps (Some a) = keeps a
