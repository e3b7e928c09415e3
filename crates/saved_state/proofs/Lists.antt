-- Parts of lists, and of lists the other way round.
use Rattle.std.proofs.Common.{◌≡◌, ◌<◌, ◌+◌, ◌++◌, ◌∷◌, [], ℕ, zero, suc, List, length, take, drop, reverse, slice_get, refl, sym, ap, ◌∙◌, arith, append_assoc}
use Rattle.std.proofs.lemmas.List.{reverse-append, reverse-reverse, length-reverse, length-drop, take-append-drop, take_at, drop_at}

pub reverse_joined : {A : Type 0} (front : List A) (x : A) (back : List A) → reverse (front ++ x ∷ back) ≡ reverse back ++ x ∷ reverse front
reverse_joined front x back =
    reverse-append front (x ∷ back)
    ∙ ap (λ t. t ++ reverse front) (reverse-append (x ∷ []) back)
    ∙ append_assoc (reverse back) (x ∷ []) (reverse front)

-- a list the other way round, cut where the list is cut
reverse_cut : {A : Type 0} (xs : List A) (m : ℕ) → reverse xs ≡ reverse (drop m xs) ++ reverse (take m xs)
reverse_cut xs m = ap reverse (sym (take-append-drop m xs)) ∙ reverse-append (take m xs) (drop m xs)

cut_length : {A : Type 0} (xs : List A) (m n : ℕ) → m + n ≡ length xs → length (reverse (drop m xs)) ≡ n
cut_length xs m n whole = length-reverse (drop m xs) ∙ length-drop m xs ∙ omega (arith, whole)

pub drop_reversed : {A : Type 0} (xs : List A) (m n : ℕ) → m + n ≡ length xs → drop n (reverse xs) ≡ reverse (take m xs)
drop_reversed xs m n whole = ap (drop n) (reverse_cut xs m) ∙ drop_at (reverse (drop m xs)) (reverse (take m xs)) n (cut_length xs m n whole)

pub take_reversed : {A : Type 0} (xs : List A) (m n : ℕ) → m + n ≡ length xs → reverse (take n (reverse xs)) ≡ drop m xs
take_reversed xs m n whole =
    ap reverse (ap (take n) (reverse_cut xs m) ∙ take_at (reverse (drop m xs)) (reverse (take m xs)) n (cut_length xs m n whole))
    ∙ reverse-reverse (drop m xs)

pub get_dropped : {A : Type 0} (n : ℕ) (xs : List A) (i : ℕ) → slice_get (drop n xs) i ≡ slice_get xs (n + i)
get_dropped zero xs i = ap (slice_get xs) (omega arith)
get_dropped (suc n) [] i = refl
get_dropped (suc n) (x ∷ xs) i =
    let next : suc (n + i) ≡ suc n + i = omega arith in
    get_dropped n xs i ∙ ap (slice_get (x ∷ xs)) next

pub get_taken : {A : Type 0} (n : ℕ) (xs : List A) (i : ℕ) → i < n → slice_get (take n xs) i ≡ slice_get xs i
get_taken zero xs i less = absurd (omega arith)
get_taken (suc n) [] i less = refl
get_taken (suc n) (x ∷ xs) zero less = refl
get_taken (suc n) (x ∷ xs) (suc i) less = get_taken n xs i (omega arith)

pub get_front : {A : Type 0} (xs ys : List A) (i : ℕ) → i < length xs → slice_get (xs ++ ys) i ≡ slice_get xs i
get_front [] ys i less = absurd (omega arith)
get_front (x ∷ xs) ys zero less = refl
get_front (x ∷ xs) ys (suc i) less = get_front xs ys i (omega arith)

pub get_behind : {A : Type 0} (xs ys : List A) (i : ℕ) → slice_get (xs ++ ys) (length xs + i) ≡ slice_get ys i
get_behind xs ys i = sym (get_dropped (length xs) (xs ++ ys) i) ∙ ap (λ t. slice_get t i) (drop_at xs ys (length xs) refl)
