-- Lists of slots from their tops.
use Rattle.std.proofs.Common.{rules, arith, ◌≡◌, ◌≢◌, ◌≤◌, ◌<◌, ◌+◌, ◌-◌, ℕ, zero, suc, List, [], ◌∷◌, ◌++◌, length, take, drop, reverse, map, slice_get, get_or, Option, Some, None, sym, subst}
use Rattle.std.proofs.Common.{◌∙◌, ap, refl}
use Rattle.std.specs.Option.{option_map}
use Rattle.std.proofs.lemmas.List.{reverse-reverse, length-reverse, reverse-append, length-append, append_assoc, append-nil, length-drop, drop_all, take_all, take-append-drop}
use Rattle.std.proofs.Math.Seq.{drop-append_seam, take-append_seam}
use Rattle.nwq_value.specs.declared.value.Ty.{Ty}
use Rattle.stack_shape.specs.declared.shape.Slot.{Slot}
use Rattle.stack_shape.specs.declared.shape.Slot.TheVariants.{Of, Base}
use Rattle.stack_shape.specs.TopFirst.{types_on}
use Rattle.stack_shape.specs.Suffix.{HasSuffix, LongestSuffix}

plus_one : (i : ℕ) → suc i ≡ i + 1
plus_one i = omega arith

-- ---- the lower and the upper part

split : (xs : List Slot) (m : ℕ) → reverse xs ≡ reverse (drop m xs) ++ reverse (take m xs)
split xs m = ap reverse (sym (take-append-drop m xs)) ∙ reverse-append (take m xs) (drop m xs)

upper_length : (xs : List Slot) (n : ℕ) → n ≤ length xs → length (reverse (drop (length xs - n) xs)) ≡ n
upper_length xs n h = omega (arith, length-reverse (drop (length xs - n) xs), length-drop (length xs - n) xs)

drop_at : (xs ys : List Slot) (n : ℕ) → length xs ≡ n → drop n (xs ++ ys) ≡ ys
drop_at xs ys n h = subst (λ n. drop n (xs ++ ys) ≡ ys) h (drop-append_seam xs ys)

take_at : (xs ys : List Slot) (n : ℕ) → length xs ≡ n → take n (xs ++ ys) ≡ xs
take_at xs ys n h = subst (λ n. take n (xs ++ ys) ≡ xs) h (take-append_seam xs ys)

pub lower_some : (xs : List Slot) (n m : ℕ) → n ≤ length xs → m ≡ length xs - n → reverse (take m xs) ≡ drop n (reverse xs)
lower_some xs n m h e = subst (λ m. reverse (take m xs) ≡ drop n (reverse xs)) (sym e)
    (sym (ap (drop n) (split xs (length xs - n)) ∙ drop_at (reverse (drop (length xs - n) xs)) _ n (upper_length xs n h)))

pub lower_none : (xs : List Slot) (n : ℕ) → length xs ≤ n → [] ≡ drop n (reverse xs)
lower_none xs n h = sym (drop_all n (reverse xs) (omega (arith, h, length-reverse xs)))

upper : (xs : List Slot) (n : ℕ) → n ≤ length xs → drop (length xs - n) xs ≡ reverse (take n (reverse xs))
upper xs n h = sym (ap reverse (ap (take n) (split xs (length xs - n)) ∙ take_at (reverse (drop (length xs - n) xs)) _ n (upper_length xs n h))
    ∙ reverse-reverse (drop (length xs - n) xs))

pub last_put : (xs : List Slot) (x : Slot) → reverse (xs ++ x ∷ []) ≡ x ∷ reverse xs
last_put xs x = reverse-append xs (x ∷ [])

-- ---- types so far: what is read gives, with what is left, what all gives

pub record SoFar (slots : List Slot) (count i : ℕ) (types : List Ty) : Type 0 where
  pub within : i ≤ count
  pub size : length types ≡ i
  pub left : types_on count slots ≡ option_map (λ rest. types ++ rest) (types_on (count - i) (drop i slots))

types_more : (slots : List Slot) (i n : ℕ) (t : Ty) → slice_get slots i ≡ Some (Of t)
    → types_on (suc n) (drop i slots) ≡ option_map (λ rest. t ∷ rest) (types_on n (drop (suc i) slots))
types_more [] i n t h = absurd cc
types_more (Base ∷ slots) zero n t h = absurd cc
types_more (Of u ∷ slots) zero n t h = search (rules, h)
types_more (x ∷ slots) (suc i) n t h = types_more slots i n t h

types_base : (slots : List Slot) (i n : ℕ) → slice_get slots i ≡ Some Base → types_on (suc n) (drop i slots) ≡ None
types_base [] i n h = absurd cc
types_base (Base ∷ slots) zero n h = refl
types_base (Of u ∷ slots) zero n h = absurd cc
types_base (x ∷ slots) (suc i) n h = types_base slots i n h

types_end : (slots : List Slot) (i n : ℕ) → slice_get slots i ≡ None → types_on (suc n) (drop i slots) ≡ None
types_end [] zero n h = refl
types_end [] (suc i) n h = refl
types_end (x ∷ slots) zero n h = absurd cc
types_end (x ∷ slots) (suc i) n h = types_end slots i n h

joined : (types : List Ty) (t : Ty) (o : Option (List Ty))
    → option_map (λ rest. types ++ rest) (option_map (λ rest. t ∷ rest) o) ≡ option_map (λ rest. (types ++ t ∷ []) ++ rest) o
joined types t None = refl
joined types t (Some rest) = ap Some (sym (append_assoc types (t ∷ []) rest))

one_less : (slots : List Slot) (count i n : ℕ) (types : List Ty) → SoFar slots count i types → count - i ≡ n
    → types_on count slots ≡ option_map (λ rest. types ++ rest) (types_on n (drop i slots))
one_less slots count i n types h e =
    subst (λ n. types_on count slots ≡ option_map (λ rest. types ++ rest) (types_on n (drop i slots))) e h.left

less : (count i : ℕ) → i < count → count - i ≡ suc (count - (i + 1))
less count i h = omega (arith, h)

none_left : (types : List Ty) (o : Option (List Ty)) → o ≡ option_map (λ rest. types ++ rest) None → None ≡ o
none_left types o h = sym h

no_less : (count : ℕ) → count - 0 ≡ count
no_less count = omega arith

same_map : (o : Option (List Ty)) → o ≡ option_map (λ rest. [] ++ rest) o
same_map None = refl
same_map (Some rest) = refl

start_is : (slots : List Slot) (count : ℕ)
    → option_map (λ rest. [] ++ rest) (types_on (count - 0) (drop 0 slots)) ≡ option_map (λ rest. [] ++ rest) (types_on count slots)
start_is slots count = ap (λ n. option_map (λ rest. [] ++ rest) (types_on n slots)) (no_less count)

pub so_far_none : (slots : List Slot) (count : ℕ) → SoFar slots count 0 []
so_far_none slots count = record { within = omega arith; size = refl; left = same_map (types_on count slots) ∙ sym (start_is slots count) }

pub so_far_more : (slots : List Slot) (count i : ℕ) (types : List Ty) (t : Ty) → SoFar slots count i types → i < count
    → slice_get slots i ≡ Some (Of t) → SoFar slots count (i + 1) (types ++ t ∷ [])
so_far_more slots count i types t h below is = record {
  within = omega (arith, below);
  size = omega (arith, h.size, length-append types (t ∷ []));
  left = one_less slots count i (suc (count - (i + 1))) types h (less count i below)
      ∙ ap (option_map (λ rest. types ++ rest)) (types_more slots i (count - (i + 1)) t is)
      ∙ joined types t (types_on (count - (i + 1)) (drop (suc i) slots))
      ∙ ap (λ j. option_map (λ rest. (types ++ t ∷ []) ++ rest) (types_on (count - (i + 1)) (drop j slots))) (plus_one i);
}

pub so_far_base : (slots : List Slot) (count i : ℕ) (types : List Ty) → SoFar slots count i types → i < count
    → slice_get slots i ≡ Some Base → None ≡ types_on count slots
so_far_base slots count i types h below is = sym (one_less slots count i (suc (count - (i + 1))) types h (less count i below)
    ∙ ap (option_map (λ rest. types ++ rest)) (types_base slots i (count - (i + 1)) is))

pub so_far_end : (slots : List Slot) (count i : ℕ) (types : List Ty) → SoFar slots count i types → i < count
    → slice_get slots i ≡ None → None ≡ types_on count slots
so_far_end slots count i types h below is = sym (one_less slots count i (suc (count - (i + 1))) types h (less count i below)
    ∙ ap (option_map (λ rest. types ++ rest)) (types_end slots i (count - (i + 1)) is))

all_read : (count i : ℕ) → count ≤ i → count - i ≡ 0
all_read count i h = omega (arith, h)

pub so_far_all : (slots : List Slot) (count i : ℕ) (types : List Ty) → SoFar slots count i types → count ≤ i → Some types ≡ types_on count slots
so_far_all slots count i types h past = sym (one_less slots count i 0 types h (all_read count i past) ∙ ap Some (append-nil types))

pub so_far_size : (slots : List Slot) (count i : ℕ) (types : List Ty) → SoFar slots count i types → count ≤ i → length types ≡ count
so_far_size slots count i types h past = omega (arith, h.size, h.within, past)

-- one more type is read, or there is none to read
pub ruleset reading = (so_far_none, so_far_more, so_far_base, so_far_end, so_far_all, so_far_size)

-- ---- types put on top, the last first

put_next : (types : List Ty) (i : ℕ) (t : Ty) (slots : List Slot) → i < length types → t ≡ get_or types i t
    → map Of (take (suc i) types) ++ slots ≡ map Of (take i types) ++ (Of t ∷ slots)
put_next [] i t slots h is = absurd (omega (arith, h))
put_next (u ∷ types) zero t slots h is = ap (λ x. Of x ∷ slots) (sym is)
put_next (u ∷ types) (suc i) t slots h is = ap (λ rest. Of u ∷ rest) (put_next types i t slots (omega (arith, h)) is)

pub put_one : (types : List Ty) (i : ℕ) (t : Ty) (slots : List Slot) → i < length types → t ≡ get_or types i t
    → map Of (take (i + 1) types) ++ slots ≡ map Of (take i types) ++ (Of t ∷ slots)
put_one types i t slots h is = subst (λ j. map Of (take j types) ++ slots ≡ map Of (take i types) ++ (Of t ∷ slots)) (plus_one i) (put_next types i t slots h is)

-- ---- what two lists have in common

head_is : {x y : Slot} {xs ys : List Slot} → x ∷ xs ≡ y ∷ ys → x ≡ y
head_is h = cc

tail_is : {x y : Slot} {xs ys : List Slot} → x ∷ xs ≡ y ∷ ys → xs ≡ ys
tail_is h = cc

some_is : {x y : Slot} → Some x ≡ Some y → x ≡ y
some_is h = cc

both_more : {x y : Slot} {xs ys : List Slot} → x ≡ y → xs ≡ ys → x ∷ xs ≡ y ∷ ys
both_more h k = cc

take_suc : (xs ys : List Slot) (n : ℕ) → take n xs ≡ take n ys → slice_get xs n ≡ slice_get ys n → take (suc n) xs ≡ take (suc n) ys
take_suc [] [] n same is = refl
take_suc [] (y ∷ ys) zero same is = absurd cc
take_suc [] (y ∷ ys) (suc n) same is = absurd cc
take_suc (x ∷ xs) [] zero same is = absurd cc
take_suc (x ∷ xs) [] (suc n) same is = absurd cc
take_suc (x ∷ xs) (y ∷ ys) zero same is = ap (λ z. z ∷ []) (some_is is)
take_suc (x ∷ xs) (y ∷ ys) (suc n) same is = both_more (head_is same) (take_suc xs ys n (tail_is same) is)

pub take_next : (xs ys : List Slot) (n : ℕ) → take n xs ≡ take n ys → slice_get xs n ≡ slice_get ys n → take (n + 1) xs ≡ take (n + 1) ys
take_next xs ys n same is = subst (λ j. take j xs ≡ take j ys) (plus_one n) (take_suc xs ys n same is)

get_front : (xs ys : List Slot) (n : ℕ) → n < length xs → slice_get (xs ++ ys) n ≡ slice_get xs n
get_front [] ys n h = absurd (omega (arith, h))
get_front (x ∷ xs) ys zero h = refl
get_front (x ∷ xs) ys (suc n) h = get_front xs ys n (omega (arith, h))

not_past : (m n : ℕ) → (n < m → ⊥) → m ≤ n
not_past zero n h = omega arith
not_past (suc m) zero h = absurd (h (omega arith))
not_past (suc m) (suc n) h = omega (arith, not_past m n (λ p. h (omega (arith, p))))

-- the slot at a depth inside the end of a list
in_end : (xs end : List Slot) (n : ℕ) → HasSuffix xs end → n < length end → slice_get (reverse xs) n ≡ slice_get (reverse end) n
in_end xs end n (front, is) h = ap (λ l. slice_get l n) (ap reverse is ∙ reverse-append front end)
    ∙ get_front (reverse end) (reverse front) n (omega (arith, h, length-reverse end))

end_below : (xs end : List Slot) → HasSuffix xs end → length end ≤ length xs
end_below xs end (front, is) = omega (arith, ap length is, length-append front end)

longest_end : (a b : List Slot) (n : ℕ) → n ≤ length a → n ≤ length b → take n (reverse a) ≡ take n (reverse b)
    → (n < length a → n < length b → slice_get (reverse a) n ≢ slice_get (reverse b) n)
    → LongestSuffix a b (drop (length a - n) a)
longest_end a b n ha hb same last = record {
  first = (take (length a - n) a, sym (take-append-drop (length a - n) a));
  second = (take (length b - n) b, sym (ap (λ l. take (length b - n) b ++ l) (upper a n ha ∙ ap reverse same ∙ sym (upper b n hb)) ∙ take-append-drop (length b - n) b));
  longest = λ end of_a of_b. omega (
    arith,
    ha,
    length-drop (length a - n) a,
    not_past (length end) n (λ h.
        last (omega (arith, h, end_below a end of_a)) (omega (arith, h, end_below b end of_b))
        (in_end a end n of_a h ∙ sym (in_end b end n of_b h))),
  );
}

pub longest_is : (a b common : List Slot) (n : ℕ) → n ≤ length a → n ≤ length b → take n (reverse a) ≡ take n (reverse b)
    → (n < length a → n < length b → slice_get (reverse a) n ≢ slice_get (reverse b) n)
    → common ≡ take (length a - (length a - n)) (drop (length a - n) a) → LongestSuffix a b common
longest_is a b common n ha hb same last e = subst (LongestSuffix a b)
    (sym (e ∙ take_all (length a - (length a - n)) (drop (length a - n) a) (omega (arith, length-drop (length a - n) a))))
    (longest_end a b n ha hb same last)
