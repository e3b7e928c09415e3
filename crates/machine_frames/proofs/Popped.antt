-- Values on top of cells.
use Rattle.std.proofs.Common.{arith, ◌≡◌, ◌≢◌, ◌<◌, ◌≤◌, ◌+◌, ◌++◌, ℕ, suc, List, [], ◌∷◌, length, take, drop, replicate, Option, Some, None, Bool, true, false, inl, inr, sym, ap, ◌∙◌, refl}
use Rattle.std.specs.Prelude.{ℤ, pos, slice_get, slice_set, nat_lt, if◌then◌else◌, ◌==◌}
use Rattle.std.proofs.lemmas.Bool.{cases_lt}
use Rattle.std.proofs.lemmas.Bool.Decides.{nat_tests}
use Rattle.std.proofs.lemmas.List.{append-nil, take_all, take_at}
use Rattle.nwq_value.specs.Limits.{text_limit}
use Rattle.decoded_code.specs.Steps.{whole}
use Rattle.nwq_value.specs.declared.value.Value.TheVariants.{Int, Text, Object, Effect, Event}
use Rattle.nwq_value.specs.Operators.{is_zero}
use Rattle.saved_state.specs.declared.cell.Cell.{Cell}
use Rattle.saved_state.specs.declared.cell.Cell.TheVariants.{Value as Holds, Base}
use Rattle.machine_rules.specs.Cells.{on_int, on_text, of_int, of_ints, of_texts, value_pushed, zero_on_top}
use Rattle.machine_rules.specs.Values.{starting_value}
use Rattle.stack_shape.specs.StackEffects.{type_of_one}
use Rattle.machine_rules.specs.Act.{if_ints, int_dropped}
use Rattle.machine_frames.specs.Tops.{HasValue, HasInt, HasText}

-- ---- an int on top

pub on_int_has : {A : Type 0} (cells : List Cell) (go : ℤ → List Cell → Option A) → on_int cells go ≢ None → HasInt 0 cells
on_int_has [] go h = absurd (h refl)
on_int_has (Base bp ∷ cells) go h = absurd (h refl)
on_int_has (Holds (Int n) ∷ cells) go h = record { int = n; is = refl }
on_int_has (Holds (Text t) ∷ cells) go h = absurd (h refl)
on_int_has (Holds (Object o) ∷ cells) go h = absurd (h refl)
on_int_has (Holds (Effect e) ∷ cells) go h = absurd (h refl)
on_int_has (Holds (Event n) ∷ cells) go h = absurd (h refl)

pub on_int_is : {A : Type 0} (cells : List Cell) (go : ℤ → List Cell → Option A) (n : ℤ) → slice_get cells 0 ≡ Some (Holds (Int n)) → on_int cells go ≡ go n (drop 1 cells)
on_int_is [] go n h = absurd cc
on_int_is (c ∷ cells) go n h = ap (λ (c : Cell). on_int (c ∷ cells) go) (same h)
  where
    same : slice_get (c ∷ cells) 0 ≡ Some (Holds (Int n)) → c ≡ Holds (Int n)
    same h = cc

-- the cell under the top one
lower : (cells : List Cell) (i : ℕ) → slice_get (drop 1 cells) i ≡ slice_get cells (i + 1)
lower [] i = refl
lower (c ∷ cells) i = let e : suc i ≡ i + 1 = omega arith in ap (slice_get (c ∷ cells)) e

has_lower : (cells : List Cell) → HasInt 0 (drop 1 cells) → HasInt 1 cells
has_lower cells h = record { int = h.int; is = sym (lower cells 0) ∙ h.is }

drop_two : (cells : List Cell) → drop 1 (drop 1 cells) ≡ drop 2 cells
drop_two [] = refl
drop_two (c ∷ cells) = refl

within_one : (cells : List Cell) (c : Cell) → slice_get cells 0 ≡ Some c → 0 < length cells
within_one [] c h = absurd cc
within_one (a ∷ cells) c h = omega arith

-- ---- two ints

pub first_int : (f : ℤ → ℤ → ℤ) (cells : List Cell) → of_ints f cells ≢ None → HasInt 0 cells
first_int f cells h = on_int_has cells (λ y rest. on_int rest (λ x below. Some (Holds (Int (f x y)) ∷ below))) h

pub second_int : (f : ℤ → ℤ → ℤ) (cells : List Cell) → of_ints f cells ≢ None → HasInt 1 cells
second_int f cells h = let top = first_int f cells h in
    has_lower cells (on_int_has (drop 1 cells) (λ x below. Some (Holds (Int (f x top.int)) ∷ below))
    (λ none. h (on_int_is cells (λ y rest. on_int rest (λ x below. Some (Holds (Int (f x y)) ∷ below))) top.int top.is ∙ none)))

two_is : (f : ℤ → ℤ → ℤ) (cells : List Cell) (x y : ℤ) → slice_get cells 0 ≡ Some (Holds (Int y)) → slice_get cells 1 ≡ Some (Holds (Int x))
    → of_ints f cells ≡ Some (Holds (Int (f x y)) ∷ drop 2 cells)
two_is f cells x y a b =
    on_int_is cells (λ y rest. on_int rest (λ x below. Some (Holds (Int (f x y)) ∷ below))) y a
    ∙ on_int_is (drop 1 cells) (λ x below. Some (Holds (Int (f x y)) ∷ below)) x (lower cells 0 ∙ b)
    ∙ ap (λ (below : List Cell). Some (Holds (Int (f x y)) ∷ below)) (drop_two cells)

set_lower : (cells : List Cell) (c new : Cell) → slice_get cells 1 ≡ Some c → slice_set (drop 1 cells) 0 new ≡ new ∷ drop 2 cells
set_lower [] c new h = absurd cc
set_lower (a ∷ []) c new h = absurd cc
set_lower (a ∷ b ∷ cells) c new h = refl

pub zero_is : (cells : List Cell) (y : ℤ) → slice_get cells 0 ≡ Some (Holds (Int y)) → zero_on_top cells ≡ is_zero y
zero_is [] y h = absurd cc
zero_is (c ∷ cells) y h = ap (λ (c : Cell). zero_on_top (c ∷ cells)) (same h)
  where
    same : slice_get (c ∷ cells) 0 ≡ Some (Holds (Int y)) → c ≡ Holds (Int y)
    same h = cc

pub ruleset two_lemmas = (first_int, second_int)

-- the upper one goes before the answer is written onto the lower one
pub fold_lies : (cells : List Cell) (c : Cell) → slice_get cells 0 ≡ Some c → 0 < length cells
fold_lies cells c h = within_one cells c h

pub fold_value : (cells : List Cell) (x : ℤ) → slice_get cells 1 ≡ Some (Holds (Int x)) → HasValue 0 (drop 1 cells)
fold_value cells x b = record { value = Int x; is = lower cells 0 ∙ b }

pub fold_is : (f : ℤ → ℤ → ℤ) (cells : List Cell) (x y : ℤ) → slice_get cells 0 ≡ Some (Holds (Int y)) → slice_get cells 1 ≡ Some (Holds (Int x))
    → of_ints f cells ≡ Some (slice_set (drop 1 cells) 0 (Holds (Int (f x y))))
fold_is f cells x y a b = two_is f cells x y a b ∙ sym (ap Some (set_lower cells (Holds (Int x)) (Holds (Int (f x y))) b))

pub ruleset fold_lemmas = (fold_value, fold_lies, fold_is, zero_is)

-- the same where the answer is written before the upper one goes
pub near_is : (f : ℤ → ℤ → ℤ) (cells : List Cell) (x y : ℤ) → slice_get cells 0 ≡ Some (Holds (Int y)) → slice_get cells 1 ≡ Some (Holds (Int x))
    → of_ints f cells ≡ Some (drop 1 (slice_set cells 1 (Holds (Int (f x y)))))
near_is f cells x y a b = two_is f cells x y a b ∙ sym (ap Some (set_upper cells (Holds (Int x)) (Holds (Int (f x y))) b))
  where
    set_upper : (cells : List Cell) (c new : Cell) → slice_get cells 1 ≡ Some c → drop 1 (slice_set cells 1 new) ≡ new ∷ drop 2 cells
    set_upper [] c new h = absurd cc
    set_upper (a ∷ []) c new h = absurd cc
    set_upper (a ∷ b ∷ cells) c new h = refl

pub ruleset near_lemmas = (near_is, zero_is)

-- an instruction that has a case is of ints
pub of_kind : (kind : ℕ) (o : Option (List Cell)) → if_ints kind o ≢ None → if_ints kind o ≡ o
of_kind kind o h = of_test (kind == 0x20) o h
  where
    of_test : (b : Bool) (o : Option (List Cell)) → (if b then o else None) ≢ None → (if b then o else None) ≡ o
    of_test true o h = refl
    of_test false o h = absurd (h refl)

-- ---- one int

pub one_has : (f : ℤ → ℤ) (cells : List Cell) → of_int f cells ≢ None → HasInt 0 cells
one_has f cells h = on_int_has cells (λ x rest. Some (Holds (Int (f x)) ∷ rest)) h

pub one_value : (f : ℤ → ℤ) (cells : List Cell) → of_int f cells ≢ None → HasValue 0 cells
one_value f cells h = let top = one_has f cells h in record { value = Int top.int; is = top.is }

pub one_is : (f : ℤ → ℤ) (cells : List Cell) (x : ℤ) → slice_get cells 0 ≡ Some (Holds (Int x)) → of_int f cells ≡ Some (slice_set cells 0 (Holds (Int (f x))))
one_is f [] x h = absurd cc
one_is f (c ∷ cells) x h = on_int_is (c ∷ cells) (λ x rest. Some (Holds (Int (f x)) ∷ rest)) x h

pub ruleset one_lemmas = (one_has, one_value, one_is)

pub dropped_has : (cells : List Cell) → int_dropped cells ≢ None → HasInt 0 cells
dropped_has cells h = on_int_has cells (λ n rest. Some rest) h

pub dropped_lies : (cells : List Cell) → int_dropped cells ≢ None → 0 < length cells
dropped_lies cells h = let top = on_int_has cells (λ n rest. Some rest) h in within_one cells (Holds (Int top.int)) top.is

pub dropped_is : (cells : List Cell) → int_dropped cells ≢ None → int_dropped cells ≡ Some (drop 1 cells)
dropped_is cells h = let top = on_int_has cells (λ n rest. Some rest) h in on_int_is cells (λ n rest. Some rest) top.int top.is

pub ruleset drop_lemmas = (dropped_has, dropped_lies, dropped_is, zero_is)

-- ---- a starting value

pub int_started : (kind : ℕ) (cells : List Cell) → kind ≡ 3 → value_pushed (starting_value kind) cells ≡ Some (Holds (Int (pos 0)) ∷ cells)
unfolding type_of_one
int_started kind cells is = ap (λ (k : ℕ). value_pushed (starting_value k) cells) is

-- ---- two texts

on_text_has : {A : Type 0} (cells : List Cell) (go : List ℕ → List Cell → Option A) → on_text cells go ≢ None → HasText 0 cells
on_text_has [] go h = absurd (h refl)
on_text_has (Base bp ∷ cells) go h = absurd (h refl)
on_text_has (Holds (Int n) ∷ cells) go h = absurd (h refl)
on_text_has (Holds (Text t) ∷ cells) go h = record { text = t; is = refl }
on_text_has (Holds (Object o) ∷ cells) go h = absurd (h refl)
on_text_has (Holds (Effect e) ∷ cells) go h = absurd (h refl)
on_text_has (Holds (Event n) ∷ cells) go h = absurd (h refl)

on_text_is : {A : Type 0} (cells : List Cell) (go : List ℕ → List Cell → Option A) (t : List ℕ) → slice_get cells 0 ≡ Some (Holds (Text t)) → on_text cells go ≡ go t (drop 1 cells)
on_text_is [] go t h = absurd cc
on_text_is (c ∷ cells) go t h = ap (λ (c : Cell). on_text (c ∷ cells) go) (same h)
  where
    same : slice_get (c ∷ cells) 0 ≡ Some (Holds (Text t)) → c ≡ Holds (Text t)
    same h = cc

pub first_text : (f : List ℕ → List ℕ → List ℕ) (cells : List Cell) → of_texts f cells ≢ None → HasText 0 cells
first_text f cells h = on_text_has cells (λ b rest. on_text rest (λ a below. Some (Holds (Text (f a b)) ∷ below))) h

pub second_text : (f : List ℕ → List ℕ → List ℕ) (cells : List Cell) → of_texts f cells ≢ None → HasText 1 cells
second_text f cells h =
    let top = first_text f cells h in
    let next = on_text_has (drop 1 cells) (λ a below. Some (Holds (Text (f a top.text)) ∷ below))
    (λ none. h (on_text_is cells (λ b rest. on_text rest (λ a below. Some (Holds (Text (f a b)) ∷ below))) top.text top.is ∙ none)) in
    record { text = next.text; is = sym (lower cells 0) ∙ next.is }

pub texts_lie : (f : List ℕ → List ℕ → List ℕ) (cells : List Cell) → of_texts f cells ≢ None → 0 < length cells
texts_lie f cells h = let first = first_text f cells h in within_one cells (Holds (Text first.text)) first.is

pub texts_value : (f : List ℕ → List ℕ → List ℕ) (cells : List Cell) → of_texts f cells ≢ None → HasValue 0 (drop 1 cells)
texts_value f cells h = let second = second_text f cells h in record { value = Text second.text; is = lower cells 0 ∙ second.is }

texts_is : (f : List ℕ → List ℕ → List ℕ) (cells : List Cell) (a b : List ℕ) → slice_get cells 0 ≡ Some (Holds (Text b)) → slice_get cells 1 ≡ Some (Holds (Text a))
    → of_texts f cells ≡ Some (Holds (Text (f a b)) ∷ drop 2 cells)
texts_is f cells a b h i =
    on_text_is cells (λ b rest. on_text rest (λ a below. Some (Holds (Text (f a b)) ∷ below))) b h
    ∙ on_text_is (drop 1 cells) (λ a below. Some (Holds (Text (f a b)) ∷ below)) a (lower cells 0 ∙ i)
    ∙ ap (λ (below : List Cell). Some (Holds (Text (f a b)) ∷ below)) (drop_two cells)

pub texts_set : (f : List ℕ → List ℕ → List ℕ) (cells : List Cell) (a b : List ℕ) → slice_get cells 0 ≡ Some (Holds (Text b)) → slice_get cells 1 ≡ Some (Holds (Text a))
    → of_texts f cells ≡ Some (slice_set (drop 1 cells) 0 (Holds (Text (f a b))))
texts_set f cells a b h i = texts_is f cells a b h i ∙ sym (ap Some (set_lower cells (Holds (Text a)) (Holds (Text (f a b))) i))

pub ruleset text_lemmas = (first_text, second_text, texts_lie, texts_value, texts_set)

-- ---- a constant string

-- the text of a string, whatever is left out behind it
pub text_pushed : (text : List ℕ) (left_out : ℕ) → length text ≤ text_limit → take text_limit (whole text left_out) ≡ text
text_pushed text left_out less = elim (cases_lt (length text) text_limit) [
  | inl short ↦
      let test : nat_lt (length text) text_limit ≡ true = grind (arith, nat_tests) in
      ap (λ (t : Bool). take text_limit (text ++ replicate (if t then 0 else left_out) 0)) test
      ∙ ap (take text_limit) (append-nil text)
      ∙ take_all text_limit text less
  | inr full ↦ take_at text (replicate (if nat_lt (length text) text_limit then 0 else left_out) 0) text_limit (omega (arith, less, full))
]
