-- The steps of a file's instructions, put at half their places one after another.
use Rattle.std.proofs.Common.{◌≡◌, ◌≢◌, ◌<◌, ◌≤◌, ◌+◌, ◌/◌, ◌++◌, ◌∷◌, [], ℕ, zero, suc, List, length, slice_get, get_or, Option, Some, None, IsTrue, inl, inr, refl, sym, ap, subst, ◌∙◌, arith}
use Rattle.std.specs.Prelude.{IfSome}
use Rattle.std.specs.Option.{option_map}
use Rattle.std.proofs.lemmas.Bool.{cases_lt}
use Rattle.std.proofs.lemmas.Option.{slice_get-get_or}
use Rattle.std.proofs.lemmas.List.{length_push}
use Rattle.ncs_code.specs.Plain.{PlainOp}
use Rattle.ncs_code.specs.Spelling.{op_size}
use Rattle.ncs_code.specs.File.{begins, file_length, op_at}
use Rattle.ncs_code.specs.Laws.{PlaceLaws, SizeLaws}
use Rattle.ncs_file.specs.Laws.{NextBegins}
use Rattle.decoded_code.specs.declared.step.Step.{Step}
use Rattle.decoded_code.specs.Steps.{AreDecoded, AreSteps, kept, op_of}

-- ---- lists that grow

pub pushed_keeps : {A : Type 0} (xs : List A) (new : A) (i : ℕ) (x : A) → slice_get xs i ≡ Some x → slice_get (xs ++ new ∷ []) i ≡ Some x
pushed_keeps [] new i x is = absurd cc
pushed_keeps (y ∷ xs) new zero x is = is
pushed_keeps (y ∷ xs) new (suc i) x is = pushed_keeps xs new i x is

pub pushed_there : {A : Type 0} (xs : List A) (new : A) (i : ℕ) → length xs ≡ i → slice_get (xs ++ new ∷ []) i ≡ Some new
pushed_there [] new zero is = refl
pushed_there [] new (suc i) is = absurd (omega (arith, is))
pushed_there (y ∷ xs) new zero is = absurd (omega (arith, is))
pushed_there (y ∷ xs) new (suc i) is = pushed_there xs new i (omega (arith, is))

pub pushed_count : {A : Type 0} (xs : List A) (new : A) → length (xs ++ new ∷ []) ≡ length xs + 1
pushed_count xs new = length_push xs new

-- ---- steps so far

pub begun : (ops : List PlainOp) → PlaceLaws → AreDecoded ops 13 []
unfolding op_at
begun ops places = record {
  goes_on = first ops;
  inside = omega arith;
  count = omega arith;
  steps = λ place op is less. absurd (omega (arith, (places.lies ops place op is).0, less));
}
  where
    first : (ops : List PlainOp) → 13 < file_length ops → IsTrue (begins ops 13)
    first [] less = absurd (omega (arith, less))
    first (op ∷ ops) less = refl

still : (m n : Option Step) (y : PlainOp) → option_map op_of m ≡ Some y → ((x : Step) → m ≡ Some x → n ≡ Some x) → option_map op_of n ≡ Some y
still None n y is keeps = absurd cc
still (Some x) n y is keeps = ap (option_map op_of) (keeps x refl) ∙ is

pub decoded_more : (ops : List PlainOp) (at size : ℕ) (op : PlainOp) (step : Step) (all now : List Step)
    → PlaceLaws → SizeLaws → NextBegins → AreDecoded ops at all → op_at ops at ≡ Some op → size ≡ op_size op → op_of step ≡ kept op
    → slice_get now (at / 2) ≡ Some step → length now ≡ at / 2 + 1
    → ((i : ℕ) (other : Step) → slice_get all i ≡ Some other → slice_get now i ≡ Some other) → AreDecoded ops (at + size) now
decoded_more ops at size op step all now places sizes next so_far is size_is step_is there count others =
    let some = sizes.some op in
    let lies = places.lies ops at op is in record {
      goes_on = λ less. elim (next ops at op is) [
        | inl more ↦ subst (λ (n : ℕ). IsTrue (begins ops (at + n))) (sym size_is) more
        | inr end ↦ absurd (omega (arith, end, less, size_is))
      ];
      inside = omega (arith, lies.1, size_is);
      count = omega (arith, count, some, size_is);
      steps = λ place other other_is less. elim (cases_lt place at) [
        | inl before ↦
            still (slice_get all (place / 2)) (slice_get now (place / 2)) (kept other) (so_far.steps place other other_is before) (others (place / 2))
        | inr behind ↦ elim (cases_lt at place) [
          | inl over ↦
              let apart = places.apart ops at place op other is other_is over in
              absurd (omega (arith, apart, less, size_is))
          | inr under ↦
              let same : place ≡ at = omega (arith, behind, under) in
              let one : Some op ≡ Some other = sym is ∙ ap (op_at ops) (sym same) ∙ other_is in
              ap (λ (n : ℕ). option_map op_of (slice_get now (n / 2))) same
              ∙ ap (option_map op_of) there
              ∙ ap Some step_is
              ∙ ap (option_map kept) one
        ]
      ];
    }

pub all_decoded : (ops : List PlainOp) (at : ℕ) (all : List Step) → PlaceLaws → SizeLaws → AreDecoded ops at all → file_length ops ≤ at → AreSteps ops all
all_decoded ops at all places sizes so_far past place op is =
    so_far.steps place op is (omega (arith, (places.lies ops place op is).1, sizes.some op, past))

-- ---- a step that is looked up

inside_some : (m : Option PlainOp) (n : Option Step) → ((op : PlainOp) → m ≡ Some op → option_map op_of n ≡ Some (kept op)) → m ≢ None → n ≢ None
inside_some None n is some = absurd (some refl)
inside_some (Some op) n is some = λ none. never (sym (ap (option_map op_of) none) ∙ is op refl)
  where
    never : None ≡ Some (kept op) → ⊥
    never e = absurd cc

less_of_some : {A : Type 0} (xs : List A) (i : ℕ) → slice_get xs i ≢ None → i < length xs
less_of_some [] i some = absurd (some refl)
less_of_some (x ∷ xs) zero some = omega arith
less_of_some (x ∷ xs) (suc i) some = let less = less_of_some xs i some in omega (arith, less)

pub found_inside : (ops : List PlainOp) (at : ℕ) (all : List Step) → AreSteps ops all → op_at ops at ≢ None → at / 2 < length all
found_inside ops at all steps some =
    less_of_some all (at / 2) (inside_some (op_at ops at) (slice_get all (at / 2)) (λ op is. steps at op is) some)

found_some : (m : Option PlainOp) (step : Step) → ((op : PlainOp) → m ≡ Some op → Some (op_of step) ≡ Some (kept op)) → IfSome m (λ op. op_of step ≡ kept op)
found_some None step is = tt
found_some (Some op) step is = one (is op refl)
  where
    one : {x y : PlainOp} → Some x ≡ Some y → x ≡ y
    one e = cc

pub found_is : (ops : List PlainOp) (at k : ℕ) (all : List Step) (step : Step) → AreSteps ops all → k ≡ at / 2 → k < length all → step ≡ get_or all k step
    → IfSome (op_at ops at) (λ op. op_of step ≡ kept op)
found_is ops at k all step steps half less is =
    let there : slice_get all (at / 2) ≡ Some step = ap (slice_get all) (sym half) ∙ slice_get-get_or all k step less ∙ ap Some (sym is) in
    found_some (op_at ops at) step (λ op op_is. sym (ap (option_map op_of) there) ∙ steps at op op_is)

pub ruleset steps_lemmas = (begun, all_decoded)

pub ruleset add_lemmas = (decoded_more)

pub ruleset put_lemmas = (pushed_keeps, pushed_there, pushed_count)

pub ruleset found_lemmas = (found_inside, found_is)
