-- Two cells on top that become one.
use Rattle.std.proofs.Common.{arith, ◌≡◌, ◌<◌, ◌≤◌, ◌+◌, ◌-◌, ◌++◌, ◌∷◌, [], ℕ, zero, suc, List, length, take, drop, reverse, set, slice_get, Some, refl, sym, ap, ◌∙◌}
use Rattle.std.specs.Prelude.{ℤ}
use Rattle.std.proofs.lemmas.List.{length-append, length-reverse, length-set}
use Rattle.std.proofs.lemmas.Option.{slice_get_within}
use Rattle.nwq_value.specs.declared.value.Value.TheVariants.{Int}
use Rattle.saved_state.specs.declared.cell.Cell.{Cell}
use Rattle.saved_state.specs.declared.cell.Cell.TheVariants.{Value as Holds}
use Rattle.saved_state.specs.Cells.{StackView}
use Rattle.saved_state.specs.Kept.{EndsPlainly}
use Rattle.saved_state.proofs.Lists.{drop_reversed, get_behind}
use Rattle.saved_state.proofs.Piles.{kept_top, set_top}
use Rattle.saved_state.proofs.Depths.{fits_down, got_down, set_is}
use Rattle.saved_state.proofs.Views.{seen}

get_other : (xs : List Cell) (i j : ℕ) (new : Cell) → i < j → slice_get (set xs i new) j ≡ slice_get xs j
get_other [] i j new less = refl
get_other (x ∷ xs) i zero new less = absurd (omega (arith, less))
get_other (x ∷ xs) zero (suc j) new less = refl
get_other (x ∷ xs) (suc i) (suc j) new less = get_other xs i j new (omega (arith, less))

-- the last cell stays when the one before it is written
pub still_plain : (top now : List Cell) (k : ℕ) (new : Cell) → EndsPlainly top → 2 ≤ length top → k ≡ length top - 2 → now ≡ set top k new → EndsPlainly now
still_plain top now k new h two at is =
    let size : length now ≡ length top = ap length is ∙ length-set top k new in
    let last : length now - 1 ≡ length top - 1 = omega (arith, size) in
    record {
      cell = h.cell;
      is =
          ap (slice_get now) last
          ∙ ap (λ (t : List Cell). slice_get t (length top - 1)) is
          ∙ get_other top k (length top - 1) new (omega (arith, two, at))
          ∙ h.is;
      plain = h.plain;
    }

pub last_folded : (top now left : List Cell) (k : ℕ) (new : Cell) → k ≡ length top - 2 → now ≡ set top k new → left ≡ take (length now - 1) now
    → left ≡ take (length top - 1) (set top (length top - 2) new)
last_folded top now left k new at is less =
    let size : length now ≡ length top = ap length is ∙ length-set top k new in
    less
    ∙ ap (λ (n : ℕ). take (n - 1) now) size
    ∙ ap (take (length top - 1)) is
    ∙ ap (λ (i : ℕ). take (length top - 1) (set top i new)) at

pub ruleset last_lemmas = (still_plain, last_folded)

-- among the cells of a pile
pub plain_on_top : (low top : List Cell) → EndsPlainly (low ++ top) → 2 ≤ length top → EndsPlainly top
plain_on_top low top h two =
    let sum = length-append low top in
    let whole : length (low ++ top) - 1 ≡ length low + (length top - 1) = omega (arith, sum, two) in
    record {
      cell = h.cell;
      is = sym (get_behind low top (length top - 1)) ∙ ap (slice_get (low ++ top)) (sym whole) ∙ h.is;
      plain = h.plain;
    }

pub two_on_top : (low top : List Cell) → 2 ≤ length top → 2 ≤ length (low ++ top)
two_on_top low top two = let sum = length-append low top in omega (arith, sum, two)

pub folded_is : (low top : List Cell) (new : Cell) → 2 ≤ length top
    → take (length (low ++ top) - 1) (set (low ++ top) (length (low ++ top) - 2) new) ≡ low ++ take (length top - 1) (set top (length top - 2) new)
folded_is low top new two =
    let sum = length-append low top in
    let place : length (low ++ top) - 2 - length low ≡ length top - 2 = omega (arith, sum, two) in
    let count : length (low ++ top) - 1 - length low ≡ length top - 1 = omega (arith, sum, two) in
    let written : set (low ++ top) (length (low ++ top) - 2) new ≡ low ++ set top (length top - 2) new =
    set_top low top (length (low ++ top) - 2) new (omega (arith, sum, two))
    ∙ ap (λ (i : ℕ). low ++ set top i new) place in
    ap (take (length (low ++ top) - 1)) written
    ∙ kept_top low (set top (length top - 2) new) (length (low ++ top) - 1) (omega (arith, sum, two))
    ∙ ap (λ (n : ℕ). low ++ take n (set top (length top - 2) new)) count

pub ruleset fold_lemmas = (plain_on_top, two_on_top, folded_is)

-- and as a stack
pub seen_plain : (cells : List Cell) (bp : ℕ) (stack : StackView) (y : ℤ) → seen cells bp ≡ stack → slice_get stack.cells 0 ≡ Some (Holds (Int y)) → EndsPlainly cells
seen_plain cells bp stack y is here =
    let some : 1 ≤ length stack.cells = let inside = slice_get_within stack.cells 0 (Holds (Int y)) here in omega (arith, inside) in
    let fits = fits_down cells bp 1 stack is some in
    let at : length cells - 1 ≡ length cells - 1 - 0 = omega arith in
    record {
      cell = Holds (Int y);
      is =
          ap (slice_get cells) at
          ∙ sym (got_down cells 0 (omega (arith, fits)))
          ∙ ap (λ (s : StackView). slice_get s.cells 0) is
          ∙ here;
      plain = refl;
    }

pub seen_folded : (cells now : List Cell) (bp : ℕ) (stack : StackView) (new : Cell) → seen cells bp ≡ stack → 2 ≤ length cells
    → now ≡ take (length cells - 1) (set cells (length cells - 2) new) → seen now bp ≡ record stack { cells = drop 1 (set stack.cells 1 new) }
seen_folded cells now bp stack new is two ok =
    let size = length-set cells (length cells - 2) new in
    let same : length cells - 2 ≡ length cells - 1 - 1 = omega arith in
    let turned : reverse now ≡ drop 1 (set (reverse cells) 1 new) =
    ap reverse ok
    ∙ sym (drop_reversed (set cells (length cells - 2) new) (length cells - 1) 1 (omega (arith, size, two)))
    ∙ ap (λ (k : ℕ). drop 1 (reverse (set cells k new))) same
    ∙ ap (drop 1) (set_is cells 1 new (omega (arith, two))) in
    let after : seen now bp ≡ record (seen cells bp) { cells = drop 1 (set (reverse cells) 1 new) } =
    (λ k. record { cells = turned k; bp = bp }) in
    after ∙ ap (λ (s : StackView). record s { cells = drop 1 (set s.cells 1 new) }) is

pub seen_same : (cells now : List Cell) (bp : ℕ) (stack : StackView) → seen cells bp ≡ stack → now ≡ cells → seen now bp ≡ stack
seen_same cells now bp stack is ok = ap (λ (t : List Cell). seen t bp) ok ∙ is
