-- Runs of cells that are written onto others, from the lowest one on.
use Rattle.std.proofs.Common.{arith, ◌≡◌, ◌<◌, ◌≤◌, ◌+◌, ◌-◌, ◌++◌, ◌∷◌, [], ℕ, zero, suc, List, length, take, drop, reverse, get_or, Some, Result, Ok, Err, Bool, true, false, refl, sym, ap, ◌∙◌}
use Rattle.std.proofs.Common.{subst, append_assoc, if◌then◌else◌}
use Rattle.std.specs.Prelude.{IfSome, IfOk, slice_get, slice_set}
use Rattle.std.proofs.lemmas.List.{length-append, length-take-le, length-drop, length-reverse, take-append-drop, drop-drop, drop_at, reverse-append, reverse-reverse}
use Rattle.std.proofs.lemmas.Option.{slice_get-get_or}
use Rattle.std.proofs.Math.Seq.{take-append-add}
use Rattle.saved_state.specs.declared.cell.Cell.{Cell}
use Rattle.saved_state.specs.Cells.{StackView, run_written}
use Rattle.saved_state.proofs.Lists.{get_behind, get_dropped, drop_reversed, take_reversed}
use Rattle.saved_state.proofs.Depths.{fits_down}
use Rattle.saved_state.proofs.Places.{part_is}
use Rattle.saved_state.proofs.Views.{seen}

-- ---- lists

drop_is : (xs : List Cell) (i : ℕ) (x : Cell) → slice_get xs i ≡ Some x → drop i xs ≡ x ∷ drop (suc i) xs
drop_is [] i x h = absurd cc
drop_is (y ∷ ys) zero x h = cc
drop_is (y ∷ ys) (suc i) x h = drop_is ys i x h

take_is : (xs : List Cell) (i : ℕ) (x : Cell) → slice_get xs i ≡ Some x → take (suc i) xs ≡ take i xs ++ x ∷ []
take_is [] i x h = absurd cc
take_is (y ∷ ys) zero x h = cc
take_is (y ∷ ys) (suc i) x h = ap (λ (t : List Cell). y ∷ t) (take_is ys i x h)

set_seam : (xs : List Cell) (y : Cell) (ys : List Cell) (new : Cell) → slice_set (xs ++ y ∷ ys) (length xs) new ≡ xs ++ new ∷ ys
set_seam [] y ys new = refl
set_seam (x ∷ xs) y ys new = ap (λ (t : List Cell). x ∷ t) (set_seam xs y ys new)

some_in : (xs : List Cell) (i : ℕ) → i < length xs → (x : Cell) × (slice_get xs i ≡ Some x)
some_in [] i less = absurd (omega arith)
some_in (x ∷ xs) zero less = (x, refl)
some_in (x ∷ xs) (suc i) less = some_in xs i (omega arith)

-- ---- one cell after another

pub none_written : (to first : ℕ) (old : List Cell) → old ≡ run_written to first 0 old
none_written to first old = sym (ap (λ (n : ℕ). take to old ++ drop n old) none ∙ take-append-drop to old)
  where
    none : to + 0 ≡ to
    none = omega arith

pub one_written : (to first count i : ℕ) (old now after : List Cell) → now ≡ run_written to first i old → to ≤ first → first + count ≤ length old → i < count
    → IfSome (slice_get now (first + i)) (λ cell. after ≡ slice_set now (to + i) cell) → after ≡ run_written to first (i + 1) old
one_written to first count i old now after is order inside less step =
    let source = some_in old (first + i) (omega (arith, inside, less)) in
    let target = some_in old (to + i) (omega (arith, inside, less, order)) in
    let size : length (take to old) ≡ to = length-take-le to old (omega (arith, inside, order)) in
    let left : length (drop first old) ≡ length old - first = length-drop first old in
    let many : length (take i (drop first old)) ≡ i = length-take-le i (drop first old) (omega (arith, left, inside, less)) in
    let split : first + i ≡ length (take to old) + (length (take i (drop first old)) + (first - to)) = omega (arith, size, many, order) in
    let whole : to + i + (first - to) ≡ first + i = omega (arith, order) in
    let read : slice_get now (first + i) ≡ Some source.0 =
    ap (λ (t : List Cell). slice_get t (first + i)) is
    ∙ ap (slice_get (run_written to first i old)) split
    ∙ get_behind (take to old) (take i (drop first old) ++ drop (to + i) old) (length (take i (drop first old)) + (first - to))
    ∙ get_behind (take i (drop first old)) (drop (to + i) old) (first - to)
    ∙ get_dropped (to + i) old (first - to)
    ∙ ap (slice_get old) whole ∙ source.1 in
    let put : after ≡ slice_set now (to + i) source.0 = subst (λ o. IfSome o (λ cell. after ≡ slice_set now (to + i) cell)) read step in
    let joined : List Cell = take to old ++ take i (drop first old) in
    let seam : now ≡ joined ++ target.0 ∷ drop (suc (to + i)) old =
    is ∙ sym (append_assoc (take to old) (take i (drop first old)) (drop (to + i) old))
    ∙ ap (λ (t : List Cell). joined ++ t) (drop_is old (to + i) target.0 target.1) in
    let sum : length joined ≡ length (take to old) + length (take i (drop first old)) = length-append (take to old) (take i (drop first old)) in
    let at : to + i ≡ length joined = omega (arith, sum, size, many) in
    let next : i + 1 ≡ suc i = omega arith in
    let behind : suc (to + i) ≡ to + (i + 1) = omega arith in
    let run : take (i + 1) (drop first old) ≡ take i (drop first old) ++ source.0 ∷ [] =
    ap (λ (n : ℕ). take n (drop first old)) next ∙ take_is (drop first old) i source.0 (get_dropped first old i ∙ source.1) in
    let tail : take i (drop first old) ++ source.0 ∷ drop (suc (to + i)) old ≡ take (i + 1) (drop first old) ++ drop (to + (i + 1)) old =
    sym (append_assoc (take i (drop first old)) (source.0 ∷ []) (drop (suc (to + i)) old))
    ∙ ap (λ (t : List Cell). t ++ drop (suc (to + i)) old) (sym run)
    ∙ ap (λ (n : ℕ). take (i + 1) (drop first old) ++ drop n old) behind in
    put
    ∙ ap (λ (t : List Cell). slice_set t (to + i) source.0) seam
    ∙ ap (λ (n : ℕ). slice_set (joined ++ target.0 ∷ drop (suc (to + i)) old) n source.0) at
    ∙ set_seam joined target.0 (drop (suc (to + i)) old) source.0
    ∙ append_assoc (take to old) (take i (drop first old)) (source.0 ∷ drop (suc (to + i)) old)
    ∙ ap (λ (t : List Cell). take to old ++ t) tail

written_length : (to first count i : ℕ) (old now : List Cell) → now ≡ run_written to first i old → to ≤ first → first + count ≤ length old → i < count
    → length now ≡ length old
written_length to first count i old now is order inside less =
    let size : length (take to old) ≡ to = length-take-le to old (omega (arith, inside, order)) in
    let left : length (drop first old) ≡ length old - first = length-drop first old in
    let many : length (take i (drop first old)) ≡ i = length-take-le i (drop first old) (omega (arith, left, inside, less)) in
    let rest : length (drop (to + i) old) ≡ length old - (to + i) = length-drop (to + i) old in
    let whole = length-append (take to old) (take i (drop first old) ++ drop (to + i) old) in
    let behind = length-append (take i (drop first old)) (drop (to + i) old) in
    ap length is ∙ omega (arith, size, many, rest, whole, behind, inside, less, order)

pub from_inside : (to first count i : ℕ) (old now : List Cell) → now ≡ run_written to first i old → to ≤ first → first + count ≤ length old → i < count
    → first + i < length now
from_inside to first count i old now is order inside less =
    let same = written_length to first count i old now is order inside less in omega (arith, same, inside, less)

pub onto_inside : (to first count i : ℕ) (old now : List Cell) → now ≡ run_written to first i old → to ≤ first → first + count ≤ length old → i < count
    → to + i < length now
onto_inside to first count i old now is order inside less =
    let same = written_length to first count i old now is order inside less in omega (arith, same, inside, less, order)

pub ruleset write_lemmas = (none_written, one_written, from_inside, onto_inside)

pub one_put : (now after : List Cell) (from onto : ℕ) (cell : Cell) → from < length now → cell ≡ get_or now from cell → after ≡ slice_set now onto cell
    → IfSome (slice_get now from) (λ c. after ≡ slice_set now onto c)
one_put now after from onto cell less here put =
    subst (λ o. IfSome o (λ c. after ≡ slice_set now onto c)) (sym (slice_get-get_or now from cell less ∙ ap Some (sym here))) put

-- ---- on top of others

behind_low : (low top : List Cell) (k : ℕ) → drop (length low + k) (low ++ top) ≡ drop k top
behind_low low top k = sym (drop-drop k (length low) (low ++ top)) ∙ ap (drop k) (drop_at low top (length low) refl)

pub written_on_top : (low top : List Cell) (from onto count to first : ℕ) → onto + count ≤ length top → from ≤ onto
    → to ≡ length top - (onto + count) → first ≡ length top - (from + count)
    → low ++ run_written to first count top ≡ run_written (length (low ++ top) - (onto + count)) (length (low ++ top) - (from + count)) count (low ++ top)
written_on_top low top from onto count to first inside order isto isfirst =
    let size = length-append low top in
    let a : length (low ++ top) - (onto + count) ≡ length low + to = omega (arith, size, inside, isto) in
    let b : length (low ++ top) - (from + count) ≡ length low + first = omega (arith, size, inside, order, isfirst) in
    let c : length (low ++ top) - (onto + count) + count ≡ length low + (to + count) = omega (arith, size, inside, isto) in
    let front : take (length (low ++ top) - (onto + count)) (low ++ top) ≡ low ++ take to top =
    ap (λ (n : ℕ). take n (low ++ top)) a ∙ take-append-add low top to in
    let run : drop (length (low ++ top) - (from + count)) (low ++ top) ≡ drop first top = ap (λ (n : ℕ). drop n (low ++ top)) b ∙ behind_low low top first in
    let rest : drop (length (low ++ top) - (onto + count) + count) (low ++ top) ≡ drop (to + count) top =
    ap (λ (n : ℕ). drop n (low ++ top)) c ∙ behind_low low top (to + count) in
    sym (ap (λ (t : List Cell). t ++ (take count (drop (length (low ++ top) - (from + count)) (low ++ top)) ++ drop (length (low ++ top) - (onto + count) + count) (low ++ top))) front
    ∙ ap (λ (t : List Cell). (low ++ take to top) ++ (take count t ++ drop (length (low ++ top) - (onto + count) + count) (low ++ top))) run
    ∙ ap (λ (t : List Cell). (low ++ take to top) ++ (take count (drop first top) ++ t)) rest
    ∙ append_assoc low (take to top) (take count (drop first top) ++ drop (to + count) top))

-- ---- the cells the other way round

turned : (xs : List Cell) (from onto count : ℕ) → onto + count ≤ length xs → from ≤ onto
    → reverse (run_written (length xs - (onto + count)) (length xs - (from + count)) count xs) ≡ run_written onto from count (reverse xs)
turned xs from onto count inside order =
    let to = length xs - (onto + count) in
    let first = length xs - (from + count) in
    let size = length-reverse xs in
    let front : reverse (take to xs) ≡ drop (onto + count) (reverse xs) = sym (drop_reversed xs to (onto + count) (omega (arith, inside))) in
    let rest : reverse (drop (to + count) xs) ≡ take onto (reverse xs) =
    ap reverse (sym (take_reversed xs (to + count) onto (omega (arith, inside)))) ∙ reverse-reverse (take onto (reverse xs)) in
    let over : length (reverse xs) - (length xs - from) ≡ from = omega (arith, size, inside, order) in
    let at : length xs - from - count ≡ first = omega arith in
    let part : reverse (take count (drop from (reverse xs))) ≡ take count (drop first xs) =
    ap (λ (n : ℕ). reverse (take count (drop n (reverse xs)))) (sym over)
    ∙ part_is xs (length xs - from) count (omega (arith, inside, order)) (omega (arith, inside, order))
    ∙ ap (λ (n : ℕ). take count (drop n xs)) at in
    let run : reverse (take count (drop first xs)) ≡ take count (drop from (reverse xs)) =
    ap reverse (sym part) ∙ reverse-reverse (take count (drop from (reverse xs))) in
    reverse-append (take to xs) (take count (drop first xs) ++ drop (to + count) xs)
    ∙ ap (λ (t : List Cell). t ++ reverse (take to xs)) (reverse-append (take count (drop first xs)) (drop (to + count) xs))
    ∙ append_assoc (reverse (drop (to + count) xs)) (reverse (take count (drop first xs))) (reverse (take to xs))
    ∙ ap (λ (t : List Cell). t ++ (reverse (take count (drop first xs)) ++ reverse (take to xs))) rest
    ∙ ap (λ (t : List Cell). take onto (reverse xs) ++ (t ++ reverse (take to xs))) run
    ∙ ap (λ (t : List Cell). take onto (reverse xs) ++ (take count (drop from (reverse xs)) ++ t)) front

pub seen_written : {E : Type 0} (result : Result Bool E) (cells now : List Cell) (bp from onto count : ℕ) (stack : StackView)
    → seen cells bp ≡ stack → onto + count ≤ length stack.cells → from ≤ onto
    → IfOk result (λ done. now ≡ (if done then run_written (length cells - (onto + count)) (length cells - (from + count)) count cells else cells))
    → IfOk result (λ done. seen now bp ≡ (if done then record stack { cells = run_written onto from count stack.cells } else stack))
seen_written (Ok true) cells now bp from onto count stack is inside order ok =
    let fits = fits_down cells bp (onto + count) stack is inside in
    let after : seen (run_written (length cells - (onto + count)) (length cells - (from + count)) count cells) bp ≡ record (seen cells bp) { cells = run_written onto from count (reverse cells) } =
    (λ k. record { cells = turned cells from onto count fits order k; bp = bp }) in
    ap (λ (t : List Cell). seen t bp) ok ∙ after ∙ ap (λ (s : StackView). record s { cells = run_written onto from count s.cells }) is
seen_written (Ok false) cells now bp from onto count stack is inside order ok = ap (λ (t : List Cell). seen t bp) ok ∙ is
seen_written (Err e) cells now bp from onto count stack is inside order ok = tt
