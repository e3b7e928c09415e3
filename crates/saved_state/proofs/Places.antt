-- A stack's cells are kept from the bottom up: where the cells of a list stand once it is seen from
-- the top.
use Rattle.std.proofs.Common.{◌≡◌, ◌<◌, ◌≤◌, ◌+◌, ◌-◌, ◌++◌, ◌∷◌, [], ℕ, suc, List, length, take, drop, reverse, get_or, set, slice_get, Some, Bool, if◌then◌else◌, refl, sym, ap, ◌∙◌, arith}
use Rattle.std.proofs.lemmas.Bool.{ne_eqb, eq-eqb}
use Rattle.std.proofs.lemmas.List.{length-reverse, length-take-le, length-append, take-append-drop, drop_more, drop-take, set_split, drop_at}
use Rattle.std.proofs.lemmas.Option.{slice_get-get_or}
use Rattle.saved_state.specs.declared.cell.Cell.{Cell}
use Rattle.saved_state.specs.Cells.{cell_at, with_cell, cells_beneath}
use Rattle.saved_state.specs.Laws.{PlacesSplit}
use Rattle.saved_state.proofs.Lists.{reverse_joined, drop_reversed, take_reversed}

-- ---- one cell

cell_here : (over beneath : List Cell) (cell : Cell) → cell_at (over ++ cell ∷ beneath) (length beneath) ≡ Some cell
cell_here [] beneath cell =
    ap (λ (t : Bool). if t then Some cell else cell_at beneath (length beneath)) (eq-eqb (length beneath) (length beneath) refl)
cell_here (c ∷ over) beneath cell =
    let size : length (over ++ cell ∷ beneath) ≡ length over + suc (length beneath) = length-append over (cell ∷ beneath) in
    let lower = ne_eqb (length beneath) (length (over ++ cell ∷ beneath)) (λ same. omega arith) in
    ap (λ (t : Bool). if t then Some c else cell_at (over ++ cell ∷ beneath) (length beneath)) lower
    ∙ cell_here over beneath cell

put_here : (over beneath : List Cell) (cell new : Cell) → with_cell (over ++ cell ∷ beneath) (length beneath) new ≡ over ++ new ∷ beneath
put_here [] beneath cell new =
    ap (λ (t : Bool). if t then new ∷ beneath else cell ∷ with_cell beneath (length beneath) new) (eq-eqb (length beneath) (length beneath) refl)
put_here (c ∷ over) beneath cell new =
    let size : length (over ++ cell ∷ beneath) ≡ length over + suc (length beneath) = length-append over (cell ∷ beneath) in
    let lower = ne_eqb (length beneath) (length (over ++ cell ∷ beneath)) (λ same. omega arith) in
    ap (λ (t : Bool). if t then new ∷ (over ++ cell ∷ beneath) else c ∷ with_cell (over ++ cell ∷ beneath) (length beneath) new) lower
    ∙ ap (λ (t : List Cell). c ∷ t) (put_here over beneath cell new)

under_here : (over beneath : List Cell) → cells_beneath (length beneath) (over ++ beneath) ≡ beneath
under_here over beneath =
    let size = length-append over beneath in
    drop_at over beneath (length (over ++ beneath) - length beneath) (omega (arith, size))

pub split_places : PlacesSplit
split_places over cell beneath = (cell_here over beneath cell, (λ new. put_here over beneath cell new), under_here over beneath)

-- the list around one of its cells
split_at : (cells : List Cell) (i : ℕ) (d : Cell) → i < length cells → cells ≡ take i cells ++ get_or cells i d ∷ drop (i + 1) cells
split_at cells i d less = sym (take-append-drop i cells) ∙ ap (λ (t : List Cell). take i cells ++ t) (drop_more cells i d less)

place_is : (cells : List Cell) (i : ℕ) → i < length cells → length (reverse (take i cells)) ≡ i
place_is cells i less = length-reverse (take i cells) ∙ length-take-le i cells (omega arith)

pub cell_is : (cells : List Cell) (i : ℕ) (d : Cell) → i < length cells → cell_at (reverse cells) i ≡ Some (get_or cells i d)
cell_is cells i d less =
    let front = take i cells in
    let back = drop (i + 1) cells in
    let cell = get_or cells i d in
    ap (λ (t : List Cell). cell_at t i) (ap reverse (split_at cells i d less) ∙ reverse_joined front cell back)
    ∙ ap (cell_at (reverse back ++ cell ∷ reverse front)) (sym (place_is cells i less))
    ∙ cell_here (reverse back) (reverse front) cell

pub cell_got : (cells : List Cell) (i : ℕ) → i < length cells → cell_at (reverse cells) i ≡ slice_get cells i
cell_got [] i less = absurd (omega arith)
cell_got (c ∷ cells) i less = cell_is (c ∷ cells) i c less ∙ sym (slice_get-get_or (c ∷ cells) i c less)

pub put_is : (cells : List Cell) (i : ℕ) (new : Cell) → i < length cells → reverse (set cells i new) ≡ with_cell (reverse cells) i new
put_is cells i new less =
    let front = take i cells in
    let back = drop (i + 1) cells in
    let cell = get_or cells i new in
    let same : suc i ≡ i + 1 = omega arith in
    let written : set cells i new ≡ front ++ new ∷ back = set_split cells i new less ∙ ap (λ k. front ++ new ∷ drop k cells) same in
    let seen : reverse cells ≡ reverse back ++ cell ∷ reverse front =
    ap reverse (split_at cells i new less) ∙ reverse_joined front cell back in
    ap reverse written
    ∙ reverse_joined front new back
    ∙ sym (put_here (reverse back) (reverse front) cell new)
    ∙ ap (λ k. with_cell (reverse back ++ cell ∷ reverse front) k new) (place_is cells i less)
    ∙ ap (λ (t : List Cell). with_cell t i new) (sym seen)

-- ---- so many cells

-- the cells beneath a place
beneath_is : (cells : List Cell) (place : ℕ) → place ≤ length cells → cells_beneath place (reverse cells) ≡ reverse (take place cells)
beneath_is cells place less =
    let size = length-reverse cells in
    drop_reversed cells place (length (reverse cells) - place) (omega (arith, size))

pub top_is : (cells : List Cell) (n : ℕ) → n ≤ length cells → reverse (take n (reverse cells)) ≡ drop (length cells - n) cells
top_is cells n less = take_reversed cells (length cells - n) n (omega arith)

-- so many cells beneath a place
pub part_is : (cells : List Cell) (place n : ℕ) → place ≤ length cells → n ≤ place
    → reverse (take n (cells_beneath place (reverse cells))) ≡ take n (drop (place - n) cells)
part_is cells place n inside less =
    let first = place - n in
    let whole : first + n ≡ place = omega arith in
    let size : length (take place cells) ≡ place = length-take-le place cells inside in
    ap (λ (t : List Cell). reverse (take n t)) (beneath_is cells place inside)
    ∙ take_reversed (take place cells) first n (omega (arith, size))
    ∙ ap (λ k. drop first (take k cells)) (sym whole)
    ∙ drop-take first n cells
