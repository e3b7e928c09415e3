-- Cells by how many lie over them, and by their place.
use Rattle.std.proofs.Common.{arith, ◌≡◌, ◌<◌, ◌≤◌, ◌+◌, ◌-◌, ◌++◌, ℕ, zero, suc, List, [], ◌∷◌, length, take, drop, reverse, set, Option, Some, None, Bool, Result, Ok, Err, sym, ap, ◌∙◌}
use Rattle.std.proofs.Common.{if◌then◌else◌}
use Rattle.std.specs.Prelude.{ℤ, IfSome, OnOk, slice_get, slice_set}
use Rattle.std.proofs.lemmas.Bool.{ne_eqb, eq-eqb}
use Rattle.std.proofs.lemmas.List.{length-reverse, reverse-append, reverse-reverse}
use Rattle.nwq_value.specs.declared.value.Value.TheVariants.{Int}
use Rattle.saved_state.specs.declared.cell.Cell.{Cell}
use Rattle.saved_state.specs.declared.cell.Cell.TheVariants.{Value as Holds}
use Rattle.saved_state.specs.Cells.{StackView, cell_at, with_cell}
use Rattle.saved_state.proofs.Places.{cell_got, part_is, put_is}
use Rattle.saved_state.proofs.Views.{dropped_view, height, seen}

cell_down : (cells : List Cell) (depth : ℕ) → depth < length cells → slice_get cells depth ≡ cell_at cells (length cells - 1 - depth)
cell_down [] depth less = absurd (omega arith)
cell_down (c ∷ cells) zero less =
    let here : suc (length cells) - 1 - 0 ≡ length cells = omega arith in
    sym (ap (λ (t : Bool). if t then Some c else cell_at cells (suc (length cells) - 1 - 0)) (eq-eqb (suc (length cells) - 1 - 0) (length cells) here))
cell_down (c ∷ cells) (suc depth) less =
    let lower = ne_eqb (suc (length cells) - 1 - suc depth) (length cells) (λ same. omega arith) in
    let same : length cells - 1 - depth ≡ suc (length cells) - 1 - suc depth = omega arith in
    cell_down cells depth (omega arith)
    ∙ ap (cell_at cells) same
    ∙ sym (ap (λ (t : Bool). if t then Some c else cell_at cells (suc (length cells) - 1 - suc depth)) lower)

put_down : (cells : List Cell) (depth : ℕ) (new : Cell) → depth < length cells → with_cell cells (length cells - 1 - depth) new ≡ slice_set cells depth new
put_down [] depth new less = absurd (omega arith)
put_down (c ∷ cells) zero new less =
    let here : suc (length cells) - 1 - 0 ≡ length cells = omega arith in
    ap (λ (t : Bool). if t then new ∷ cells else c ∷ with_cell cells (suc (length cells) - 1 - 0) new) (eq-eqb (suc (length cells) - 1 - 0) (length cells) here)
put_down (c ∷ cells) (suc depth) new less =
    let lower = ne_eqb (suc (length cells) - 1 - suc depth) (length cells) (λ same. omega arith) in
    let same : suc (length cells) - 1 - suc depth ≡ length cells - 1 - depth = omega arith in
    ap (λ (t : Bool). if t then new ∷ cells else c ∷ with_cell cells (suc (length cells) - 1 - suc depth) new) lower
    ∙ ap (λ (k : ℕ). c ∷ with_cell cells k new) same
    ∙ ap (λ (t : List Cell). c ∷ t) (put_down cells depth new (omega arith))

-- the cells the other way round
pub got_down : (cells : List Cell) (depth : ℕ) → depth < length cells → slice_get (reverse cells) depth ≡ slice_get cells (length cells - 1 - depth)
got_down cells depth less =
    let size = length-reverse cells in
    cell_down (reverse cells) depth (omega (arith, size, less))
    ∙ ap (λ (k : ℕ). cell_at (reverse cells) (k - 1 - depth)) size
    ∙ cell_got cells (length cells - 1 - depth) (omega (arith, less))

pub set_is : (cells : List Cell) (depth : ℕ) (new : Cell) → depth < length cells → reverse (set cells (length cells - 1 - depth) new) ≡ slice_set (reverse cells) depth new
set_is cells depth new less =
    let size = length-reverse cells in
    put_is cells (length cells - 1 - depth) new (omega (arith, less))
    ∙ ap (λ (k : ℕ). with_cell (reverse cells) (k - 1 - depth) new) (sym size)
    ∙ put_down (reverse cells) depth new (omega (arith, size, less))

-- and as a stack
pub fits_down : (cells : List Cell) (bp n : ℕ) (stack : StackView) → seen cells bp ≡ stack → n ≤ length stack.cells → n ≤ length cells
fits_down cells bp n stack is less = let size = height cells bp stack is in omega (arith, size, less)

pub seen_down : (cells : List Cell) (depth bp : ℕ) (stack : StackView) (cell : Cell) → seen cells bp ≡ stack → depth < length stack.cells
    → slice_get cells (length cells - 1 - depth) ≡ Some cell → slice_get stack.cells depth ≡ Some cell
seen_down cells depth bp stack cell is less here =
    ap (λ (s : StackView). slice_get s.cells depth) (sym is)
    ∙ got_down cells depth (fits_down cells bp (suc depth) stack is less)
    ∙ here

pub seen_int : (cells : List Cell) (depth bp : ℕ) (stack : StackView) (o : Option ℤ) → seen cells bp ≡ stack
    → IfSome o (λ n. slice_get cells (length cells - 1 - depth) ≡ Some (Holds (Int n)))
    → IfSome o (λ n. depth < length cells)
    → IfSome o (λ n. slice_get stack.cells depth ≡ Some (Holds (Int n)))
seen_int cells depth bp stack None is here inside = tt
seen_int cells depth bp stack (Some n) is here inside =
    ap (λ (s : StackView). slice_get s.cells depth) (sym is) ∙ got_down cells depth inside ∙ here

pub seen_less : (cells left : List Cell) (bp n : ℕ) (stack : StackView) → seen cells bp ≡ stack → n ≤ length stack.cells
    → left ≡ take (length cells - n) cells → seen left bp ≡ record stack { cells = drop n stack.cells }
seen_less cells left bp n stack is less kept =
    let inside = fits_down cells bp n stack is less in
    dropped_view cells left bp (length cells - n) n stack is (omega (arith, inside)) kept

pub seen_set : {E : Type 0} (result : Result (Unit {0}) E) (cells now : List Cell) (bp depth : ℕ) (new : Cell) (stack : StackView)
    → seen cells bp ≡ stack → depth < length stack.cells → OnOk result (now ≡ set cells (length cells - 1 - depth) new)
    → OnOk result (seen now bp ≡ record stack { cells = slice_set stack.cells depth new })
seen_set (Ok x) cells now bp depth new stack is less ok =
    let put = set_is cells depth new (fits_down cells bp (suc depth) stack is less) in
    let after : seen (set cells (length cells - 1 - depth) new) bp ≡ record (seen cells bp) { cells = slice_set (reverse cells) depth new } =
    (λ k. record { cells = put k; bp = bp }) in
    ap (λ (t : List Cell). seen t bp) ok ∙ after ∙ ap (λ (s : StackView). record s { cells = slice_set s.cells depth new }) is
seen_set (Err e) cells now bp depth new stack is less ok = tt

-- copies of a run of cells
pub seen_more : {E : Type 0} (result : Result (Unit {0}) E) (cells now : List Cell) (bp above count : ℕ) (stack : StackView)
    → seen cells bp ≡ stack → above + count ≤ length stack.cells
    → OnOk result (now ≡ cells ++ take count (drop (length cells - (above + count)) cells))
    → OnOk result (seen now bp ≡ record stack { cells = take count (drop above stack.cells) ++ stack.cells })
seen_more (Ok x) cells now bp above count stack is inside ok =
    let fits = fits_down cells bp (above + count) stack is inside in
    let size = length-reverse cells in
    let from : length cells - (above + count) ≡ length cells - above - count = omega arith in
    let over : length (reverse cells) - (length cells - above) ≡ above = omega (arith, size, fits) in
    let part : reverse (take count (drop above (reverse cells))) ≡ take count (drop (length cells - (above + count)) cells) =
    ap (λ (n : ℕ). reverse (take count (drop n (reverse cells)))) (sym over)
    ∙ part_is cells (length cells - above) count (omega (arith, fits)) (omega (arith, fits))
    ∙ ap (λ (n : ℕ). take count (drop n cells)) (sym from) in
    let run : reverse (take count (drop (length cells - (above + count)) cells)) ≡ take count (drop above (reverse cells)) =
    ap reverse (sym part) ∙ reverse-reverse (take count (drop above (reverse cells))) in
    let more : reverse now ≡ take count (drop above (reverse cells)) ++ reverse cells =
    ap reverse ok ∙ reverse-append cells (take count (drop (length cells - (above + count)) cells))
    ∙ ap (λ (t : List Cell). t ++ reverse cells) run in
    let after : seen now bp ≡ record (seen cells bp) { cells = take count (drop above (reverse cells)) ++ reverse cells } =
    (λ k. record { cells = more k; bp = bp }) in
    after ∙ ap (λ (s : StackView). record s { cells = take count (drop above s.cells) ++ s.cells }) is
seen_more (Err e) cells now bp above count stack is inside ok = tt
