-- The view of a stack whose cells are dropped, written or copied.
use Rattle.std.proofs.Common.{◌≡◌, ◌<◌, ◌≤◌, ◌+◌, ◌-◌, ℕ, List, length, take, drop, reverse, set, Result, Ok, Err, sym, ap, ◌∙◌, arith}
use Rattle.std.specs.Prelude.{OnOk}
use Rattle.std.proofs.lemmas.List.{length-reverse, drop-take, take_all}
use Rattle.saved_state.specs.declared.cell.Cell.{Cell}
use Rattle.saved_state.specs.declared.saved.Saved.{Saved}
use Rattle.saved_state.specs.Cells.{StackView, with_cell, cells_beneath, captured}
use Rattle.saved_state.proofs.Lists.{drop_reversed}
use Rattle.saved_state.proofs.Places.{part_is, put_is, top_is}

abbrev pub seen : List Cell → ℕ → StackView
seen cells bp = record { cells = reverse cells; bp = bp }

abbrev made : ℕ → ℕ → List Cell → List Cell → Saved
made script place globals locals = record { script = script; place = place; globals = globals; locals = locals }

pub height : (cells : List Cell) (bp : ℕ) (stack : StackView) → seen cells bp ≡ stack → length stack.cells ≡ length cells
height cells bp stack is = ap (λ (s : StackView). length s.cells) (sym is) ∙ length-reverse cells

pub dropped_view : (cells left : List Cell) (bp m n : ℕ) (stack : StackView)
    → seen cells bp ≡ stack → m + n ≡ length cells → left ≡ take m cells
    → seen left bp ≡ record stack { cells = drop n stack.cells }
dropped_view cells left bp m n stack is whole kept =
    let top : reverse left ≡ drop n (reverse cells) = ap reverse kept ∙ sym (drop_reversed cells m n whole) in
    let now : seen left bp ≡ record (seen cells bp) { cells = drop n (reverse cells) } = (λ k. record { cells = top k; bp = bp }) in
    now ∙ ap (λ (s : StackView). record s { cells = drop n s.cells }) is

pub written_view : (cells : List Cell) (bp place : ℕ) (new : Cell) (stack : StackView) → seen cells bp ≡ stack → place < length cells
    → seen (set cells place new) bp ≡ record stack { cells = with_cell stack.cells place new }
written_view cells bp place new stack is less =
    let put = put_is cells place new less in
    let now : seen (set cells place new) bp ≡ record (seen cells bp) { cells = with_cell (reverse cells) place new } =
    (λ k. record { cells = put k; bp = bp }) in
    now ∙ ap (λ (s : StackView). record s { cells = with_cell s.cells place new }) is

-- the same after a call that may find no memory
pub set_view : {E : Type 0} (result : Result (Unit {0}) E) (cells now : List Cell) (bp place : ℕ) (new : Cell) (stack : StackView)
    → seen cells bp ≡ stack → place < length cells → OnOk result (now ≡ set cells place new)
    → OnOk result (seen now bp ≡ record stack { cells = with_cell stack.cells place new })
set_view (Ok x) cells now bp place new stack is less ok =
    ap (λ (t : List Cell). seen t bp) ok ∙ written_view cells bp place new stack is less
set_view (Err e) cells now bp place new stack is less ok = tt

-- what is captured, from the two parts
pub captured_view : (cells : List Cell) (bp script place globals locals len : ℕ) (global_cells local_cells : List Cell) (stack : StackView)
    → seen cells bp ≡ stack
    → stack.bp ≤ length stack.cells → globals ≤ stack.bp → locals ≤ length stack.cells
    → len ≡ length cells
    → global_cells ≡ drop (bp - globals) (take bp cells)
    → local_cells ≡ drop (len - locals) (take len cells)
    → made script place global_cells local_cells ≡ captured script place globals locals stack
captured_view cells bp script place globals locals len global_cells local_cells stack is inside fits local_fits whole global_is local_is =
    let size = height cells bp stack is in
    let based : bp ≡ stack.bp = ap (λ (s : StackView). s.bp) is in
    let count : bp ≡ (bp - globals) + globals = omega (arith, based, fits) in
    let beneath : global_cells ≡ reverse (take globals (cells_beneath bp (reverse cells))) =
    global_is
    ∙ ap (λ k. drop (bp - globals) (take k cells)) count
    ∙ drop-take (bp - globals) globals cells
    ∙ sym (part_is cells bp globals (omega (arith, size, based, inside)) (omega (arith, based, fits))) in
    let top : local_cells ≡ reverse (take locals (reverse cells)) =
    local_is
    ∙ ap (drop (len - locals)) (take_all len cells (omega (arith, whole)))
    ∙ ap (λ k. drop (k - locals) cells) whole
    ∙ sym (top_is cells locals (omega (arith, size, local_fits))) in
    let now : made script place global_cells local_cells ≡ captured script place globals locals (seen cells bp) =
    (λ k. made script place (beneath k) (top k)) in
    now ∙ ap (captured script place globals locals) is
