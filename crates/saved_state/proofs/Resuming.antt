-- What stands where in a captured state and in the stack that resumes it.
use Rattle.std.proofs.Common.{◌≡◌, ◌<◌, ◌≤◌, ◌+◌, ◌-◌, ◌++◌, ◌∷◌, [], ℕ, suc, List, length, take, drop, reverse, slice_get, sym, ap, subst, ◌∙◌, arith, append_assoc}
use Rattle.std.proofs.lemmas.List.{reverse-reverse, length-reverse, length-append, take_at, drop_at, take_all}
use Rattle.saved_state.specs.declared.cell.Cell.{Cell}
use Rattle.saved_state.specs.declared.cell.Cell.TheVariants.{Base}
use Rattle.saved_state.specs.declared.saved.Saved.{Saved}
use Rattle.saved_state.specs.Cells.{cell_at, cells_beneath, resumed}
use Rattle.saved_state.specs.Laws.{CapturedValues, CapturesAgain, ResumedValues}
use Rattle.saved_state.proofs.Lists.{reverse_joined, get_dropped, get_taken, get_front, get_behind}
use Rattle.saved_state.proofs.Places.{cell_got, top_is, part_is}

-- ---- captured

global_got : (cells : List Cell) (bp globals i : ℕ) → bp ≤ length cells → globals ≤ bp → i < globals
    → slice_get (reverse (take globals (cells_beneath bp (reverse cells)))) i ≡ cell_at (reverse cells) (bp - globals + i)
global_got cells bp globals i inside fits less =
    ap (λ (t : List Cell). slice_get t i) (part_is cells bp globals inside fits)
    ∙ get_taken globals (drop (bp - globals) cells) i less
    ∙ get_dropped (bp - globals) cells i
    ∙ sym (cell_got cells (bp - globals + i) (omega arith))

local_got : (cells : List Cell) (locals i : ℕ) → locals ≤ length cells → i < locals
    → slice_get (reverse (take locals (reverse cells))) i ≡ cell_at (reverse cells) (length cells - locals + i)
local_got cells locals i fits less =
    ap (λ (t : List Cell). slice_get t i) (top_is cells locals fits)
    ∙ get_dropped (length cells - locals) cells i
    ∙ sym (cell_got cells (length cells - locals + i) (omega arith))

GlobalsGot : List Cell → ℕ → ℕ → ℕ → Type 0
GlobalsGot cells bp globals i = slice_get (reverse (take globals (cells_beneath bp cells))) i ≡ cell_at cells (bp - globals + i)

LocalsGot : List Cell → ℕ → ℕ → ℕ → Type 0
LocalsGot cells size locals i = slice_get (reverse (take locals cells)) i ≡ cell_at cells (size - locals + i)

pub are_captured : CapturedValues
unfolding GlobalsGot LocalsGot
are_captured stack script place globals locals i inside globals_fit locals_fit =
    let cells = reverse stack.cells in
    let again : reverse cells ≡ stack.cells = reverse-reverse stack.cells in
    let size : length cells ≡ length stack.cells = length-reverse stack.cells in (
      (λ less.
          subst (λ t. GlobalsGot t stack.bp globals i) again (global_got cells stack.bp globals i (omega (arith, size)) globals_fit less)),
      (λ less.
          subst (λ k. LocalsGot stack.cells k locals i) size (
          subst (λ t. LocalsGot t (length cells) locals i) again (local_got cells locals i (omega (arith, size)) less))),
    )

-- ---- resumed

-- the resumed stack, from the bottom up
upwards : (saved : Saved) → (resumed saved).cells ≡ reverse (saved.globals ++ Base 0 ∷ saved.locals)
upwards saved = sym (reverse_joined saved.globals (Base 0) saved.locals)

resumed_got : (saved : Saved) (i : ℕ) → i < length (saved.globals ++ Base 0 ∷ saved.locals)
    → cell_at (resumed saved).cells i ≡ slice_get (saved.globals ++ Base 0 ∷ saved.locals) i
resumed_got saved i less =
    ap (λ (t : List Cell). cell_at t i) (upwards saved) ∙ cell_got (saved.globals ++ Base 0 ∷ saved.locals) i less

pub are_resumed : ResumedValues
are_resumed saved i =
    let all = saved.globals ++ Base 0 ∷ saved.locals in
    let size : length all ≡ length saved.globals + suc (length saved.locals) = length-append saved.globals (Base 0 ∷ saved.locals) in
    let over : length saved.globals + 1 + i ≡ length saved.globals + suc i = omega arith in (
      (λ less. resumed_got saved i (omega (arith, size)) ∙ get_front saved.globals (Base 0 ∷ saved.locals) i less),
      (λ less.
          resumed_got saved (length saved.globals + 1 + i) (omega (arith, size))
          ∙ ap (slice_get all) over
          ∙ get_behind saved.globals (Base 0 ∷ saved.locals) (suc i)),
    )

-- ---- captured again

globals_again : (globals locals : List Cell)
    → reverse (take (length globals) (cells_beneath (length globals) (reverse locals ++ Base 0 ∷ reverse globals))) ≡ globals
globals_again globals locals =
    let over = reverse locals ++ Base 0 ∷ [] in
    let cells = reverse locals ++ Base 0 ∷ reverse globals in
    let joined : cells ≡ over ++ reverse globals = sym (append_assoc (reverse locals) (Base 0 ∷ []) (reverse globals)) in
    let size : length (over ++ reverse globals) ≡ length over + length (reverse globals) = length-append over (reverse globals) in
    let held : length (reverse globals) ≡ length globals = length-reverse globals in
    let count : length over ≡ length cells - length globals = omega (arith, ap length joined, size, held) in
    let beneath : cells_beneath (length globals) cells ≡ reverse globals =
    ap (drop (length cells - length globals)) joined ∙ drop_at over (reverse globals) (length cells - length globals) count in
    ap (λ (t : List Cell). reverse (take (length globals) t)) beneath
    ∙ ap reverse (take_all (length globals) (reverse globals) (omega (arith, held)))
    ∙ reverse-reverse globals

locals_again : (globals locals : List Cell) → reverse (take (length locals) (reverse locals ++ Base 0 ∷ reverse globals)) ≡ locals
locals_again globals locals =
    ap reverse (take_at (reverse locals) (Base 0 ∷ reverse globals) (length locals) (length-reverse locals)) ∙ reverse-reverse locals

pub are_again : CapturesAgain
are_again saved =
    let globals = globals_again saved.globals saved.locals in
    let locals = locals_again saved.globals saved.locals in
    λ k. record { script = saved.script; place = saved.place; globals = globals k; locals = locals k }
