-- What stands where in a captured state and in the stack that resumes it.
use Rattle.std.specs.Prelude.{◌≡◌, ℕ, ◌+◌, ◌-◌, ◌<◌, ◌≤◌, List, ◌∷◌, ◌++◌, Some, length, slice_get}
use Rattle.saved_state.specs.declared.cell.Cell.{Cell}
use Rattle.saved_state.specs.declared.saved.Saved.{Saved}
use Rattle.saved_state.specs.Cells.{StackView, cell_at, with_cell, cells_beneath, captured, resumed}

-- The captured globals are the cells whose places end at BP, and the captured locals those whose
-- places end at the top.
abbrev pub CapturedValues : Type 0
CapturedValues =
    (stack : StackView) (script place globals locals i : ℕ)
    → stack.bp ≤ length stack.cells → globals ≤ stack.bp → locals ≤ length stack.cells →
    (i < globals → slice_get (captured script place globals locals stack).globals i
    ≡ cell_at stack.cells (stack.bp - globals + i))
    × (i < locals → slice_get (captured script place globals locals stack).locals i
    ≡ cell_at stack.cells (length stack.cells - locals + i))

-- Global i stands at place i of the resumed stack, and local i so far over the base cell.
abbrev pub ResumedValues : Type 0
ResumedValues =
    (saved : Saved) (i : ℕ) →
    (i < length saved.globals → cell_at (resumed saved).cells i ≡ slice_get saved.globals i)
    × (i < length saved.locals
    → cell_at (resumed saved).cells (length saved.globals + 1 + i) ≡ slice_get saved.locals i)

-- A resumed stack that is captured again gives the same state.
abbrev pub CapturesAgain : Type 0
CapturesAgain = (saved : Saved)
    → captured saved.script saved.place (length saved.globals) (length saved.locals)
    (resumed saved) ≡ saved

-- The place of a cell is the number of cells beneath it, whatever stands over it: there it is read
-- and written.
abbrev pub PlacesSplit : Type 0
PlacesSplit =
    (over : List Cell) (cell : Cell) (beneath : List Cell) →
    (cell_at (over ++ cell ∷ beneath) (length beneath) ≡ Some cell)
    × ((new : Cell) → with_cell (over ++ cell ∷ beneath) (length beneath) new
    ≡ over ++ new ∷ beneath)
    × (cells_beneath (length beneath) (over ++ beneath) ≡ beneath)
