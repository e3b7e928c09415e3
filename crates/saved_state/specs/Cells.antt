-- Stacks as plain data, and what a captured state holds.
use Rattle.std.specs.Prelude.{ℕ, ◌+◌, ◌-◌, List, [], ◌∷◌, ◌++◌, length, take, drop, reverse, Option, Some, None, ◌==◌, if◌then◌else◌}
use Rattle.saved_state.specs.declared.cell.Cell.{Cell}
use Rattle.saved_state.specs.declared.cell.Cell.TheVariants.{Base}
use Rattle.saved_state.specs.declared.saved.Saved.{Saved}

-- A stack: its cells, the top first, and BP, the place right beneath which the globals lie.
pub record StackView : Type 0 where
  pub cells : List Cell
  pub bp : ℕ

-- the cell at a place, which is the number of cells beneath it
abbrev pub cell_at : List Cell → ℕ → Option Cell
cell_at [] place = None
cell_at (cell ∷ others) place = if place == length others then Some cell else cell_at others place

-- the cells with another one at a place
abbrev pub with_cell : List Cell → ℕ → Cell → List Cell
with_cell [] place new = []
with_cell (cell ∷ others) place new = if place == length others then new ∷ others else cell ∷ with_cell others place new

-- the cells with so many of those from one number on in place of as many from another number on
abbrev pub run_written : ℕ → ℕ → ℕ → List Cell → List Cell
run_written onto from count cells = take onto cells ++ (take count (drop from cells) ++ drop (onto + count) cells)

-- the cells beneath a place
abbrev pub cells_beneath : ℕ → List Cell → List Cell
cells_beneath place cells = drop (length cells - place) cells

-- what is captured of a stack: so many cells right beneath BP and so many on top, each in the order
-- of their places
abbrev pub captured : ℕ → ℕ → ℕ → ℕ → StackView → Saved
captured script place globals locals stack =
    record {
      script = script;
      place = place;
      globals = reverse (take globals (cells_beneath stack.bp stack.cells));
      locals = reverse (take locals stack.cells);
    }

-- the stack of a resumed state: the locals over a base cell over the globals, and BP at the base
-- cell
abbrev pub resumed : Saved → StackView
resumed saved = record {
  cells = reverse saved.locals ++ Base 0 ∷ reverse saved.globals;
  bp = length saved.globals;
}
