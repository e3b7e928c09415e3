-- A list of cells, wherever it has them. No public clause speaks of it.
use Rattle.std.specs.Prelude.{ℕ, List, ◌≡◌, ◌≤◌, ◌-◌, Bool, true, false, Some, length, slice_get}
use Rattle.nwq_value.specs.declared.value.Value.TheVariants.{Int, Object}
use Rattle.saved_state.specs.declared.cell.Cell.{Cell}
use Rattle.saved_state.specs.declared.cell.Cell.TheVariants.{Value as Holds}
use Rattle.saved_state.specs.declared.cells.Kept.{Kept}
use Rattle.saved_state.specs.declared.cells.Kept.TheVariants.{Own, Shared}

abbrev pub listed : Kept → List Cell
listed (Own cells) = cells.items
listed (Shared cells) = cells

-- how many cells are copied at most, where their pages could be shared
abbrev pub few_limit : ℕ
few_limit = 16

abbrev pub OwnsFew : Kept → Type 0
OwnsFew (Own cells) = length cells.items ≤ few_limit
OwnsFew (Shared cells) = Unit {0}

-- whether a cell owns no memory
abbrev pub owns_nothing : Cell → Bool
owns_nothing (Holds (Int n)) = true
owns_nothing (Holds (Object n)) = true
owns_nothing cell = false

-- the last cell owns no memory
pub record EndsPlainly (cells : List Cell) : Type 0 where
  pub cell : Cell
  pub is : slice_get cells (length cells - 1) ≡ Some cell
  pub plain : owns_nothing cell ≡ true
