-- A table as calls see it.
use Rattle.std.specs.Prelude.{ℕ, List}

-- The names of the columns, and the rows, each the list of its cells. A row may have fewer cells
-- than there are columns.
pub record PlainTable : Type 0 where
  pub columns : List (List ℕ)
  pub rows : List (List (List ℕ))
