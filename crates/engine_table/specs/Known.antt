-- What the lines before a line make known.
use Rattle.std.specs.Prelude.{ℕ, List}
use Rattle.nwq_value.specs.Engine.{EngineTable}

-- the names that defines made type words, and the table of the functions and constants
pub record Known : Type 0 where
  pub words : List (List ℕ)
  pub table : EngineTable
