-- An effect as contracts see it.
use Rattle.std.specs.Prelude.{ℕ, ℤ, List}

-- the number of the routine that made it, and that routine's integer arguments in order
pub record Effect : Type 0 where
  pub routine : ℕ
  pub ints : List ℤ
