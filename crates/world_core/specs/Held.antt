-- A world as code has it.
use Rattle.std.specs.Prelude.{ℕ}
use Rattle.world_rules.specs.World.{World}

-- the world, and the spare room: how many entries can be posted without memory
pub record Held (X : Type 0) : Type 0 where
  pub world : World X
  pub room : ℕ
