-- The parts of a world, with the room that was taken for what is to come.
use Rattle.std.specs.Prelude.{ℕ}
use Rattle.world_rules.specs.World.{World}

pub record PartsView (X : Type 0) : Type 0 where
  pub world : World X
  -- how many entries can be posted without memory, and how many lines can be told
  pub posts : ℕ
  pub lines : ℕ
