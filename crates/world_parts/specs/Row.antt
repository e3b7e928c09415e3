-- The engine's own routines by number.
use Rattle.std.specs.Prelude.{ℕ}
use Rattle.world_rules.specs.World.{World}
use Rattle.world_rules.specs.Rows.{Call, Answered, rows}
use Rattle.world_rules.specs.Engine.{by_row, row_numbered}

-- what the row of a number does; a number without a row does nothing
unfoldable pub does : {X : Type 0} → ℕ → Call X → World X → Answered X
does number c w = by_row (row_numbered number rows) c w
