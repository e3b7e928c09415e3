-- Statements about plays made from numbers. Each stands on the contract of a function of `laws`.
use Rattle.std.specs.Prelude.{◌≡◌, ℕ, []}
use Rattle.world_rules.specs.Pure.{CellLookup}
use Rattle.area_rules.specs.Broken.{broken_places}
use Rattle.play_generator.specs.Made.{area_tree}
use Rattle.command_work.specs.Outcomes.{IsSure}
use Rattle.command_generate.specs.Generated.{generates}

-- one thing comes of a number
abbrev pub SureGenerated : Type 0
SureGenerated = (cell : CellLookup) (n : ℕ) → IsSure (generates cell n)

-- the area breaks no rule of areas, whatever its size
abbrev pub AreasAreWhole : Type 0
AreasAreWhole = (creatures : ℕ) → broken_places (area_tree creatures).top ≡ []
