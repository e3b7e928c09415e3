-- A statement about plays of scripts, which stands on the contract of a function of `laws`.
use Rattle.std.specs.Prelude.{ℕ, List}
use Rattle.nwq_value.specs.Engine.{EngineTable}
use Rattle.world_rules.specs.Pure.{CellLookup}
use Rattle.command_work.specs.Outcomes.{IsSure}
use Rattle.command_plays.specs.Scripts.{plays_file}

-- the bytes of a file decide what comes of their play
abbrev pub SurePlays : Type 0
SurePlays = (cell : CellLookup) (header : EngineTable) (name file bytes : List ℕ)
    → IsSure (plays_file cell header name file bytes)
