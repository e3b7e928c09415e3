-- Statements about plays of plans. Each stands on the contract of a function of `laws`.
use Rattle.std.specs.Prelude.{ℕ, List}
use Rattle.nwq_value.specs.Engine.{EngineTable}
use Rattle.area_rules.specs.Area.{PlainArea}
use Rattle.plan_text.specs.declared.plan.Plan.{Plan}
use Rattle.world_rules.specs.Pure.{CellLookup}
use Rattle.machine_rules.specs.Machine.{Script}
use Rattle.command_work.specs.Outcomes.{IsSure}
use Rattle.command_play.specs.Games.{plays_plan, plays}

-- a plan, an area and listed scripts decide what comes of the play
abbrev pub SureGames : Type 0
SureGames = (cell : CellLookup) (header : EngineTable) (area : PlainArea) (plan : Plan)
    (scripts : List Script) (to : List ℕ)
    → IsSure (plays_plan cell header area plan scripts to)

-- and what the files hold decides what comes of the command
abbrev pub SurePlays : Type 0
SurePlays = (cell : CellLookup) (header area plan to : List ℕ)
    → IsSure (plays cell header area plan to)
