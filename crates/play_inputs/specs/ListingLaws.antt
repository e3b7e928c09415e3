-- Statements about the scripts that plans list. Each stands on the contract of a function of
-- `laws`.
use Rattle.std.specs.Prelude.{List}
use Rattle.nwq_value.specs.Engine.{EngineTable}
use Rattle.plan_text.specs.declared.plan.Script.{Script as ScriptLine}
use Rattle.command_work.specs.Outcomes.{IsSure}
use Rattle.play_inputs.specs.Listings.{scripts_listed}

-- what the files hold decides what comes of the scripts that a plan lists
abbrev pub SureListed : Type 0
SureListed = (header : EngineTable) (lines : List ScriptLine) → IsSure (scripts_listed header lines)
