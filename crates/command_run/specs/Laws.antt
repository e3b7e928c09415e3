-- A statement about runs. It stands on the contract of a function of `laws`.
use Rattle.std.specs.Prelude.{ℕ, List}
use Rattle.world_rules.specs.Pure.{CellLookup}
use Rattle.command_work.specs.Outcomes.{IsSure}
use Rattle.command_run.specs.Runs.{runs}

-- what the files hold decides what comes of a run
abbrev pub SureRuns : Type 0
SureRuns = (cell : CellLookup) (header script : List ℕ) → IsSure (runs cell header script)
