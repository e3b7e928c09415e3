-- One thing comes of a run.
use Rattle.std.proofs.Common.{ℕ, List}
use Rattle.nwq_value.specs.Engine.{EngineTable}
use Rattle.world_rules.specs.Pure.{CellLookup}
use Rattle.command_work.specs.Outcomes.{IsSure, sure_then}
use Rattle.command_plays.specs.Scripts.{plays_file}
use Rattle.command_plays.specs.Laws.{SurePlays}
use Rattle.command_compile.specs.Files.{code_name, compiled_named}
use Rattle.command_compile.specs.Laws.{SureCompiled}
use Rattle.command_sources.specs.Headers.{table_of_word}
use Rattle.command_sources.specs.Laws.{SureTables}
use Rattle.command_run.specs.Runs.{runs_under, runs}

module _ (tables : SureTables) (scripts : SureCompiled) (plays : SurePlays) where
  sure_under : (cell : CellLookup) (script : List ℕ) (header : EngineTable) → IsSure (runs_under cell script header)
  unfolding runs_under
  sure_under cell script header =
      sure_then (compiled_named header script) (plays_file cell header script (code_name script)) (scripts header script)
      (λ bytes. plays cell header script (code_name script) bytes)

  pub sure_runs : (cell : CellLookup) (header script : List ℕ) → IsSure (runs cell header script)
  unfolding runs
  sure_runs cell header script = sure_then (table_of_word header) (runs_under cell script) (tables header) (sure_under cell script)
