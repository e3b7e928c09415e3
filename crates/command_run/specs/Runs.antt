-- The run of one script: it is compiled under a header, and played at once.
use Rattle.std.specs.Prelude.{ℕ, List}
use Rattle.nwq_value.specs.Engine.{EngineTable}
use Rattle.world_rules.specs.Pure.{CellLookup}
use Rattle.command_work.specs.declared.status.Status.{Status}
use Rattle.command_work.specs.declared.status.Status.TheVariants.{Limit}
use Rattle.command_work.specs.Work.{Work, then, Finished}
use Rattle.command_work.specs.Counts.{StopsSource}
use Rattle.command_sources.specs.Headers.{table_of_word}
use Rattle.command_compile.specs.Files.{code_name, compiled_named}
use Rattle.command_plays.specs.Scripts.{plays_file}

-- a script is compiled under a header, and its file, which isn't written, is played
unfoldable pub runs_under : CellLookup → List ℕ → EngineTable → Work Finished
runs_under cell script header = then (compiled_named header script)
    (plays_file cell header script (code_name script))

unfoldable pub runs : CellLookup → List ℕ → List ℕ → Work Finished
runs cell header script = then (table_of_word header) (runs_under cell script)

-- What stops a run: its header or script, or a limit that ended its play. The check passes every
-- compiled file.
abbrev pub StopsRun : Status → Type 0
StopsRun Limit = Unit {0}
StopsRun status = StopsSource status
