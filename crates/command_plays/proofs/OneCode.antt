-- One thing comes of the play of a compiled file's bytes.
use Rattle.std.proofs.Common.{ℕ, List}
use Rattle.nwq_value.specs.Engine.{EngineTable}
use Rattle.ncs_code.specs.Plain.{PlainOp}
use Rattle.saved_state.specs.declared.saved.Saved.{Saved}
use Rattle.world_rules.specs.Pure.{CellLookup}
use Rattle.machine_rules.specs.Machine.{Script}
use Rattle.world_rules.specs.Plays.{PlayEnd, Done, OutOfEntries, StoppedInside, Paused, Played}
use Rattle.command_work.specs.Outcomes.{IsSure, sure_then}
use Rattle.command_files.specs.Checks.{loaded_in}
use Rattle.command_files.specs.CheckLaws.{SureLoaded}
use Rattle.play_worlds.specs.Worlds.{first_world}
use Rattle.command_plays.specs.Plays.{ends_by}
use Rattle.command_plays.specs.Scripts.{listed, run_played, tells, plays_code, plays_file}
use Rattle.command_plays.specs.Laws.{SurePlays}

sure_end : (ending : PlayEnd) → IsSure (ends_by ending)
sure_end Done = tt
sure_end OutOfEntries = tt
sure_end StoppedInside = tt
sure_end Paused = tt

sure_tells : (scripts : List Script) (p : Played Saved) → IsSure (tells scripts p)
sure_tells scripts p = sure_end p.ending

sure_code : (cell : CellLookup) (header : EngineTable) (name : List ℕ) (ops : List PlainOp) → IsSure (plays_code cell header name ops)
unfolding plays_code
sure_code cell header name ops = sure_tells (listed name ops) (run_played cell header (listed name ops) (first_world name))

pub sure_plays : SureLoaded → SurePlays
unfolding plays_file
sure_plays loaded cell header name file bytes =
    sure_then (loaded_in header file bytes) (plays_code cell header name) (loaded header file bytes) (sure_code cell header name)
