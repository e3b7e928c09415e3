-- The play of files: the play of `world_rules`, with scripts that the machine runs.
use Rattle.std.specs.Prelude.{ℕ, List, [], Option, None, Some, slice_get}
use Rattle.nwq_value.specs.Engine.{EngineTable}
use Rattle.saved_state.specs.declared.saved.Saved.{Saved}
use Rattle.hook_table.specs.declared.hook.Known.{Known}
use Rattle.machine_rules.specs.Machine.{Host, Script, script_named}
use Rattle.machine_rules.specs.Runs as runs
use Rattle.world_rules.specs.World.{World}
use Rattle.world_rules.specs.Plays.{Ending, Over, Divided, Stopped, Run, Runner, Progress, Played, play, play_on}
use Rattle.world_rules.specs.EndText.{end_text}
use Rattle.ncs_machine.specs.declared.scripts.Loaded.{Loaded}
use Rattle.ncs_machine.specs.Host.{engine_view, host, scripts_of}
use Rattle.ncs_machine.specs.Settings.{CodeSetting, host_in}
use Rattle.module_player.specs.declared.limits.PlayLimits.{PlayLimits}

-- what listed scripts run in under a header
abbrev pub host_of : List Loaded → EngineTable → List Known → Host (World Saved)
host_of scripts table hooks = host (scripts_of scripts) (engine_view table hooks)

-- How an entry's scripts end by how the machine's run does, with the object as which the last
-- script ran. Scripts that were checked never come to a stack fault.
abbrev pub ending_of : runs.Ending → ℕ → Ending
ending_of runs.Over self = Over
ending_of runs.ZeroDivisor self = Divided self
ending_of runs.OutOfInstructions self = Stopped
ending_of runs.StackFault self = Stopped

-- what is counted are instructions
abbrev pub run_of : runs.Ran (World Saved) → Run Saved
run_of r = record {
  ending = ending_of r.ending r.last.running.self;
  count = r.count;
  world = r.last.world;
}

-- how scripts run that may take so many instructions in an entry
unfoldable pub code_runner : Host (World Saved) → ℕ → Runner Saved
code_runner host limit = record {
  named = script_named host.scripts;
  script = λ script self w. run_of (runs.run_script host limit script self w);
  stored = λ saved self w. run_of (runs.run_stored host limit saved self w);
}

abbrev pub runner_in : CodeSetting → ℕ → Runner Saved
runner_in s limit = code_runner (host_in s) limit

-- the play of files from a world on: at most so many instructions in an entry, so many entries, and
-- those that are due by this time
abbrev pub code_play : Host (World Saved) → ℕ → ℕ → ℕ → World Saved → Played Saved
code_play host limit entries until w = play (code_runner host limit) entries until w

-- a world in which so many entries were taken and so many instructions counted, before any line is
-- told
abbrev pub played_before : ℕ → ℕ → World Saved → Progress Saved
played_before entries count w = record { entries = entries; count = count; trace = []; world = w }

-- the play that goes on from there, and is broken off once `stop` entries were taken in all
abbrev pub code_play_on : Host (World Saved) → ℕ → ℕ → ℕ → ℕ → ℕ → ℕ → World Saved → Played Saved
code_play_on host limit entries until stop taken done w =
    play_on (code_runner host limit) (record { entries = entries; until = until; stop = stop })
    (played_before taken done w)

-- ---- the same in a setting, within limits

abbrev pub played_in : CodeSetting → PlayLimits → World Saved → Played Saved
played_in s limits w =
    code_play (host_in s) limits.instructions limits.entries limits.until w

abbrev pub played_on_in : CodeSetting → PlayLimits → ℕ → ℕ → ℕ → World Saved → Played Saved
played_on_in s limits stop taken done w =
    code_play_on (host_in s) limits.instructions limits.entries limits.until stop taken done w

-- ---- the text at its end

abbrev pub name_in : Option Script → List ℕ
name_in None = []
name_in (Some script) = script.name

-- the name of the script that stored a state
abbrev pub script_name : List Script → Saved → List ℕ
script_name scripts saved = name_in (slice_get scripts saved.script)

abbrev pub code_end_text : List Script → Played Saved → List ℕ
code_end_text scripts p = end_text (script_name scripts) p
