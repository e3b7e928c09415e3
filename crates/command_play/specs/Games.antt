-- The play of a plan: the files that it needs are read, scripts are listed, and what the play comes
-- to is told and written.
use Rattle.std.specs.Prelude.{ℕ, List}
use Rattle.nwq_value.specs.Engine.{EngineTable}
use Rattle.area_rules.specs.Area.{PlainArea}
use Rattle.area_back.specs.Back.{tree_back}
use Rattle.plan_text.specs.declared.plan.Plan.{Plan}
use Rattle.saved_state.specs.declared.saved.Saved.{Saved}
use Rattle.world_rules.specs.Pure.{CellLookup}
use Rattle.world_rules.specs.Trace.{trace_text}
use Rattle.machine_rules.specs.Machine.{Script}
use Rattle.world_rules.specs.Plays.{PlayEnd, Done, OutOfEntries, StoppedInside, Paused, Played}
use Rattle.world_core.specs.Calls.{cells_of}
use Rattle.ncs_machine.specs.Settings.{CodeSetting, scripts_in}
use Rattle.module_player.specs.CodePlays.{code_end_text}
use Rattle.command_work.specs.declared.status.Status.TheVariants.{Limit}
use Rattle.command_work.specs.Work.{Work, Ends, Puts, then, Finished, puts}
use Rattle.command_sources.specs.Headers.{table_of_word}
use Rattle.play_inputs.specs.Areas.{area_named}
use Rattle.play_inputs.specs.Finals.{final_written}
use Rattle.play_inputs.specs.Plans.{plan_named}
use Rattle.play_inputs.specs.Listings.{scripts_listed}
use Rattle.play_worlds.specs.Worlds.{plan_world}
use Rattle.command_plays.specs.Plays.{plan_played}

-- ---- what is told and written

-- a play that is done leaves its area in the file of this name, and then its end is told; where a
-- limit ended it, it is told alone
abbrev pub ends_by : PlayEnd → List ℕ → PlainArea → List ℕ → Work Finished
ends_by Done to area text = then (final_written to (tree_back area)) (λ done. puts text)
ends_by OutOfEntries to area text = Puts text (Ends Limit)
ends_by StoppedInside to area text = Puts text (Ends Limit)
ends_by Paused to area text = puts text

-- the end, by the area of the last world and the text of the end
abbrev pub tells_end : List ℕ → List Script → Played Saved → Work Finished
tells_end to scripts p = ends_by p.ending to p.last.world.area (code_end_text scripts p)

-- the trace stands before the end
abbrev pub tells : List ℕ → List Script → Played Saved → Work Finished
tells to scripts p = Puts (trace_text p.last.trace) (tells_end to scripts p)

-- a plan is played over an area, and the area that it leaves goes into the file of this name
unfoldable pub plays_plan : CellLookup → EngineTable → PlainArea → Plan → List Script → List ℕ
    → Work Finished
plays_plan cell header area plan scripts to = tells to scripts
    (plan_played cell header plan scripts (plan_world area plan))

-- so in a setting
abbrev pub plays_plan_in : CodeSetting → PlainArea → Plan → List ℕ → Work Finished
plays_plan_in s area plan to = plays_plan (cells_of s.hooks) s.table area plan (scripts_in s) to

-- ---- the command

-- the area is read once the scripts are there
unfoldable pub plays_area : CellLookup → EngineTable → List ℕ → Plan → List ℕ → List Script
    → Work Finished
plays_area cell header area plan to scripts = then (area_named area)
    (λ a. plays_plan cell header a plan scripts to)

unfoldable pub plays_scripts : CellLookup → List ℕ → Plan → List ℕ → EngineTable → Work Finished
plays_scripts cell area plan to header = then (scripts_listed header plan.scripts)
    (plays_area cell header area plan to)

unfoldable pub plays_under : CellLookup → List ℕ → List ℕ → List ℕ → Plan → Work Finished
plays_under cell header area to plan = then (table_of_word header) (plays_scripts cell area plan to)

-- the words name a header, an area, a plan and the file in which the area is left
unfoldable pub plays : CellLookup → List ℕ → List ℕ → List ℕ → List ℕ → Work Finished
plays cell header area plan to = then (plan_named plan) (plays_under cell header area to)
