-- Plays as commands make them: the play of a plan's lines, and how a command ends by the end of its
-- play.
use Rattle.std.specs.Prelude.{◌≤◌, ◌+◌, ◌^◌, ℕ, List, min}
use Rattle.nwq_value.specs.Engine.{EngineTable}
use Rattle.plan_text.specs.declared.plan.Plan.{Plan}
use Rattle.plan_text.specs.Plans.{Limits, limits_of}
use Rattle.saved_state.specs.declared.saved.Saved.{Saved}
use Rattle.world_rules.specs.Pure.{CellLookup}
use Rattle.world_rules.specs.World.{World}
use Rattle.machine_rules.specs.Machine.{Script, Host}
use Rattle.world_rules.specs.Plays as plays
use Rattle.world_rules.specs.Plays.{PlayEnd, Played}
use Rattle.world_core.specs.Calls.{cells_of}
use Rattle.ncs_machine.specs.Host.{host}
use Rattle.ncs_machine.specs.Settings.{CodeSetting, FitIn, scripts_in}
use Rattle.module_player.specs.CodePlays.{code_play, code_play_on}
pub use Rattle.module_player.specs.CodePlays.{played_in, played_on_in}
use Rattle.module_player.specs.declared.played.Played.{Played as Answer}
use Rattle.command_work.specs.declared.status.Status.TheVariants.{Limit}
use Rattle.command_work.specs.Work.{Work, Gives, Ends, Finished}

-- what listed scripts run in: the engine under a header, whose cells are looked up so
abbrev pub host_of : CellLookup → EngineTable → List Script → Host (World Saved)
host_of cell header scripts = host scripts (record { table = header; cell = cell })

-- the play of listed scripts from a world on, with the limits of a plan
abbrev pub plan_played : CellLookup → EngineTable → Plan → List Script → World Saved → Played Saved
plan_played cell header plan scripts w = code_play
    (host_of cell header scripts) plan.limit plan.entries plan.until w

-- the play that goes on after so many entries and instructions, and is broken off once so many
-- entries were taken in all
abbrev pub played_on : CellLookup → EngineTable → Limits → List Script → ℕ → ℕ → ℕ → World Saved
    → Played Saved
played_on cell header limits scripts stop taken done w = code_play_on
    (host_of cell header scripts) limits.0 limits.1 limits.2 stop taken done w

-- the play of a plan, which is broken off once so many entries were taken, or as many as it may
-- take
abbrev pub played_first : CellLookup → EngineTable → Plan → List Script → ℕ → World Saved
    → Played Saved
played_first cell header plan scripts n w = played_on cell header (limits_of plan) scripts
    (min n plan.entries) 0 0 w

-- ---- the same in a setting, where the cells are those that its hooks look up

abbrev pub plan_played_in : CodeSetting → Plan → World Saved → Played Saved
plan_played_in s plan w = plan_played (cells_of s.hooks) s.table plan (scripts_in s) w

abbrev pub played_first_in : CodeSetting → Plan → ℕ → World Saved → Played Saved
played_first_in s plan n w = played_first (cells_of s.hooks) s.table plan (scripts_in s) n w

-- ---- what a part of a play keeps

-- What a part of a play keeps, so that its world can be saved: captured states fit still, and at
-- most so many entries were posted, and instructions executed, beyond these.
pub record KeepsPart (s : CodeSetting) (next done : ℕ) (answer : Answer) (w : World Saved)
    : Type 0 where
  pub fit : FitIn s w
  pub posted : w.agenda.next ≤ next + 2 ^ 45
  pub executed : answer.instructions ≤ done + 2 ^ 45

-- ---- how a command ends

-- a play that a limit ended is told whole, and its command ends with the status of limits
abbrev pub ends_by : PlayEnd → Work Finished
ends_by plays.Done = Gives tt
ends_by plays.OutOfEntries = Ends Limit
ends_by plays.StoppedInside = Ends Limit
ends_by plays.Paused = Gives tt
