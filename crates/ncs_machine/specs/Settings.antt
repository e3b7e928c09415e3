-- What scripts run with, as one value, and what its parts keep.
use Rattle.std.specs.Prelude.{◌<◌, ◌^◌, List, length}
use Rattle.nwq_value.specs.Engine.{EngineTable}
use Rattle.saved_state.specs.declared.saved.Saved.{Saved}
use Rattle.hook_table.specs.declared.hook.Known.{Known}
use Rattle.machine_rules.specs.Machine.{Host, Script}
use Rattle.stack_rules.specs.Fits.{Tables}
use Rattle.stack_rules.specs.Laws.{AllMeet}
use Rattle.world_rules.specs.World.{World}
use Rattle.world_core.specs.Calls.{AreServing}
use Rattle.ncs_machine.specs.Host.{engine_view, host, scripts_of, tables_of}
use Rattle.ncs_machine.specs.Stored.{StatesFit}
use Rattle.ncs_machine.specs.declared.scripts.Loaded.{Loaded}

-- ---- scripts that were checked under a header's table

pub record CheckedListing : Type 0 where
  pub scripts : List Loaded
  pub table : EngineTable

abbrev pub checked_listing : List Loaded → EngineTable → CheckedListing
checked_listing scripts table = record { scripts = scripts; table = table }

-- they have numbers, and their shapes meet the rules under the header
pub record IsChecked (l : CheckedListing) : Type 0 where
  pub few : length l.scripts < 2 ^ 32
  pub meets : AllMeet l.table (scripts_of l.scripts) (tables_of l.scripts)

-- ---- with hooks

pub record CodeSetting : Type 0 where
  pub scripts : List Loaded
  pub table : EngineTable
  pub hooks : List Known

abbrev pub code_setting : CheckedListing → List Known → CodeSetting
code_setting l hooks = record { scripts = l.scripts; table = l.table; hooks = hooks }

-- the scripts are checked, and the hooks serve
pub record IsSet (s : CodeSetting) : Type 0 where
  pub checked : IsChecked (checked_listing s.scripts s.table)
  pub serving : AreServing s.hooks

abbrev pub scripts_in : CodeSetting → List Script
scripts_in s = scripts_of s.scripts

abbrev pub tables_in : CodeSetting → Tables
tables_in s = tables_of s.scripts

-- the scripts, and the engine under the header with these hooks
abbrev pub host_in : CodeSetting → Host (World Saved)
host_in s = host (scripts_in s) (engine_view s.table s.hooks)

-- every captured state in the world fits
abbrev pub FitIn : CodeSetting → World Saved → Type 0
FitIn s w = StatesFit (scripts_in s) (tables_in s) w
