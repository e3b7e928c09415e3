-- What the machine runs in here: listed scripts that were checked, a header's routines, and the
-- engine over a world.
use Rattle.std.specs.Prelude.{ℕ, List, map, Option, None, Some, slice_get}
use Rattle.nwq_value.specs.declared.value.Value.{Value}
use Rattle.nwq_value.specs.Engine.{EngineTable}
use Rattle.saved_state.specs.declared.saved.Saved.{Saved}
use Rattle.machine_rules.specs.Frames.{Frame, started, continued}
use Rattle.machine_rules.specs.Machine.{Script, Answered, Host}
use Rattle.machine_rules.specs.Runs.{Ran, run_script, run_stored}
use Rattle.stack_rules.specs.Tables.{ShapeTable}
use Rattle.stack_rules.specs.Fits.{Tables}
use Rattle.stack_check.specs.Checked.{kept_table}
use Rattle.world_rules.specs.Pure.{CellLookup}
use Rattle.world_rules.specs.World.{World}
use Rattle.world_rules.specs.Rows.{Answered as EngineAnswer}
use Rattle.world_rules.specs.Engine.{engine, may_run, no_script, too_deep}
use Rattle.world_rules.specs.AlikeLaws.{call}
use Rattle.hook_table.specs.declared.hook.Known.{Known}
use Rattle.world_core.specs.Calls.{cells_of}
use Rattle.ncs_machine.specs.declared.scripts.Loaded.{Loaded}
use Rattle.ncs_machine.specs.declared.scripts.Begin.{Begin}
use Rattle.ncs_machine.specs.declared.scripts.Begin.TheVariants.{Start, Stored}

-- a listed script, as the machine knows it
abbrev pub script_of : Loaded → Script
script_of l = record { name = l.name; code = l.code.code }

abbrev pub scripts_of : List Loaded → List Script
scripts_of scripts = map script_of scripts

-- ---- the tables of shapes that the scripts keep

abbrev pub no_table : ShapeTable
no_table = record { at = λ entry place. None; called = λ target. None }

abbrev pub table_in : Option Loaded → ShapeTable
table_in None = no_table
table_in (Some l) = kept_table l.code

-- the table of a script's number
abbrev pub tables_of : List Loaded → Tables
tables_of scripts number = table_in (slice_get scripts number)

-- ---- the host

abbrev pub answer_of : EngineAnswer Saved → Answered (World Saved)
answer_of a = record { value = a.value; world = a.world }

-- what the engine's calls depend on: a header's routines, and the tables of cells
pub record EngineView : Type 0 where
  pub table : EngineTable
  pub cell : CellLookup

-- the engine under a header, whose cells are looked up in the hooks' tables
abbrev pub engine_view : EngineTable → List Known → EngineView
engine_view table hooks = record { table = table; cell = cells_of hooks }

-- what a call of a routine gives
abbrev pub engine_answer : EngineView → ℕ → ℕ → List Value → Option Saved → World Saved
    → EngineAnswer Saved
engine_answer e n caller values action w = engine e.table e.cell n (call caller values action) w

-- scripts and the engine, over worlds whose stored actions are captured states
unfoldable pub host : List Script → EngineView → Host (World Saved)
host scripts e = record {
  scripts = scripts;
  table = e.table;
  engine = λ n caller values action w. answer_of (engine_answer e n caller values action w);
  may_run = may_run;
  no_script = no_script;
  too_deep = too_deep;
}

-- ---- an entry

-- how an entry begins: with a script, or with a captured state
abbrev pub first_frame : ℕ → Begin → ℕ → Frame
first_frame script Start self = started script self
first_frame script (Stored saved) self = continued saved self

-- the run of an entry
abbrev pub run_from : Host (World Saved) → ℕ → ℕ → Begin → ℕ → World Saved → Ran (World Saved)
run_from host limit script Start self w = run_script host limit script self w
run_from host limit script (Stored saved) self w = run_stored host limit saved self w
