-- What is asked of an entry that begins, and of a run.
use Rattle.std.specs.Prelude.{◌≡◌, ◌≤◌, ◌<◌, ◌^◌, ℕ, List, [], length}
use Rattle.nwq_value.specs.Limits.{instruction_limit}
use Rattle.saved_state.specs.declared.saved.Saved.{Saved}
use Rattle.machine_rules.specs.Machine.{Script}
use Rattle.stack_rules.specs.Fits.{Tables}
use Rattle.stack_rules.specs.Safe.{IsSafeFrame}
use Rattle.world_rules.specs.World.{World, count}
use Rattle.ncs_machine.specs.Endings.{FitsBegin}
use Rattle.ncs_machine.specs.Settings.{CodeSetting, scripts_in, tables_in}
use Rattle.ncs_machine.specs.Steps.{Frames}
use Rattle.ncs_machine.specs.declared.scripts.Begin.{Begin}

-- its first script is listed, and a captured state with which it begins fits
pub record MayBegin (s : CodeSetting) (script : ℕ) (begin : Begin) : Type 0 where
  pub listed : script < length s.scripts
  pub stored : FitsBegin (scripts_in s) (tables_in s) begin

-- No more instructions are run than plans may allow, the clock and the number of the next post are
-- so small that scripts can post, and they run on an object that is there, or on none.
pub record MayRun (most self : ℕ) (w : World Saved) : Type 0 where
  pub limit : most ≤ instruction_limit
  pub clock : w.clock < 2 ^ 62
  pub next : w.agenda.next < 2 ^ 62
  pub caller : self ≤ count w

-- one script runs, safely, and none waits
pub record RunsAlone (scripts : List Script) (tables : Tables) (m : Frames) : Type 0 where
  pub safe : IsSafeFrame scripts tables m.running
  pub alone : m.waiting ≡ []
