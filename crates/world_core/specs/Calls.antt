-- What the calls on a world speak of beside the definitions of world_rules.
use Rattle.std.specs.Prelude.{◌≡◌, ◌<◌, ◌^◌, ℕ, List, [], Option, None, Some, slice_get}
use Rattle.hook_table.specs.declared.hook.Known.{Known}
use Rattle.hook_table.specs.Served.{AreStandard}
use Rattle.hook_table.specs.Standard.{cell_function, types_of_values}
use Rattle.nwq_value.specs.Engine.{EngineTable}
use Rattle.nwq_value.specs.declared.engine.Role.TheVariants.{Pure}
use Rattle.nwq_value.specs.declared.engine.Routine.{Routine}
use Rattle.nwq_value.specs.declared.value.Value.{Value}
use Rattle.stack_shape.specs.Calls.{argument_types}
use Rattle.table_2da.specs.Look.{cell_of}
use Rattle.table_2da.specs.declared.tables.Named.{Named}
use Rattle.world_rules.specs.Pure.{CellLookup}
use Rattle.world_rules.specs.World.{World}
use Rattle.world_rules.specs.Turns.{Planned}
use Rattle.world_core.specs.declared.start.Start.{Start}

-- ---- events and starts of a plan

abbrev pub planned : Start → Planned
planned s = record { due = s.due; object = s.object; script = s.script }

-- ---- hooks

abbrev pub tables_of_hook : Option Known → List Named
tables_of_hook None = []
tables_of_hook (Some h) = h.tables

-- the tables in which hooks look cells up
abbrev pub tables_of : List Known → List Named
tables_of hooks = tables_of_hook (slice_get hooks cell_function)

abbrev pub cells_of : List Known → CellLookup
cells_of hooks = cell_of (tables_of hooks)

-- the hooks begin with the standard ones, whatever tables they have
abbrev pub AreServing : List Known → Type 0
AreServing hooks = AreStandard hooks (tables_of hooks)

-- ---- what is asked of a call: something only where a hook answers, so of functions of strings and
-- numbers

-- the hooks serve the routine
abbrev pub ServeRoutine : EngineTable → ℕ → List Known → Type 0
ServeRoutine table n hooks = (r : Routine) (k : ℕ) → slice_get table.routines n ≡ Some r
    → r.role ≡ Pure k → AreServing hooks

-- the arguments of a call that are values have the types of the routine's parameters, first to last
abbrev pub FitArguments : EngineTable → ℕ → List Value → Type 0
FitArguments table n values =
    (r : Routine) (k : ℕ) → slice_get table.routines n ≡ Some r → r.role ≡ Pure k
    → types_of_values values ≡ argument_types r.params

-- ---- times and numbers

-- the clock and the number of the next post are so small that more can be posted
pub record IsEarly {X : Type 0} (w : World X) : Type 0 where
  pub clock : w.clock < 2 ^ 62
  pub next : w.agenda.next < 2 ^ 63
