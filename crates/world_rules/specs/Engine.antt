-- What a call of a header's routine gives.
use Rattle.std.specs.Prelude.{ℕ, ◌==◌, Bool, ◌||◌, List, Option, None, Some, slice_get}
use Rattle.std.specs.List.{find}
use Rattle.nwq_value.specs.Engine.{EngineTable}
use Rattle.nwq_value.specs.Values.{start_value}
use Rattle.nwq_value.specs.declared.engine.Role.{Role}
use Rattle.nwq_value.specs.declared.engine.Role.TheVariants as role
use Rattle.nwq_value.specs.declared.engine.Routine.{Routine}
use Rattle.nwq_value.specs.declared.value.Ty.{Ty}
use Rattle.nwq_value.specs.declared.value.Ty.TheVariants as ty
use Rattle.nwq_value.specs.declared.value.Value.{Value}
use Rattle.nwq_value.specs.declared.value.Value.TheVariants as value
use Rattle.world_rules.specs.declared.data.Told.TheVariants as line
use Rattle.world_rules.specs.Arguments.{ints_of}
use Rattle.world_rules.specs.Pure.{CellLookup, pure}
use Rattle.world_rules.specs.World.{World, is_valid}
use Rattle.world_rules.specs.Changes.{told}
use Rattle.world_rules.specs.Rows.{Call, Answered, Row, rows, called, leaves}

-- the row of a number
abbrev pub row_numbered : ℕ → List Row → Option Row
row_numbered n all = find (λ r. r.number == n) all

abbrev pub by_row : {X : Type 0} → Option Row → Call X → World X → Answered X
by_row None c w = leaves w
by_row (Some r) c w = called r c w

-- what a world function gives: of an effect its number and the ints among its arguments, else the
-- result type's starting value
abbrev pub world_value : ℕ → Ty → List Value → Option Value
world_value routine ty.Effect values = Some
    (value.Effect (record { routine = routine; ints = ints_of values }))
world_value routine ty.Void values = None
world_value routine ty.Int values = start_value ty.Int
world_value routine ty.Text values = start_value ty.Text
world_value routine ty.Object values = start_value ty.Object
world_value routine ty.Event values = start_value ty.Event
world_value routine ty.Action values = None
world_value routine (ty.Struct n) values = None
world_value routine ty.Refused values = None

-- A call of a routine by its role. A world function leaves its call in the trace. An uncallable one
-- does nothing: it isn't called.
abbrev pub by_role : {X : Type 0} → CellLookup → ℕ → Routine → Role → Call X → World X → Answered X
by_role cell n r (role.Built own) c w = by_row (row_numbered own rows) c w
by_role cell n r (role.Pure k) c w = record { value = pure cell k c.values; world = w }
by_role cell n r role.World c w =
    record {
      value = world_value n r.result c.values;
      world = told c.caller (line.Call r.name c.values) w;
    }
by_role cell n r role.Uncallable c w = leaves w

abbrev pub by_routine : {X : Type 0} → CellLookup → ℕ → Option Routine → Call X → World X
    → Answered X
by_routine cell n None c w = leaves w
by_routine cell n (Some r) c w = by_role cell n r r.role c w

-- A call of the routine of a number. ExecuteScript has no row: what it does is the machine's.
unfoldable pub engine : {X : Type 0} → EngineTable → CellLookup → ℕ → Call X → World X → Answered X
engine table cell n c w = by_routine cell n (slice_get table.routines n) c w

-- ---- what the machine asks about ExecuteScript

-- may a script of this caller run another one on the target? It may on itself, and on an object.
abbrev pub may_run : {X : Type 0} → ℕ → ℕ → World X → Bool
may_run caller target w = is_valid target w || target == caller

-- the script of this name isn't listed, or would run too deep
abbrev pub no_script : {X : Type 0} → ℕ → List ℕ → World X → World X
no_script o name w = told o (line.NoScript name) w

abbrev pub too_deep : {X : Type 0} → ℕ → List ℕ → World X → World X
too_deep o name w = told o (line.Deep name) w
