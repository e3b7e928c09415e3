-- A machine that runs in the world's own engine.
use Rattle.std.specs.Prelude.{◌≡◌, ℕ, List, [], ◌∷◌, Option, Some, true, slice_get}
use Rattle.nwq_value.specs.declared.value.Ty.TheVariants.{Text, Object}
use Rattle.nwq_value.specs.declared.value.Value.{Value}
use Rattle.nwq_value.specs.declared.engine.Routine.{Routine}
use Rattle.nwq_value.specs.Engine.{EngineTable}
use Rattle.saved_state.specs.declared.saved.Saved.{Saved}
use Rattle.stack_shape.specs.Calls.{argument_types, result_types, is_callable}
use Rattle.world_rules.specs.Pure.{CellLookup}
use Rattle.world_rules.specs.World.{World}
use Rattle.world_rules.specs.Engine.{engine}
use Rattle.world_rules.specs.AlikeLaws.{call}
use Rattle.machine_rules.specs.Cells.{value_types}
use Rattle.machine_rules.specs.Calls.{is_execute_script}
use Rattle.source_meaning.specs.Expressions.{parts_in}
use Rattle.source_meaning.specs.Scripts.{Setting}
use Rattle.source_laws.specs.Ledger.{MachineHost}
use Rattle.source_laws.specs.Carries.{Carries}
use Rattle.source_laws.specs.Calling.{EngineRuns}

-- the machine's engine is the world's, with the header's routines and these tables
pub record HasEngine (host : MachineHost) (tables : CellLookup) : Type 0 where
  pub value : (n caller : ℕ) (values : List Value) (a : Option Saved) (w : World Saved)
      → (host.engine n caller values a w).value
      ≡ (engine host.table tables n (call caller values a) w).value
  pub world : (n caller : ℕ) (values : List Value) (a : Option Saved) (w : World Saved)
      → (host.engine n caller values a w).world
      ≡ (engine host.table tables n (call caller values a) w).world

-- The world's engine answers calls of routines that can be called with values of the routines'
-- types, and the routine that runs another script has its types.
pub record AnswersAreTyped (table : EngineTable) (tables : CellLookup) : Type 0 where
  pub answers : (n : ℕ) (r : Routine) (caller : ℕ) (values : List Value) (a : Option Saved)
      (w : World Saved) → slice_get table.routines n ≡ Some r
      → is_callable r ≡ true → value_types values ≡ argument_types r.params
      → value_types (parts_in (engine table tables n (call caller values a) w).value)
      ≡ result_types r.result
  pub runs : (n : ℕ) (r : Routine) → slice_get table.routines n ≡ Some r
      → is_execute_script r.role ≡ true
      → (argument_types r.params ≡ Text ∷ Object ∷ []) × (result_types r.result ≡ [])

-- Such an engine answers as the engine of the meaning does, and leaves worlds alike.
abbrev pub EngineIsRun : Type 0
EngineIsRun = (s : Setting) (host : MachineHost) (tables : CellLookup) → HasEngine host tables
    → AnswersAreTyped host.table tables → EngineRuns host (Carries s) tables
