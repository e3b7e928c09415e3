-- The types of answers.
use Rattle.std.specs.Prelude.{◌≡◌, ◌≢◌, ℕ, Option, None, Some, slice_get}
use Rattle.nwq_value.specs.Engine.{EngineTable, IsTable}
use Rattle.nwq_value.specs.Values.{type_of}
use Rattle.nwq_value.specs.declared.engine.Role.TheVariants.{Uncallable}
use Rattle.nwq_value.specs.declared.engine.Routine.{Routine}
use Rattle.nwq_value.specs.declared.value.Ty.{Ty}
use Rattle.nwq_value.specs.declared.value.Ty.TheVariants.{Void}
use Rattle.nwq_value.specs.declared.value.Value.{Value}
use Rattle.world_rules.specs.Pure.{CellLookup}
use Rattle.world_rules.specs.World.{World}
use Rattle.world_rules.specs.Rows.{Call}
use Rattle.world_rules.specs.Engine.{engine}

-- a call's answer has this type: of void there is none, and of each other type a value of it
abbrev pub IsOfType : Ty → Option Value → Type 0
IsOfType Void None = Unit {0}
IsOfType Void (Some v) = ⊥
IsOfType t None = ⊥
IsOfType t (Some v) = type_of v ≡ t

-- In every world each call of a routine that can be called has an answer of the routine's result
-- type.
abbrev pub AnswersHaveTypes : Type 0 → Type 0
AnswersHaveTypes X = (table : EngineTable) (cell : CellLookup) (n : ℕ) (r : Routine) (c : Call X)
    (w : World X)
    → IsTable table → slice_get table.routines n ≡ Some r → r.role ≢ Uncallable
    → IsOfType r.result (engine table cell n c w).value
