-- What the play's proof asks of the world: that each thing done to a world keeps its values.
use Rattle.std.proofs.Common.{ℕ, List}
use Rattle.std.specs.Prelude.{Option, None, Some}
use Rattle.std.specs.List.{AllByRecursion}
use Rattle.nwq_value.specs.declared.value.Value.{Value}
use Rattle.nwq_value.specs.Engine.{EngineTable, IsTable}
use Rattle.saved_state.specs.declared.saved.Saved.{Saved}
use Rattle.state_format.specs.Parts.{IsNumber}
use Rattle.world_rules.specs.Pure.{CellLookup}
use Rattle.world_rules.specs.World.{World}
use Rattle.world_rules.specs.AlikeLaws.{call}
use Rattle.world_rules.specs.Engine.{engine, no_script, too_deep}
use Rattle.world_rules.specs.Turns.{Begun, begin, turn, turn_done, unapply, fault, drained}
use Rattle.play_room.specs.Room.{ValueHasRoom}
use Rattle.play_room.specs.Kept.{CellsAreBytes, MaybeValueHasRoom, ActionHasRoom, EntryIsKept, WorldIsKept}

abbrev pub CallsKeepValues : Type 0
CallsKeepValues = (cell : CellLookup) (table : EngineTable) → CellsAreBytes cell → IsTable table
    → (n caller : ℕ) (values : List Value) (action : Option Saved) (w : World Saved)
    → IsNumber 4 caller → AllByRecursion ValueHasRoom values → ActionHasRoom action → WorldIsKept w
    → MaybeValueHasRoom (engine table cell n (call caller values action) w).value × WorldIsKept (engine table cell n (call caller values action) w).world

abbrev pub NoScriptKeepsValues : Type 0
NoScriptKeepsValues = (o : ℕ) (name : List ℕ) (w : World Saved) → WorldIsKept w → WorldIsKept (no_script o name w)

abbrev pub TooDeepKeepsValues : Type 0
TooDeepKeepsValues = (o : ℕ) (name : List ℕ) (w : World Saved) → WorldIsKept w → WorldIsKept (too_deep o name w)

abbrev pub BegunIsKept : Option (Begun Saved) → Type 0
BegunIsKept None = Unit {0}
BegunIsKept (Some b) = EntryIsKept b.entry × WorldIsKept b.world

abbrev pub BeginKeepsValues : Type 0
BeginKeepsValues = (until : ℕ) (w : World Saved) → WorldIsKept w → BegunIsKept (begin until w)

abbrev pub TurnKeepsValues : Type 0
TurnKeepsValues = (o : ℕ) (w : World Saved) → IsNumber 4 o → WorldIsKept w → ActionHasRoom (turn o w).action × WorldIsKept (turn o w).world

abbrev pub TurnDoneKeepsValues : Type 0
TurnDoneKeepsValues = (o : ℕ) (w : World Saved) → IsNumber 4 o → WorldIsKept w → WorldIsKept (turn_done o w)

abbrev pub FaultKeepsValues : Type 0
FaultKeepsValues = (o : ℕ) (w : World Saved) → WorldIsKept w → WorldIsKept (fault o w)

abbrev pub UnapplyKeepsValues : Type 0
UnapplyKeepsValues = (o number : ℕ) (w : World Saved) → WorldIsKept w → WorldIsKept (unapply o number w)

abbrev pub DrainedKeepsValues : Type 0
DrainedKeepsValues = (w : World Saved) → WorldIsKept w → WorldIsKept (drained w)

-- all of it
pub record WorldKeepsValues : Type 0 where
  pub calls : CallsKeepValues
  pub no_script : NoScriptKeepsValues
  pub too_deep : TooDeepKeepsValues
  pub begin : BeginKeepsValues
  pub turn : TurnKeepsValues
  pub turn_done : TurnDoneKeepsValues
  pub fault : FaultKeepsValues
  pub unapply : UnapplyKeepsValues
  pub drained : DrainedKeepsValues
