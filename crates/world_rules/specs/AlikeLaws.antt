-- What is done to two worlds that are alike leaves them so.
use Rattle.std.specs.Prelude.{◌≡◌, ℕ, List, Option}
use Rattle.area_rules.specs.Area.{PlainArea}
use Rattle.nwq_value.specs.Engine.{EngineTable}
use Rattle.nwq_value.specs.declared.value.Value.{Value}
use Rattle.world_rules.specs.Pure.{CellLookup}
use Rattle.world_rules.specs.World.{World}
use Rattle.world_rules.specs.Rows.{Call}
use Rattle.world_rules.specs.Engine.{engine, may_run, no_script, too_deep}
use Rattle.world_rules.specs.Turns.{Planned, new_world, begin, turn, turn_done, unapply, fault, drained}
use Rattle.world_rules.specs.Alike.{Alike, AnsweredAlike, BegunAlike, OptionAlike, TurnedAlike}

abbrev pub call : {X : Type 0} → ℕ → List Value → Option X → Call X
call caller values action = record { caller = caller; values = values; action = action }

-- the world of a plan's beginning has no stored actions
abbrev pub NewIsAlike : {X Y : Type 0} → (X → Y → Type 0) → Type 0
NewIsAlike R = (area : PlainArea) (random : List ℕ) (events : List Planned) (version : ℕ)
    → Alike R (new_world area random events version) (new_world area random events version)

-- One call in both worlds, whose actions belong together: the same value, and worlds that are
-- alike.
abbrev pub EngineKeepsAlike : {X Y : Type 0} → (X → Y → Type 0) → Type 0
EngineKeepsAlike {X = X} {Y = Y} R =
    (table : EngineTable) (cell : CellLookup) (n caller : ℕ) (values : List Value) (x : Option X)
    (y : Option Y) (w : World X) (v : World Y)
    → OptionAlike R x y → Alike R w v
    → AnsweredAlike R (engine table cell n (call caller values x) w)
    (engine table cell n (call caller values y) v)

abbrev pub MayRunAlike : {X Y : Type 0} → (X → Y → Type 0) → Type 0
MayRunAlike {X = X} {Y = Y} R = (caller target : ℕ) (w : World X) (v : World Y) → Alike R w v
    → may_run caller target w ≡ may_run caller target v

abbrev pub BeginKeepsAlike : {X Y : Type 0} → (X → Y → Type 0) → Type 0
BeginKeepsAlike {X = X} {Y = Y} R = (until : ℕ) (w : World X) (v : World Y) → Alike R w v
    → BegunAlike R (begin until w) (begin until v)

abbrev pub TurnKeepsAlike : {X Y : Type 0} → (X → Y → Type 0) → Type 0
TurnKeepsAlike {X = X} {Y = Y} R = (o : ℕ) (w : World X) (v : World Y) → Alike R w v
    → TurnedAlike R (turn o w) (turn o v)

abbrev pub TurnDoneKeepsAlike : {X Y : Type 0} → (X → Y → Type 0) → Type 0
TurnDoneKeepsAlike {X = X} {Y = Y} R = (o : ℕ) (w : World X) (v : World Y) → Alike R w v
    → Alike R (turn_done o w) (turn_done o v)

abbrev pub UnapplyKeepsAlike : {X Y : Type 0} → (X → Y → Type 0) → Type 0
UnapplyKeepsAlike {X = X} {Y = Y} R = (o number : ℕ) (w : World X) (v : World Y) → Alike R w v
    → Alike R (unapply o number w) (unapply o number v)

abbrev pub FaultKeepsAlike : {X Y : Type 0} → (X → Y → Type 0) → Type 0
FaultKeepsAlike {X = X} {Y = Y} R = (o : ℕ) (w : World X) (v : World Y) → Alike R w v
    → Alike R (fault o w) (fault o v)

abbrev pub NoScriptKeepsAlike : {X Y : Type 0} → (X → Y → Type 0) → Type 0
NoScriptKeepsAlike {X = X} {Y = Y} R = (o : ℕ) (name : List ℕ) (w : World X) (v : World Y)
    → Alike R w v → Alike R (no_script o name w) (no_script o name v)

abbrev pub TooDeepKeepsAlike : {X Y : Type 0} → (X → Y → Type 0) → Type 0
TooDeepKeepsAlike {X = X} {Y = Y} R = (o : ℕ) (name : List ℕ) (w : World X) (v : World Y)
    → Alike R w v → Alike R (too_deep o name w) (too_deep o name v)

abbrev pub DrainedKeepsAlike : {X Y : Type 0} → (X → Y → Type 0) → Type 0
DrainedKeepsAlike {X = X} {Y = Y} R = (w : World X) (v : World Y) → Alike R w v
    → Alike R (drained w) (drained v)
