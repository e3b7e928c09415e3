-- What every world keeps, and what each thing that is done to a world leaves of it.
use Rattle.std.specs.Prelude.{◌≡◌, ℕ, ◌+◌, ◌≤◌, Bool, true, false, List, [], length, MatchOption, IfSome, IsTrue}
use Rattle.std.specs.List.{AllByRecursion}
use Rattle.area_rules.specs.Area.{PlainArea}
use Rattle.delay_agenda.specs.Waiting.{IsAgenda, turn_count}
use Rattle.delay_agenda.specs.declared.entry.Entry.{Entry}
use Rattle.delay_agenda.specs.declared.entry.Kind.{Kind}
use Rattle.delay_agenda.specs.declared.entry.Kind.TheVariants.{Event, Stored, Turn, Unapply}
use Rattle.nwq_value.specs.Engine.{EngineTable}
use Rattle.world_rules.specs.Pure.{CellLookup}
use Rattle.world_rules.specs.World.{World, count, is_valid, queue_of}
use Rattle.world_rules.specs.Rows.{Call}
use Rattle.world_rules.specs.InPlan.{StaysInPlan}
use Rattle.world_rules.specs.Engine.{engine, no_script, too_deep}
use Rattle.world_rules.specs.Turns.{Planned, Begun, Turned, new_world, begin, turn, turn_done, unapply, fault, drained}

-- The object of an entry is one of so many. Events and stored code may be of no object; a Turn and
-- the end of an effect are of one.
abbrev pub IsPlaced : {X : Type 0} → ℕ → Kind X → Type 0
IsPlaced most (Event o script user) = o ≤ most
IsPlaced most (Stored o x) = o ≤ most
IsPlaced most (Turn o) = (1 ≤ o) × (o ≤ most)
IsPlaced most (Unapply o) = (1 ≤ o) × (o ≤ most)

-- how many Turns an object may have on the agenda: one where it is busy, else none
abbrev pub turns_allowed : Bool → ℕ
turns_allowed true = 1
turns_allowed false = 0

-- What every world keeps.
pub record IsWorld {X : Type 0} (w : World X) : Type 0 where
  -- there is a queue and a list of effects for each object of the area
  pub counted : length w.things ≡ count w
  pub agenda : IsAgenda w.agenda
  pub placed : AllByRecursion (λ (e : Entry X). IsPlaced (count w) e.kind) w.agenda.entries
  -- nothing is due that the clock has passed
  pub due : AllByRecursion (λ (e : Entry X). w.clock ≤ e.due) w.agenda.entries
  pub turns : (o : ℕ) → turn_count o w.agenda.entries ≤ turns_allowed (queue_of o w).busy

-- An object is acting: it is busy, and no Turn of it is on the agenda. So it is while a Turn of it
-- is done, or its Do runs.
pub record IsActing {X : Type 0} (o : ℕ) (w : World X) : Type 0 where
  pub busy : IsTrue (queue_of o w).busy
  pub none : turn_count o w.agenda.entries ≡ 0

-- An object is settled: where it is busy it has one Turn on the agenda, else none, and one that
-- isn't busy has nothing to do.
pub record IsSettled {X : Type 0} (o : ℕ) (w : World X) : Type 0 where
  pub turns : turn_count o w.agenda.entries ≡ turns_allowed (queue_of o w).busy
  pub idle : (queue_of o w).busy ≡ false → (queue_of o w).actions ≡ []

-- What a call makes of a world: it keeps what worlds keep, the objects and the clock, posts at most
-- one entry, objects that act act on, settled ones stay so, and the world stays in its plan.
pub record IsStep {X : Type 0} (w v : World X) : Type 0 where
  pub world : IsWorld v
  pub objects : count v ≡ count w
  pub clock : v.clock ≡ w.clock
  pub no_less : w.agenda.next ≤ v.agenda.next
  pub at_most_one : v.agenda.next ≤ w.agenda.next + 1
  pub acting : (o : ℕ) → IsActing o w → IsActing o v
  pub settled : (o : ℕ) → IsSettled o w → IsSettled o v
  pub plan : (until : ℕ) → StaysInPlan until w v

-- An entry that was begun: it was due, the clock stands at its time, its object is there, and where
-- it is a Turn its object acts.
pub record IsBegun {X : Type 0} (until : ℕ) (w : World X) (b : Begun X) : Type 0 where
  pub world : IsWorld b.world
  pub objects : count b.world ≡ count w
  pub due : b.entry.due ≤ until
  pub clock : b.world.clock ≡ b.entry.due
  pub next : b.world.agenda.next ≡ w.agenda.next
  pub placed : IsPlaced (count w) b.entry.kind
  pub acting : (o : ℕ) → b.entry.kind ≡ Turn o → IsActing o b.world
  pub plan : StaysInPlan until w b.world

-- A Turn of an acting object: where it comes to a stored action, the object acts on until that is
-- done.
pub record IsTurned {X : Type 0} (o : ℕ) (w : World X) (t : Turned X) : Type 0 where
  pub world : IsWorld t.world
  pub objects : count t.world ≡ count w
  pub clock : t.world.clock ≡ w.clock
  pub no_less : w.agenda.next ≤ t.world.agenda.next
  pub at_most_one : t.world.agenda.next ≤ w.agenda.next + 1
  pub acting : MatchOption t.action (Unit {0}) (λ x. IsActing o t.world)
  pub plan : (until : ℕ) → StaysInPlan until w t.world

-- the same of the end of a Turn
pub record IsDone {X : Type 0} (w v : World X) : Type 0 where
  pub world : IsWorld v
  pub objects : count v ≡ count w
  pub clock : v.clock ≡ w.clock
  pub no_less : w.agenda.next ≤ v.agenda.next
  pub at_most_one : v.agenda.next ≤ w.agenda.next + 1
  pub plan : (until : ℕ) → StaysInPlan until w v

-- ---- the laws

abbrev pub NewIsWorld : Type 0 → Type 0
NewIsWorld X = (area : PlainArea) (random : List ℕ) (events : List Planned) (version : ℕ)
    → AllByRecursion (λ (p : Planned). p.object ≤ length area.objects) events
    → IsWorld (new_world {X = X} area random events version)

abbrev pub EngineKeeps : Type 0 → Type 0
EngineKeeps X = (table : EngineTable) (cell : CellLookup) (n : ℕ) (c : Call X) (w : World X)
    → IsWorld w → c.caller ≤ count w → IsStep w (engine table cell n c w).world

abbrev pub BeginKeeps : Type 0 → Type 0
BeginKeeps X = (until : ℕ) (w : World X) → IsWorld w → IfSome (begin until w) (IsBegun until w)

abbrev pub TurnKeeps : Type 0 → Type 0
TurnKeeps X = (o : ℕ) (w : World X) → IsWorld w → IsTrue (is_valid o w) → IsActing o w
    → IsTurned o w (turn o w)

abbrev pub TurnDoneKeeps : Type 0 → Type 0
TurnDoneKeeps X = (o : ℕ) (w : World X) → IsWorld w → IsTrue (is_valid o w) → IsActing o w
    → IsDone w (turn_done o w)

abbrev pub UnapplyKeeps : Type 0 → Type 0
UnapplyKeeps X = (o number : ℕ) (w : World X) → IsWorld w → IsStep w (unapply o number w)

abbrev pub FaultKeeps : Type 0 → Type 0
FaultKeeps X = (o : ℕ) (w : World X) → IsWorld w → IsStep w (fault o w)

abbrev pub NoScriptKeeps : Type 0 → Type 0
NoScriptKeeps X = (o : ℕ) (name : List ℕ) (w : World X) → IsWorld w → IsStep w (no_script o name w)

abbrev pub TooDeepKeeps : Type 0 → Type 0
TooDeepKeeps X = (o : ℕ) (name : List ℕ) (w : World X) → IsWorld w → IsStep w (too_deep o name w)

abbrev pub DrainedKeeps : Type 0 → Type 0
DrainedKeeps X = (w : World X) → IsWorld w → IsStep w (drained w)
