-- What holds of a world between two entries of a play, and that plays keep it.
use Rattle.std.specs.Prelude.{◌≡◌, ◌≢◌, ℕ, ◌+◌, ◌≤◌, false, List, length, IfSome}
use Rattle.std.specs.List.{AllByRecursion}
use mathlib.Core.Path.{refl, ◌∙◌}
use Rattle.area_rules.specs.Area.{PlainArea}
use Rattle.world_rules.specs.World.{World, count}
use Rattle.world_rules.specs.InPlan.{IsDueBy, StaysInPlan}
use Rattle.world_rules.specs.Kept.{IsWorld, IsActing, IsSettled, IsStep}
use Rattle.world_rules.specs.Turns.{Planned, new_world, begin}
use Rattle.world_rules.specs.Plays.{Runner, Entered, Bounds, Progress, Played, StoppedInside, entry_entered, plays}

-- A world between two entries: each object is busy exactly where it has a Turn on the agenda, which
-- is then its only one, and an object that isn't busy has nothing to do.
pub record IsBetween {X : Type 0} (w : World X) : Type 0 where
  pub world : IsWorld w
  pub settled : (o : ℕ) → IsSettled o w

-- What scripts make of a world by their calls, however many: it keeps what worlds keep and the
-- objects, objects that act act on, settled ones stay so, and the world stays in its plan.
pub record IsLed {X : Type 0} (w v : World X) : Type 0 where
  pub world : IsWorld v
  pub objects : count v ≡ count w
  pub acting : (o : ℕ) → IsActing o w → IsActing o v
  pub settled : (o : ℕ) → IsSettled o w → IsSettled o v
  pub plan : (until : ℕ) → StaysInPlan until w v

-- a world stays in its plan where nothing is done, and one thing after the other
pub stays_so : {X : Type 0} (until : ℕ) (w : World X) → StaysInPlan until w w
stays_so until w = record {
  tree = refl;
  version = refl;
  random = λ most few. few;
  clock = λ early. early;
  due = λ early time late due. due;
}

pub stays_on : {X : Type 0} (until : ℕ) (w v u : World X) → StaysInPlan until w v
    → StaysInPlan until v u → StaysInPlan until w u
stays_on until w v u a b = record {
  tree = b.tree ∙ a.tree;
  version = b.version ∙ a.version;
  random = λ most few. b.random most (a.random most few);
  clock = λ early. b.clock (a.clock early);
  due = λ early time late due. b.due (a.clock early) time late (a.due early time late due);
}

-- no call, and one call more
pub led_nowhere : {X : Type 0} (w : World X) → IsWorld w → IsLed w w
led_nowhere w h = record {
  world = h;
  objects = refl;
  acting = λ o a. a;
  settled = λ o s. s;
  plan = λ until. stays_so until w;
}

pub led_on : {X : Type 0} (w v u : World X) → IsLed w v → IsStep v u → IsLed w u
led_on w v u l s = record {
  world = s.world;
  objects = s.objects ∙ l.objects;
  acting = λ o a. s.acting o (l.acting o a);
  settled = λ o a. s.settled o (l.settled o a);
  plan = λ until. stays_on until w v u (l.plan until) (s.plan until);
}

-- How scripts run keeps to the engine: a script, or a stored action, that runs as one of the
-- objects, or as none, leads a world on by calls.
pub record KeepsToEngine {X : Type 0} (runner : Runner X) : Type 0 where
  pub script : (script self : ℕ) (w : World X) → IsWorld w → self ≤ count w
      → IsLed w (runner.script script self w).world
  pub stored : (x : X) (self : ℕ) (w : World X) → IsWorld w → self ≤ count w
      → IsLed w (runner.stored x self w).world

-- ---- the laws

-- a plan's events of the area's objects make a world that is between entries
abbrev pub NewIsBetween : Type 0 → Type 0
NewIsBetween X = (area : PlainArea) (random : List ℕ) (events : List Planned) (version : ℕ)
    → AllByRecursion (λ (p : Planned). p.object ≤ length area.objects) events
    → IsBetween (new_world {X = X} area random events version)

-- What a plan gives a world before its play: the clock at 0, the file of its area, version and
-- random numbers, so many entries, and all of them due by a time.
pub record IsPlanned {X : Type 0} (area : PlainArea) (plan_random : List ℕ)
    (plan_version time events : ℕ) (w : World X) : Type 0 where
  pub clock : w.clock ≡ 0
  pub tree : w.area.tree ≡ area.tree
  pub version : w.version ≡ plan_version
  pub random : w.random ≡ plan_random
  pub next : w.agenda.next ≡ events
  pub due : IsDueBy time w

abbrev pub NewIsPlanned : Type 0 → Type 0
NewIsPlanned X = (area : PlainArea) (random : List ℕ) (events : List Planned) (version time : ℕ)
    → AllByRecursion (λ (p : Planned). p.due ≤ time) events
    → IsPlanned area random version time (length events)
    (new_world {X = X} area random events version)

-- An entry that is due by a time leaves what every world keeps, and the world in its plan. Unless
-- it is stopped, the world is between entries again.
pub record IsEntered {X : Type 0} (until : ℕ) (w : World X) (e : Entered X) : Type 0 where
  pub world : IsWorld e.world
  pub plan : StaysInPlan until w e.world
  pub between : e.stopped ≡ false → IsBetween e.world

abbrev pub EntriesSettle : Type 0 → Type 0
EntriesSettle X = (runner : Runner X) (until : ℕ) (w : World X) → KeepsToEngine runner → IsBetween w
    → IfSome (begin until w) (λ b. IsEntered until w (entry_entered runner b))

-- The same of a play from a world on that is between entries: it stays in its plan, takes no more
-- entries than it may, and none more than it was to take.
pub record HasSettled {X : Type 0} (bounds : Bounds) (left : ℕ) (p : Progress X)
    (q : Played X) : Type 0 where
  pub world : IsWorld q.last.world
  pub between : q.ending ≢ StoppedInside → IsBetween q.last.world
  pub plan : StaysInPlan bounds.until p.world q.last.world
  pub entries : p.entries ≤ bounds.entries → q.last.entries ≤ bounds.entries
  pub further : q.last.entries ≤ p.entries + left

abbrev pub PlaysSettle : Type 0 → Type 0
PlaysSettle X = (runner : Runner X) (bounds : Bounds) (further : ℕ) (p : Progress X)
    → KeepsToEngine runner → IsBetween p.world
    → HasSettled bounds further p (plays runner bounds further p)
