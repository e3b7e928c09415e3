-- The play of a plan, entry by entry. It is generic in the stored actions of its worlds, and in how
-- the scripts run that its entries begin: the play of files and the play of source texts are this
-- one.
use Rattle.std.specs.Prelude.{ℕ, zero, suc, ◌+◌, ◌-◌, Bool, true, false, ◌==◌, if◌then◌else◌, List, [], ◌∷◌, ◌++◌, Option, None, Some}
use Rattle.delay_agenda.specs.declared.entry.Kind.{Kind}
use Rattle.delay_agenda.specs.declared.entry.Kind.TheVariants.{Event, Stored, Turn, Unapply}
use Rattle.world_rules.specs.declared.data.Line.{Line}
use Rattle.world_rules.specs.World.{World}
use Rattle.world_rules.specs.Engine.{no_script}
use Rattle.world_rules.specs.Turns.{Begun, begin, turn, turn_done, unapply, fault, drained}

-- ---- scripts that run

-- how the scripts end that an entry runs
pub data Ending : Type 0 where
  Over : Ending
  -- a script of this object divided by zero
  Divided : ℕ → Ending
  -- the limit of an entry doesn't allow what would come next
  Stopped : Ending

-- What it comes to when an entry's scripts run: how they end, what was counted, and the world after
-- it.
pub record Run (X : Type 0) : Type 0 where
  pub ending : Ending
  pub count : ℕ
  pub world : World X

-- How scripts run in worlds with stored actions of this type.
pub record Runner (X : Type 0) : Type 0 where
  -- the number of the listed script of this name, where letters count without their case
  pub named : List ℕ → Option ℕ
  -- a listed script from its start, with this object as self
  pub script : ℕ → ℕ → World X → Run X
  -- a stored action, with this object as self
  pub stored : X → ℕ → World X → Run X

-- ---- one entry

-- what an entry comes to: whether it was stopped, what was counted, and the world after it
pub record Entered (X : Type 0) : Type 0 where
  pub stopped : Bool
  pub count : ℕ
  pub world : World X

-- an entry that runs no script
abbrev pub quiet : {X : Type 0} → World X → Entered X
quiet w = record { stopped = false; count = 0; world = w }

-- What is left of an entry is done once its scripts are over. A division leaves its line first; a
-- stopped entry isn't finished.
abbrev pub finished_as : {X : Type 0} → Ending → (World X → World X) → Run X → Entered X
finished_as Over rest r = record { stopped = false; count = r.count; world = rest r.world }
finished_as (Divided self) rest r = record {
  stopped = false;
  count = r.count;
  world = rest (fault self r.world);
}
finished_as Stopped rest r = record { stopped = true; count = r.count; world = r.world }

abbrev pub finished : {X : Type 0} → (World X → World X) → Run X → Entered X
finished rest r = finished_as r.ending rest r

-- an event with a script of this name: a line is left where it isn't listed
abbrev pub named_entry : {X : Type 0} → Runner X → ℕ → List ℕ → Option ℕ → World X → Entered X
named_entry runner o name None w = quiet (no_script o name w)
named_entry runner o name (Some script) w = finished (λ v. v) (runner.script script o w)

-- an event without a script does nothing
abbrev pub event_entry : {X : Type 0} → Runner X → ℕ → List ℕ → World X → Entered X
event_entry runner o [] w = quiet w
event_entry runner o (b ∷ name) w = named_entry runner o (b ∷ name) (runner.named (b ∷ name)) w

-- an object turned to the next action of its queue: a stored one is run, after which the Turn is
-- done
abbrev pub turn_entry : {X : Type 0} → Runner X → ℕ → Option X → World X → Entered X
turn_entry runner o None w = quiet w
turn_entry runner o (Some x) w = finished (turn_done o) (runner.stored x o w)

-- an entry that is begun, by its kind; its number is that of its post
abbrev pub entered_as : {X : Type 0} → Runner X → Kind X → ℕ → World X → Entered X
entered_as runner (Event o name user) number w = event_entry runner o name w
entered_as runner (Stored o x) number w = finished (λ v. v) (runner.stored x o w)
entered_as runner (Turn o) number w = turn_entry runner o (turn o w).action (turn o w).world
entered_as runner (Unapply o) number w = quiet (unapply o number w)

abbrev pub entry_entered : {X : Type 0} → Runner X → Begun X → Entered X
entry_entered runner b = entered_as runner b.entry.kind b.entry.number b.world

-- ---- entry after entry

-- A play between two entries: how many were taken, what was counted in all, the lines that were
-- told, and the world, which keeps no line.
pub record Progress (X : Type 0) : Type 0 where
  pub entries : ℕ
  pub count : ℕ
  pub trace : List Line
  pub world : World X

-- one entry further
abbrev pub further : {X : Type 0} → Entered X → Progress X → Progress X
further e p = record {
  entries = p.entries + 1;
  count = p.count + e.count;
  trace = p.trace ++ e.world.trace;
  world = drained e.world;
}

-- how a play ends
pub data PlayEnd : Type 0 where
  -- no further entry is due
  Done : PlayEnd
  -- as many entries were taken as may be, and a further one is due
  OutOfEntries : PlayEnd
  -- an entry was stopped
  StoppedInside : PlayEnd
  -- it is broken off, to be continued
  Paused : PlayEnd

pub record Played (X : Type 0) : Type 0 where
  pub ending : PlayEnd
  pub last : Progress X

-- How far a play goes: at most this many entries, those that are due by this time; and it is broken
-- off once `stop` entries were taken.
pub record Bounds : Type 0 where
  pub entries : ℕ
  pub until : ℕ
  pub stop : ℕ

-- how a play ends that has taken as many entries as it may, by whether one is due
abbrev pub full : {X : Type 0} → Option (Begun X) → PlayEnd
full None = Done
full (Some b) = OutOfEntries

-- after an entry the play goes on, unless it was stopped there
abbrev pub after_entry : {X : Type 0} → Bool → Progress X → (Progress X → Played X) → Played X
after_entry true p go = record { ending = StoppedInside; last = p }
after_entry false p go = go p

-- the entry that is begun, where one is due, and the play from there on
abbrev pub next_entry : {X : Type 0} → Runner X → Option (Begun X) → Progress X
    → (Progress X → Played X) → Played X
next_entry runner None p go = record { ending = Done; last = p }
next_entry runner (Some b) p go = let e = entry_entered runner b in after_entry e.stopped
    (further e p) go

-- the play from here on, which is broken off once so many further entries were taken
abbrev pub plays : {X : Type 0} → Runner X → Bounds → ℕ → Progress X → Played X
plays runner bounds zero p = record { ending = Paused; last = p }
plays runner bounds (suc left) p =
    if p.entries == bounds.entries then record {
      ending = full (begin bounds.until p.world);
      last = p;
    }
    else next_entry runner (begin bounds.until p.world) p (plays runner bounds left)

-- a play that goes on from here
abbrev pub play_on : {X : Type 0} → Runner X → Bounds → Progress X → Played X
play_on runner bounds p = plays runner bounds (bounds.stop - p.entries) p

-- a world in which nothing was played yet
abbrev pub unplayed : {X : Type 0} → World X → Progress X
unplayed w = record { entries = 0; count = 0; trace = []; world = w }

-- a whole play from a world on: it isn't broken off
abbrev pub play : {X : Type 0} → Runner X → ℕ → ℕ → World X → Played X
play runner entries until w = play_on runner
    (record { entries = entries; until = until; stop = entries + 1 }) (unplayed w)
