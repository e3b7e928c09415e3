-- Two plays that go together: in the one code is run, and in the other source is evaluated. What is
-- said here is said of any two ways to run the scripts of an entry, and of any relation between
-- stored actions.
use Rattle.std.specs.Prelude.{◌≡◌, ◌≤◌, ℕ, ◌+◌, ◌*◌, List, ◌++◌, true, Some}
use Rattle.world_rules.specs.World.{World}
use Rattle.world_rules.specs.Turns.{Begun, begin}
use Rattle.world_rules.specs.Alike.{Alike}
use Rattle.world_rules.specs.Plays.{Stopped, Run, Runner, Progress, StoppedInside, Paused, Played, Bounds, entry_entered, further, plays}
use Rattle.source_laws.specs.Ledger.{step_cost}

-- the one list is a beginning of the other, or all of it
pub record IsFirstPartOf {A : Type 0} (part whole : List A) : Type 0 where
  pub more : List A
  pub is : whole ≡ part ++ more

-- ---- the scripts of an entry

-- Both runs end in the same way, in worlds that are alike, and at least one and at most 16
-- instructions were made for each step.
pub record RunsAlike {X Y : Type 0} (R : X → Y → Type 0) (code : Run X)
    (source : Run Y) : Type 0 where
  pub ending : code.ending ≡ source.ending
  pub world : Alike R code.world source.world
  pub paid : source.count ≤ code.count
  pub few : code.count ≤ step_cost * source.count

-- where the evaluation isn't stopped
abbrev pub RunEnds : {X Y : Type 0} → (X → Y → Type 0) → Run X → Run Y → Type 0
RunEnds R code source = (source.ending ≡ Stopped → ⊥) → RunsAlike R code source

-- So where the run of code isn't stopped; where it is, it has made all the instructions of its
-- limit, and what it has told is a beginning of what the evaluation tells.
pub record RunStops {X Y : Type 0} (R : X → Y → Type 0) (limit : ℕ) (code : Run X)
    (source : Run Y) : Type 0 where
  pub ends : (code.ending ≡ Stopped → ⊥) → RunsAlike R code source
  pub count : code.ending ≡ Stopped → code.count ≡ limit
  pub told : code.ending ≡ Stopped → IsFirstPartOf code.world.trace source.world.trace

-- Two runners know the same scripts, and what they run goes together in worlds that are alike.
pub record RunnersAre {X Y : Type 0} (R : X → Y → Type 0) (P : Run X → Run Y → Type 0)
    (code : Runner X) (source : Runner Y) : Type 0 where
  pub named : (name : List ℕ) → code.named name ≡ source.named name
  pub script : (name : List ℕ) (script self : ℕ) (w : World X) (v : World Y)
      → source.named name ≡ Some script → Alike R w v
      → P (code.script script self w) (source.script script self v)
  pub stored : (c : X) (d : Y) (self : ℕ) (w : World X) (v : World Y) → R c d → Alike R w v
      → P (code.stored c self w) (source.stored d self v)

-- ---- whole plays

-- Both plays end in the same way, after as many entries, with the same lines told, in worlds that
-- are alike; and at least one and at most 16 instructions were made for each step.
pub record PlaysAlike {X Y : Type 0} (R : X → Y → Type 0) (code : Played X)
    (source : Played Y) : Type 0 where
  pub ending : code.ending ≡ source.ending
  pub entries : code.last.entries ≡ source.last.entries
  pub trace : code.last.trace ≡ source.last.trace
  pub world : Alike R code.last.world source.last.world
  pub paid : source.last.count ≤ code.last.count
  pub few : code.last.count ≤ step_cost * source.last.count

-- where each entry of the play of source ends
abbrev pub PlayEnds : {X Y : Type 0} → (X → Y → Type 0) → Played X → Played Y → Type 0
PlayEnds R code source = (source.ending ≡ StoppedInside → ⊥) → PlaysAlike R code source

-- how far a whole play goes, which isn't broken off
abbrev pub whole : ℕ → ℕ → Bounds
whole entries until = record { entries = entries; until = until; stop = entries + 1 }

-- A play that goes on from here was stopped in its last entry. Up to that one it goes as it does
-- where it is broken off after one entry less; that entry is the one that is due next there, it was
-- stopped, and so much was counted for it.
pub record StoppedAt {X : Type 0} (runner : Runner X) (bounds : Bounds) (limit : ℕ)
    (from : Progress X) (p : Played X) : Type 0 where
  -- the entries that the play took from here on, less one
  pub less : ℕ
  pub before : Progress X
  pub goes : plays runner bounds less from ≡ record { ending = Paused; last = before }
  pub entries : p.last.entries ≡ from.entries + less + 1
  pub begun : Begun X
  pub is : begin bounds.until before.world ≡ Some begun
  pub stopped : (entry_entered runner begun).stopped ≡ true
  pub count : (entry_entered runner begun).count ≡ limit
  pub last : p.last ≡ further (entry_entered runner begun) before

-- So where the play of code isn't stopped. Where it is, all the instructions that an entry may take
-- were made in its last entry, and what it has told is a beginning of what the play of source
-- tells.
pub record PlayStops {X Y : Type 0} (R : X → Y → Type 0) (runner : Runner X) (bounds : Bounds)
    (limit : ℕ) (from : Progress X) (code : Played X) (source : Played Y) : Type 0 where
  pub ends : (code.ending ≡ StoppedInside → ⊥) → PlaysAlike R code source
  pub stopped : code.ending ≡ StoppedInside → StoppedAt runner bounds limit from code
  pub told : code.ending ≡ StoppedInside → IsFirstPartOf code.last.trace source.last.trace
