-- How far a world goes on in its plan, whatever is done to it.
use Rattle.std.specs.Prelude.{◌≡◌, ℕ, ◌+◌, ◌≤◌, length}
use Rattle.std.specs.List.{AllByRecursion}
use Rattle.delay_agenda.specs.declared.entry.Entry.{Entry}
use Rattle.world_rules.specs.World.{World}
use Rattle.world_rules.specs.Changes.{longest_delay}

-- all that waits is due by this time
abbrev pub IsDueBy : {X : Type 0} → ℕ → World X → Type 0
IsDueBy {X = X} time w = AllByRecursion (λ (e : Entry X). e.due ≤ time) w.agenda.entries

-- What becomes of a world till a time: the file of its area and its version stay, and no random
-- number comes back. The clock doesn't pass the time, and no delay reaches further than the longest
-- one behind it.
pub record StaysInPlan {X : Type 0} (until : ℕ) (w v : World X) : Type 0 where
  pub tree : v.area.tree ≡ w.area.tree
  pub version : v.version ≡ w.version
  pub random : (most : ℕ) → length w.random ≤ most → length v.random ≤ most
  pub clock : w.clock ≤ until → v.clock ≤ until
  pub due : w.clock ≤ until → (time : ℕ) → until + longest_delay ≤ time → IsDueBy time w
      → IsDueBy time v
