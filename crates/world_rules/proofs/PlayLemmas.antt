-- Plays that are broken off and go on.
use Rattle.std.proofs.Common.{arith, ◌≡◌, ℕ, zero, suc, Bool, true, false, Option, None, Some, refl, ap, ◌∙◌, zero-add}
use Rattle.std.specs.Prelude.{◌+◌, ◌==◌, if◌then◌else◌}
use Rattle.world_rules.specs.Turns.{Begun, begin}
use Rattle.world_rules.specs.Plays.{Runner, Bounds, Progress, Played, entry_entered, further, full, after_entry, next_entry, plays}
use Rattle.world_rules.specs.GoingOn.{PlaysGoOn, continued}

module _ {X : Type 0} (runner : Runner X) (bounds : Bounds) (more : ℕ) where
  abbrev Goes : (Progress X → Played X) → (Progress X → Played X) → Type 0
  Goes whole go = (p : Progress X) → whole p ≡ continued runner bounds more (go p).ending (go p)

  full_ends : (b : Option (Begun X)) (p : Played X) → p ≡ continued runner bounds more (full b) p
  full_ends None p = refl
  full_ends (Some b) p = refl

  after_goes : (whole go : Progress X → Played X) → Goes whole go → (stopped : Bool) (p : Progress X)
      → after_entry stopped p whole ≡ continued runner bounds more (after_entry stopped p go).ending (after_entry stopped p go)
  after_goes whole go goes true p = refl
  after_goes whole go goes false p = goes p

  next_goes : (whole go : Progress X → Played X) → Goes whole go → (b : Option (Begun X)) (p : Progress X)
      → next_entry runner b p whole ≡ continued runner bounds more (next_entry runner b p go).ending (next_entry runner b p go)
  next_goes whole go goes None p = refl
  next_goes whole go goes (Some b) p = after_goes whole go goes (entry_entered runner b).stopped (further (entry_entered runner b) p)

  turn_goes : (whole go : Progress X → Played X) → Goes whole go → (b : Option (Begun X)) (is_full : Bool) (p : Progress X) →
      let one = if is_full then record { ending = full b; last = p } else next_entry runner b p go in
      (if is_full then record { ending = full b; last = p } else next_entry runner b p whole) ≡ continued runner bounds more one.ending one
  turn_goes whole go goes b true p = full_ends b (record { ending = full b; last = p })
  turn_goes whole go goes b false p = next_goes whole go goes b p

  suc_more : (first : ℕ) → suc first + more ≡ suc (first + more)
  suc_more first = omega arith

  pub goes_on : (first : ℕ) (p : Progress X)
      → plays runner bounds (first + more) p ≡ continued runner bounds more (plays runner bounds first p).ending (plays runner bounds first p)
  goes_on zero p = ap (λ n. plays runner bounds n p) (zero-add more)
  goes_on (suc first) p = ap (λ n. plays runner bounds n p) (suc_more first)
      ∙ turn_goes (plays runner bounds (first + more)) (plays runner bounds first) (goes_on first)
      (begin bounds.until p.world) (p.entries == bounds.entries) p

pub plays_go_on : {X : Type 0} → PlaysGoOn X
plays_go_on runner bounds first more p = goes_on runner bounds more first p
