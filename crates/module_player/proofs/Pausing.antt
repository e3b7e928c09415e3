-- A play that is broken off goes one entry further.
use Rattle.std.proofs.Common.{◌≡◌, ℕ, zero, suc, Bool, true, false, Option, None, Some, ap, ◌∙◌}
use Rattle.std.specs.Prelude.{◌==◌, if◌then◌else◌}
use Rattle.world_rules.specs.Turns.{Begun, begin}
use Rattle.world_rules.specs.Plays as plays
use Rattle.world_rules.specs.Plays.{Bounds, Played, Progress, Runner, after_entry, entry_entered, full, further, next_entry, plays as plays_from}

abbrev pub paused : {X : Type 0} → Progress X → Played X
paused p = record { ending = plays.Paused; last = p }

done_apart : plays.Done ≡ plays.Paused → ⊥
done_apart e = absurd cc

stopped_apart : plays.StoppedInside ≡ plays.Paused → ⊥
stopped_apart e = absurd cc

module _ {X : Type 0} (runner : Runner X) where
  not_full : (b : Option (Begun X)) → full b ≡ plays.Paused → ⊥
  not_full None e = absurd cc
  not_full (Some b) e = absurd cc

  module _ (p : Progress X) (r : Played X) (go on : Progress X → Played X) (more : (x : Progress X) → go x ≡ paused p → on x ≡ r) where
    entry_on : (stopped : Bool) (x : Progress X) → after_entry stopped x go ≡ paused p → after_entry stopped x on ≡ r
    entry_on true x e = absurd (stopped_apart (ap (λ (q : Played X). q.ending) e))
    entry_on false x e = more x e

    next_on : (b : Option (Begun X)) (x : Progress X) → next_entry runner b x go ≡ paused p → next_entry runner b x on ≡ r
    next_on None x e = absurd (done_apart (ap (λ (q : Played X). q.ending) e))
    next_on (Some b) x e = entry_on (entry_entered runner b).stopped (further (entry_entered runner b) x) e

    place_on : (is_full : Bool) (b : Option (Begun X)) (x : Progress X)
        → (if is_full then record { ending = full b; last = x } else next_entry runner b x go) ≡ paused p
        → (if is_full then record { ending = full b; last = x } else next_entry runner b x on) ≡ r
    place_on true b x e = absurd (not_full b (ap (λ (q : Played X). q.ending) e))
    place_on false b x e = next_on b x e

  module _ (bounds : Bounds) (p : Progress X) (r : Played X) where
    abbrev Next : Progress X → Played X
    Next x = if x.entries == bounds.entries then record { ending = full (begin bounds.until x.world); last = x }
        else next_entry runner (begin bounds.until x.world) x paused

    pub further_on : (n : ℕ) (x : Progress X) → plays_from runner bounds n x ≡ paused p → Next p ≡ r → plays_from runner bounds (suc n) x ≡ r
    further_on zero x e is = ap (λ (q : Played X). Next q.last) e ∙ is
    further_on (suc n) x e is =
        place_on p r (plays_from runner bounds n) (plays_from runner bounds (suc n)) (λ y told. further_on n y told is)
        (x.entries == bounds.entries) (begin bounds.until x.world) x e
