-- A whole play isn't broken off.
use Rattle.std.proofs.Common.{arith, ◌≡◌, ◌≢◌, ◌≤◌, ◌+◌, ◌-◌, ℕ, zero, suc, Bool, true, false, Option, None, Some, ⊎_elim, subst, refl}
use Rattle.std.specs.Prelude.{◌==◌, if◌then◌else◌}
use Rattle.std.proofs.lemmas.Bool.Decides.{eqb_tells}
use Rattle.world_rules.specs.Turns.{Begun, begin}
use Rattle.world_rules.specs.World.{World}
use Rattle.world_rules.specs.Plays as plays
use Rattle.world_rules.specs.Plays.{Runner, Bounds, Progress, Played, PlayEnd, after_entry, entry_entered, full, further, next_entry, plays as plays_from}
use Rattle.module_player.specs.declared.played.How.{How}
use Rattle.module_player.specs.declared.played.How.TheVariants as how
use Rattle.module_player.specs.Answers.{EndsAs}

abbrev Whole : PlayEnd → Type 0
Whole e = e ≢ plays.Paused

done_whole : Whole plays.Done
done_whole h = absurd cc

full_whole : {X : Type 0} → (b : Option (Begun X)) → Whole (full b)
full_whole None h = absurd cc
full_whole (Some b) h = absurd cc

module _ {X : Type 0} (runner : Runner X) (bounds : Bounds) where
  after_whole : (stopped : Bool) (p : Progress X) (go : Progress X → Played X) → Whole (go p).ending → Whole (after_entry stopped p go).ending
  after_whole true p go h e = absurd cc
  after_whole false p go h e = h e

  next_whole : (b : Option (Begun X)) (p : Progress X) (go : Progress X → Played X) → ((q : Progress X) → q.entries ≡ p.entries + 1 → Whole (go q).ending) → Whole (next_entry runner b p go).ending
  next_whole None p go h = done_whole
  next_whole (Some b) p go h = after_whole (entry_entered runner b).stopped (further (entry_entered runner b) p) go (h (further (entry_entered runner b) p) refl)

  turn_whole : (is_full : Bool) (b : Option (Begun X)) (p : Progress X) (go : Progress X → Played X) → (is_full ≡ false → (q : Progress X) → q.entries ≡ p.entries + 1 → Whole (go q).ending)
      → Whole (if is_full then record { ending = full b; last = p } else next_entry runner b p go).ending
  turn_whole true b p go h = full_whole b
  turn_whole false b p go h = next_whole b p go (h refl)

  apart_of : (a b : ℕ) → (a == b) ≡ false → a ≢ b
  apart_of a b h = ⊎_elim (λ k. absurd (clash (a == b) k.0 h)) (λ k. k.1) (eqb_tells a b)
    where
      clash : (x : Bool) → x ≡ true → x ≡ false → ⊥
      clash x s t = absurd cc

  plays_whole : (n : ℕ) (p : Progress X) → p.entries + n ≡ bounds.entries + 1 → p.entries ≤ bounds.entries → Whole (plays_from runner bounds n p).ending
  plays_whole zero p all less = absurd (omega (arith, all, less))
  plays_whole (suc n) p all less = turn_whole (p.entries == bounds.entries) (begin bounds.until p.world) p (plays_from runner bounds n)
      (λ other q one. let apart = apart_of p.entries bounds.entries other in plays_whole n q (omega (arith, all, one)) (omega (arith, less, one, apart)))

pub never_pauses : {X : Type 0} → (runner : Runner X) (entries until : ℕ) (w : World X) (h : How) → EndsAs h (plays.play runner entries until w).ending → h ≢ how.Pause
never_pauses runner entries until w h ends is =
    plays_whole runner (record { entries = entries; until = until; stop = entries + 1 }) ((entries + 1) - 0)
    (plays.unplayed w) (omega arith) (omega arith)
    (subst (λ a. EndsAs a (plays.play runner entries until w).ending) is ends)
