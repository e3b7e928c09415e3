-- A play that was broken off, and whose world was then left without its lines and its running
-- event, goes on as the unbroken one.
use Rattle.std.proofs.Common.{arith, ◌≡◌, ◌≢◌, ◌<◌, ◌≤◌, ◌+◌, ◌-◌, ℕ, ℤ, pos, zero, suc, Bool, true, false, List, [], ◌∷◌, ◌++◌, Option, None, Some, refl, ap, sym, subst, ◌∙◌, ⊎_elim}
use mathlib.Core.List.{append_assoc, append-nil}
use Rattle.std.specs.Prelude.{◌==◌, if◌then◌else◌}
use Rattle.std.proofs.lemmas.Bool.Decides.{eqb_tells}
use Rattle.delay_agenda.specs.declared.entry.Entry.{Entry}
use Rattle.world_rules.specs.declared.data.Line.{Line}
use Rattle.world_rules.specs.World.{World}
use Rattle.world_rules.specs.Turns.{Begun, begin, entry_begun}
use Rattle.world_rules.specs.Plays as plays
use Rattle.world_rules.specs.Plays.{Runner, Bounds, Progress, Played, Entered, after_entry, entry_entered, full, further, next_entry, plays as plays_from}

-- ---- numbers

apart_of : (a b : ℕ) → a < b → (a == b) ≡ false
apart_of a b less = ⊎_elim (λ k. absurd (omega (arith, k.1, less))) (λ k. k.0) (eqb_tells a b)

-- ---- where a play is broken off doesn't matter to one that comes as far

module _ {X : Type 0} (runner : Runner X) where
  after_same : (stopped : Bool) (p : Progress X) (go other : Progress X → Played X) → ((q : Progress X) → go q ≡ other q)
      → after_entry stopped p go ≡ after_entry stopped p other
  after_same true p go other same = refl
  after_same false p go other same = same p

  next_same : (b : Option (Begun X)) (p : Progress X) (go other : Progress X → Played X) → ((q : Progress X) → go q ≡ other q)
      → next_entry runner b p go ≡ next_entry runner b p other
  next_same None p go other same = refl
  next_same (Some b) p go other same = after_same (entry_entered runner b).stopped (further (entry_entered runner b) p) go other same

  pub stops_same : (entries until stop other k : ℕ) (p : Progress X)
      → plays_from runner (record { entries = entries; until = until; stop = stop }) k p ≡ plays_from runner (record { entries = entries; until = until; stop = other }) k p
  stops_same entries until stop other zero p = refl
  stops_same entries until stop other (suc k) p =
      ap (λ (z : Played X). if p.entries == entries then record { ending = full (begin until p.world); last = p } else z)
      (next_same (begin until p.world) p (plays_from runner (record { entries = entries; until = until; stop = stop }) k)
      (plays_from runner (record { entries = entries; until = until; stop = other }) k) (stops_same entries until stop other k))

-- ---- from where it was broken off, the rest is the rest of the whole

module _ {X : Type 0} (runner : Runner X) (bounds : Bounds) where
  -- the play from here on, until so many entries were taken in all
  abbrev pub upto : ℕ → Progress X → Played X
  upto total p = plays_from runner bounds (total - p.entries) p

  -- the play from here to its end
  abbrev pub on : Progress X → Played X
  on p = upto (bounds.entries + 1) p

  abbrev Rests : ℕ → ℕ → Progress X → Type 0
  Rests total k p = (plays_from runner bounds k p).ending ≢ plays.StoppedInside → upto total p ≡ upto total (plays_from runner bounds k p).last

  next_is : (k : ℕ) (p : Progress X) → p.entries < bounds.entries → plays_from runner bounds (suc k) p ≡ next_entry runner (begin bounds.until p.world) p (plays_from runner bounds k)
  next_is k p less =
      ap (λ (t : Bool). if t then record { ending = full (begin bounds.until p.world); last = p } else next_entry runner (begin bounds.until p.world) p (plays_from runner bounds k))
      (apart_of p.entries bounds.entries less)

  after_rests : (total k left : ℕ) (stopped : Bool) (p : Progress X) → left ≡ total - p.entries → Rests total k p
      → (after_entry stopped p (plays_from runner bounds k)).ending ≢ plays.StoppedInside
      → after_entry stopped p (plays_from runner bounds left) ≡ upto total (after_entry stopped p (plays_from runner bounds k)).last
  after_rests total k left true p is rests whole = absurd (whole refl)
  after_rests total k left false p is rests whole = ap (λ (n : ℕ). plays_from runner bounds n p) is ∙ rests whole

  next_rests : (total k left : ℕ) (b : Option (Begun X)) (p : Progress X) → upto total p ≡ next_entry runner b p (plays_from runner bounds left) → suc left ≡ total - p.entries
      → ((q : Progress X) → q.entries ≡ p.entries + 1 → Rests total k q) → (next_entry runner b p (plays_from runner bounds k)).ending ≢ plays.StoppedInside
      → upto total p ≡ upto total (next_entry runner b p (plays_from runner bounds k)).last
  next_rests total k left None p is count rests whole = refl
  next_rests total k left (Some b) p is count rests whole =
      is ∙ after_rests total k left (entry_entered runner b).stopped (further (entry_entered runner b) p) (omega (arith, count)) (rests (further (entry_entered runner b) p) refl) whole

  pub rests_upto : (total k : ℕ) (p : Progress X) → p.entries + k ≤ bounds.entries → p.entries + k ≤ total → Rests total k p
  rests_upto total zero p below within whole = refl
  rests_upto total (suc k) p below within whole =
      let less : p.entries < bounds.entries = omega (arith, below) in
      let first = next_is k p less in
      let left : total - p.entries ≡ suc (total - p.entries - 1) = omega (arith, within) in
      let here : upto total p ≡ next_entry runner (begin bounds.until p.world) p (plays_from runner bounds (total - p.entries - 1)) =
      ap (λ (n : ℕ). plays_from runner bounds n p) left ∙ next_is (total - p.entries - 1) p less in
      next_rests total k (total - p.entries - 1) (begin bounds.until p.world) p here (sym left) (λ q one. rests_upto total k q (omega (arith, one, below)) (omega (arith, one, within)))
      (subst (λ (q : Played X). q.ending ≢ plays.StoppedInside) first whole)
      ∙ ap (λ (q : Played X). upto total q.last) (sym first)

  pub rests : (k : ℕ) (p : Progress X) → p.entries + k ≤ bounds.entries → Rests (bounds.entries + 1) k p
  rests k p below = rests_upto (bounds.entries + 1) k p below (omega (arith, below))

  -- ---- a play to its end isn't broken off

  full_whole : (b : Option (Begun X)) → full b ≢ plays.Paused
  full_whole None h = absurd cc
  full_whole (Some b) h = absurd cc

  after_whole : (stopped : Bool) (p : Progress X) (go : Progress X → Played X) → (go p).ending ≢ plays.Paused → (after_entry stopped p go).ending ≢ plays.Paused
  after_whole true p go h e = absurd cc
  after_whole false p go h e = h e

  next_whole : (b : Option (Begun X)) (p : Progress X) (go : Progress X → Played X) → ((q : Progress X) → q.entries ≡ p.entries + 1 → (go q).ending ≢ plays.Paused)
      → (next_entry runner b p go).ending ≢ plays.Paused
  next_whole None p go h e = absurd cc
  next_whole (Some b) p go h e = after_whole (entry_entered runner b).stopped (further (entry_entered runner b) p) go (h (further (entry_entered runner b) p) refl) e

  turn_whole : (is_full : Bool) (b : Option (Begun X)) (p : Progress X) (go : Progress X → Played X)
      → (is_full ≡ false → (q : Progress X) → q.entries ≡ p.entries + 1 → (go q).ending ≢ plays.Paused)
      → (if is_full then record { ending = full b; last = p } else next_entry runner b p go).ending ≢ plays.Paused
  turn_whole true b p go h e = full_whole b e
  turn_whole false b p go h e = next_whole b p go (h refl) e

  not_equal : (a b : ℕ) → (a == b) ≡ false → a ≢ b
  not_equal a b h = ⊎_elim (λ k. absurd (clash (a == b) k.0 h)) (λ k. k.1) (eqb_tells a b)
    where
      clash : (x : Bool) → x ≡ true → x ≡ false → ⊥
      clash x s t = absurd cc

  ends : (k : ℕ) (p : Progress X) → p.entries + k ≡ bounds.entries + 1 → p.entries ≤ bounds.entries → (plays_from runner bounds k p).ending ≢ plays.Paused
  ends zero p all less e = absurd (omega (arith, all, less))
  ends (suc k) p all less e =
      turn_whole (p.entries == bounds.entries) (begin bounds.until p.world) p (plays_from runner bounds k)
      (λ other q one. let apart = not_equal p.entries bounds.entries other in ends k q (omega (arith, all, one)) (omega (arith, less, one, apart))) e

  pub on_ends : (p : Progress X) → p.entries ≤ bounds.entries → (on p).ending ≢ plays.Paused
  on_ends p less e = ends (bounds.entries + 1 - p.entries) p (omega (arith, less)) less e

  -- ---- lines that were told before stand in front

  abbrev pub after : List Line → Progress X → Progress X
  after before p = record p { trace = before ++ p.trace }

  abbrev pub played_after : List Line → Played X → Played X
  played_after before p = record { ending = p.ending; last = after before p.last }

  abbrev Fronts : List Line → (Progress X → Played X) → Type 0
  Fronts before go = (p : Progress X) → go (after before p) ≡ played_after before (go p)

  further_front : (before : List Line) (e : Entered X) (p : Progress X) → further e (after before p) ≡ after before (further e p)
  further_front before e p = ap (λ (t : List Line). record (further e p) { trace = t }) (append_assoc before p.trace e.world.trace)

  after_front : (before : List Line) (go : Progress X → Played X) → Fronts before go → (stopped : Bool) (p q : Progress X) → q ≡ after before p
      → after_entry stopped q go ≡ played_after before (after_entry stopped p go)
  after_front before go fronts true p q is = ap (λ (x : Progress X). record { ending = plays.StoppedInside; last = x }) is
  after_front before go fronts false p q is = ap go is ∙ fronts p

  next_front : (before : List Line) (go : Progress X → Played X) → Fronts before go → (b : Option (Begun X)) (p : Progress X)
      → next_entry runner b (after before p) go ≡ played_after before (next_entry runner b p go)
  next_front before go fronts None p = refl
  next_front before go fronts (Some b) p =
      after_front before go fronts (entry_entered runner b).stopped (further (entry_entered runner b) p)
      (further (entry_entered runner b) (after before p)) (further_front before (entry_entered runner b) p)

  turn_front : (before : List Line) (go : Progress X → Played X) → Fronts before go → (is_full : Bool) (b : Option (Begun X)) (p : Progress X)
      → (if is_full then record { ending = full b; last = after before p } else next_entry runner b (after before p) go)
      ≡ played_after before (if is_full then record { ending = full b; last = p } else next_entry runner b p go)
  turn_front before go fronts true b p = refl
  turn_front before go fronts false b p = next_front before go fronts b p

  pub fronts : (before : List Line) (k : ℕ) → Fronts before (plays_from runner bounds k)
  fronts before zero p = refl
  fronts before (suc k) p =
      turn_front before (plays_from runner bounds k) (fronts before k) (p.entries == bounds.entries) (begin bounds.until p.world) p

  -- ---- the user number of an event that is over doesn't matter

  abbrev pub with_user : ℤ → Progress X → Progress X
  with_user u p = record p { world = record p.world { user = u } }

  abbrev pub played_with : ℤ → Played X → Played X
  played_with u p = record { ending = p.ending; last = with_user u p.last }

  -- the play is the same but for the user number of its last world
  pub record SameBut (p q : Played X) : Type 0 where
    pub user : ℤ
    pub is : p ≡ played_with user q

  begun_same : (u : ℤ) (entries : List (Entry X)) (w : World X) → entry_begun bounds.until entries (record w { user = u }) ≡ entry_begun bounds.until entries w
  begun_same u [] w = refl
  begun_same u (e ∷ rest) w = refl

  after_user : (go : Progress X → Played X) (stopped : Bool) (p : Progress X) → SameBut (after_entry stopped p go) (after_entry stopped p go)
  after_user go stopped p = record { user = (after_entry stopped p go).last.world.user; is = refl }

  next_user : (go : Progress X → Played X) (u : ℤ) (b : Option (Begun X)) (p : Progress X) → SameBut (next_entry runner b (with_user u p) go) (next_entry runner b p go)
  next_user go u None p = record { user = u; is = refl }
  next_user go u (Some b) p = after_user go (entry_entered runner b).stopped (further (entry_entered runner b) p)

  turn_user : (go : Progress X → Played X) (u : ℤ) (is_full : Bool) (b : Option (Begun X)) (p : Progress X)
      → SameBut (if is_full then record { ending = full b; last = with_user u p } else next_entry runner b (with_user u p) go)
      (if is_full then record { ending = full b; last = p } else next_entry runner b p go)
  turn_user go u true b p = record { user = u; is = refl }
  turn_user go u false b p = next_user go u b p

  pub users : (u : ℤ) (k : ℕ) (p : Progress X) → SameBut (plays_from runner bounds k (with_user u p)) (plays_from runner bounds k p)
  users u zero p = record { user = u; is = refl }
  users u (suc k) p =
      subst (λ (b : Option (Begun X)). SameBut
      (if p.entries == bounds.entries then record { ending = full b; last = with_user u p } else next_entry runner b
      (with_user u p) (plays_from runner bounds k))
      (plays_from runner bounds (suc k) p)) (sym (begun_same u p.world.agenda.entries p.world))
      (turn_user (plays_from runner bounds k) u (p.entries == bounds.entries) (begin bounds.until p.world) p)

  -- ---- no lines are kept between entries

  after_quiet : (stopped : Bool) (p : Progress X) (go : Progress X → Played X) → p.world.trace ≡ [] → ((q : Progress X) → q.world.trace ≡ [] → (go q).last.world.trace ≡ [])
      → (after_entry stopped p go).last.world.trace ≡ []
  after_quiet true p go quiet h = quiet
  after_quiet false p go quiet h = h p quiet

  next_quiet : (b : Option (Begun X)) (p : Progress X) (go : Progress X → Played X) → p.world.trace ≡ [] → ((q : Progress X) → q.world.trace ≡ [] → (go q).last.world.trace ≡ [])
      → (next_entry runner b p go).last.world.trace ≡ []
  next_quiet None p go quiet h = quiet
  next_quiet (Some b) p go quiet h = after_quiet (entry_entered runner b).stopped (further (entry_entered runner b) p) go refl h

  turn_quiet : (is_full : Bool) (b : Option (Begun X)) (p : Progress X) (go : Progress X → Played X) → p.world.trace ≡ [] → ((q : Progress X) → q.world.trace ≡ [] → (go q).last.world.trace ≡ [])
      → (if is_full then record { ending = full b; last = p } else next_entry runner b p go).last.world.trace ≡ []
  turn_quiet true b p go quiet h = quiet
  turn_quiet false b p go quiet h = next_quiet b p go quiet h

  pub stays_quiet : (k : ℕ) (p : Progress X) → p.world.trace ≡ [] → (plays_from runner bounds k p).last.world.trace ≡ []
  stays_quiet zero p quiet = quiet
  stays_quiet (suc k) p quiet = turn_quiet (p.entries == bounds.entries) (begin bounds.until p.world) p (plays_from runner bounds k) quiet (stays_quiet k)

  -- ---- the whole

  -- what is left of a play where it was broken off, without its lines and its running event
  abbrev pub left_of : Progress X → Progress X
  left_of p = record { entries = p.entries; count = p.count; trace = []; world = record p.world { trace = []; user = pos 0 } }

  left_again : (p : Progress X) → p.world.trace ≡ [] → p ≡ after p.trace (with_user p.world.user (left_of p))
  left_again p quiet =
      ap (λ (t : List Line). record p { world = record p.world { trace = t } }) quiet
      ∙ ap (λ (t : List Line). record p { trace = t; world = record p.world { trace = [] } }) (sym (append-nil p.trace))

  pub record IsRestOf (front : List Line) (whole rest : Played X) : Type 0 where
    pub user : ℤ
    pub is : whole ≡ played_after front (played_with user rest)

  pub left_upto : (total : ℕ) (p : Progress X) → p.world.trace ≡ [] → IsRestOf p.trace (upto total p) (upto total (left_of p))
  left_upto total p quiet =
      let left : ℕ = total - p.entries in
      let same = users p.world.user left (left_of p) in
      record {
        user = same.user;
        is = ap (λ (q : Progress X). plays_from runner bounds left q) (left_again p quiet) ∙ fronts p.trace left (with_user p.world.user (left_of p))
            ∙ ap (played_after p.trace) same.is;
      }

  pub left_goes : (p : Progress X) → p.world.trace ≡ [] → IsRestOf p.trace (on p) (on (left_of p))
  left_goes p quiet = left_upto (bounds.entries + 1) p quiet
