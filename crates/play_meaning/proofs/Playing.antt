-- Two plays go together, entry by entry.
use Rattle.std.proofs.Common.{arith, ◌≡◌, ◌≤◌, ◌+◌, ◌*◌, ℕ, zero, suc, Bool, true, false, ◌++◌, Option, None, Some, refl, subst, ap, ap₂, ◌∙◌}
use Rattle.std.specs.Prelude.{◌==◌, if◌then◌else◌}
use Rattle.world_rules.specs.World.{World}
use Rattle.world_rules.specs.Turns.{Begun, begin}
use Rattle.world_rules.specs.Alike.{Alike, BegunAlike}
use Rattle.world_rules.specs.Plays.{Runner, Entered, Bounds, Progress, PlayEnd, Done, StoppedInside, Paused, Played, entry_entered, further, full, after_entry, next_entry, plays, play_on, unplayed}
use Rattle.source_laws.specs.StayAlike.{EntriesStayAlike}
use Rattle.source_laws.specs.Ledger.{step_cost}
use Rattle.play_meaning.specs.Together.{IsFirstPartOf, RunEnds, RunStops, RunnersAre, PlaysAlike, PlayEnds, StoppedAt, PlayStops}
use Rattle.play_meaning.proofs.Beginnings.{whole_begins, longer_begins, begins_then, behind_begins}
use Rattle.play_meaning.proofs.Entering.{EnteredAlike, EntryEnds, EntryStops, entries_go, finish_ends, quiet_ends, finish_stops, quiet_stops}

-- ---- a play's lines grow

module _ {X : Type 0} (runner : Runner X) (bounds : Bounds) where
  abbrev Tells : (Progress X → Played X) → Type 0
  Tells go = (p : Progress X) → IsFirstPartOf p.trace (go p).last.trace

  after_tells : (go : Progress X → Played X) → Tells go → (stopped : Bool) (p : Progress X) → IsFirstPartOf p.trace (after_entry stopped p go).last.trace
  after_tells go tells true p = whole_begins p.trace
  after_tells go tells false p = tells p

  next_tells : (go : Progress X → Played X) → Tells go → (b : Option (Begun X)) (p : Progress X) → IsFirstPartOf p.trace (next_entry runner b p go).last.trace
  next_tells go tells None p = whole_begins p.trace
  next_tells go tells (Some b) p = begins_then (longer_begins p.trace (entry_entered runner b).world.trace) (after_tells go tells (entry_entered runner b).stopped (further (entry_entered runner b) p))

  turn_tells : (go : Progress X → Played X) → Tells go → (is_full : Bool) (b : Option (Begun X)) (p : Progress X)
      → IsFirstPartOf p.trace (if is_full then record { ending = full b; last = p } else next_entry runner b p go).last.trace
  turn_tells go tells true b p = whole_begins p.trace
  turn_tells go tells false b p = next_tells go tells b p

  pub plays_tell : (left : ℕ) → Tells (plays runner bounds left)
  plays_tell zero p = whole_begins p.trace
  plays_tell (suc left) p = turn_tells (plays runner bounds left) (plays_tell left) (p.entries == bounds.entries) (begin bounds.until p.world) p

-- ---- two plays

-- between two entries
pub record ProgressAlike {X Y : Type 0} (R : X → Y → Type 0) (p : Progress X) (q : Progress Y) : Type 0 where
  pub entries : p.entries ≡ q.entries
  pub trace : p.trace ≡ q.trace
  pub world : Alike R p.world q.world
  pub paid : q.count ≤ p.count
  pub few : p.count ≤ step_cost * q.count

module _ {X Y : Type 0} (R : X → Y → Type 0) (stay : EntriesStayAlike R) (code : Runner X) (source : Runner Y) (bounds : Bounds) where
  further_alike : (e : Entered X) (f : Entered Y) (p : Progress X) (q : Progress Y) → EnteredAlike R e f → ProgressAlike R p q → ProgressAlike R (further e p) (further f q)
  further_alike e f p q h k = record {
    entries = ap (λ (n : ℕ). n + 1) k.entries;
    trace = ap₂ (λ a b. a ++ b) k.trace (stay.traces e.world f.world h.world);
    world = stay.drains e.world f.world h.world;
    paid = let a = h.paid in let b = k.paid in omega (arith, a, b);
    few = let a = h.few in let b = k.few in omega (arith, a, b);
  }

  ended_alike : (a b : PlayEnd) (p : Progress X) (q : Progress Y) → a ≡ b → ProgressAlike R p q → PlaysAlike R (record { ending = a; last = p }) (record { ending = b; last = q })
  ended_alike a b p q is k = record { ending = is; entries = k.entries; trace = k.trace; world = k.world; paid = k.paid; few = k.few }

  full_alike : (b : Option (Begun X)) (d : Option (Begun Y)) → BegunAlike R b d → full b ≡ full d
  full_alike None None h = refl
  full_alike (Some b) (Some d) h = refl
  full_alike None (Some d) h = absurd h
  full_alike (Some b) None h = absurd h

  -- ---- where each entry of source ends

  module _ (runners : RunnersAre R (RunEnds R) code source) where
    abbrev Ends : (Progress X → Played X) → (Progress Y → Played Y) → Type 0
    Ends go on = (p : Progress X) (q : Progress Y) → ProgressAlike R p q → PlayEnds R (go p) (on q)

    after_ends : (go : Progress X → Played X) (on : Progress Y → Played Y) → Ends go on → (e : Entered X) (f : Entered Y) → EntryEnds R e f → (p : Progress X) (q : Progress Y) → ProgressAlike R p q
        → (stopped other : Bool) → e.stopped ≡ stopped → f.stopped ≡ other → PlayEnds R (after_entry stopped (further e p) go) (after_entry other (further f q) on)
    after_ends go on rest e f h p q k stopped true is other_is goes = absurd (goes refl)
    after_ends go on rest e f h p q k true false is other_is goes =
        let a = h (λ stops. absurd cc) in
        let same = a.stopped in
        absurd cc
    after_ends go on rest e f h p q k false false is other_is goes =
        let a = h (λ stops. absurd cc) in
        rest (further e p) (further f q) (further_alike e f p q a k) goes

    next_ends : (go : Progress X → Played X) (on : Progress Y → Played Y) → Ends go on
        → (b : Option (Begun X)) (d : Option (Begun Y)) → BegunAlike R b d → (p : Progress X) (q : Progress Y)
        → ProgressAlike R p q
        → PlayEnds R (next_entry code b p go) (next_entry source d q on)
    next_ends go on rest None None h p q k goes = ended_alike Done Done p q refl k
    next_ends go on rest (Some b) (Some d) h p q k goes =
        let e = entry_entered code b in
        let f = entry_entered source d in
        after_ends go on rest e f (entries_go R stay (RunEnds R) (EntryEnds R) code source runners (quiet_ends R stay) (finish_ends R stay) b d h.0 h.1) p q k e.stopped f.stopped refl refl goes
    next_ends go on rest None (Some d) h p q k goes = absurd h
    next_ends go on rest (Some b) None h p q k goes = absurd h

    turn_ends : (go : Progress X → Played X) (on : Progress Y → Played Y) → Ends go on
        → (is_full : Bool) (b : Option (Begun X)) (d : Option (Begun Y)) → BegunAlike R b d
        → (p : Progress X) (q : Progress Y) → ProgressAlike R p q
        → PlayEnds R (if is_full then record { ending = full b; last = p } else next_entry code b p go) (if is_full then record { ending = full d; last = q } else next_entry source d q on)
    turn_ends go on rest true b d h p q k goes = ended_alike (full b) (full d) p q (full_alike b d h) k
    turn_ends go on rest false b d h p q k goes = next_ends go on rest b d h p q k goes

    pub plays_end : (left : ℕ) → Ends (plays code bounds left) (plays source bounds left)
    plays_end zero p q k goes = ended_alike Paused Paused p q refl k
    plays_end (suc left) p q k goes =
        let go = plays code bounds left in
        let on = plays source bounds left in
        let b = begin bounds.until p.world in
        let d = begin bounds.until q.world in
        subst (λ (t : Bool). PlayEnds R
        (if p.entries == bounds.entries then record { ending = full b; last = p } else next_entry code b p go)
        (if t then record { ending = full d; last = q } else next_entry source d q on))
        (ap (λ (n : ℕ). n == bounds.entries) k.entries)
        (turn_ends go on (plays_end left) (p.entries == bounds.entries) b d (stay.begins bounds.until p.world q.world k.world) p q k) goes

  -- ---- where the run of code isn't stopped

  module _ (limit : ℕ) (runners : RunnersAre R (RunStops R limit) code source) where
    abbrev Stops : (Progress X → Played X) → (Progress Y → Played Y) → Type 0
    Stops go on = (p : Progress X) (q : Progress Y) → ProgressAlike R p q → PlayStops R code bounds limit p (go p) (on q)

    goes_on : (from : Progress X) (c : Played X) (r : Played Y) → (c.ending ≡ StoppedInside → ⊥) → PlaysAlike R c r → PlayStops R code bounds limit from c r
    goes_on from c r on h = record { ends = λ goes. h; stopped = λ is. absurd (on is); told = λ is. absurd (on is) }

    full_goes : (b : Option (Begun X)) → full b ≡ StoppedInside → ⊥
    full_goes None h = absurd cc
    full_goes (Some b) h = absurd cc

    -- an entry before those that a play took till it was stopped
    entry_before : (b : Begun X) (p : Progress X) (played : Played X) → (p.entries == bounds.entries) ≡ false → begin bounds.until p.world ≡ Some b → (entry_entered code b).stopped ≡ false
        → StoppedAt code bounds limit (further (entry_entered code b) p) played → StoppedAt code bounds limit p played
    entry_before b p played unfull begins passes h = record {
      less = suc h.less;
      before = h.before;
      goes =
          ap (λ (t : Bool). if t then record { ending = full (begin bounds.until p.world); last = p } else next_entry code (begin bounds.until p.world) p (plays code bounds h.less)) unfull
          ∙ ap (λ (next : Option (Begun X)). next_entry code next p (plays code bounds h.less)) begins
          ∙ ap (λ (t : Bool). after_entry t (further (entry_entered code b) p) (plays code bounds h.less)) passes
          ∙ h.goes;
      entries = let e = h.entries in omega arith;
      begun = h.begun;
      is = h.is;
      stopped = h.stopped;
      count = h.count;
      last = h.last;
    }

    after_stops : (go : Progress X → Played X) (on : Progress Y → Played Y) → Stops go on → ((q : Progress Y) → IsFirstPartOf q.trace (on q).last.trace)
        → (b : Begun X) (d : Begun Y) → EntryStops R limit (entry_entered code b) (entry_entered source d)
        → (p : Progress X) (q : Progress Y) → (p.entries == bounds.entries) ≡ false
        → begin bounds.until p.world ≡ Some b → ProgressAlike R p q
        → (stopped other : Bool) → (entry_entered code b).stopped ≡ stopped → (entry_entered source d).stopped ≡ other
        → PlayStops R code bounds limit p (after_entry stopped (further (entry_entered code b) p) go) (after_entry other (further (entry_entered source d) q) on)
    after_stops go on rest tells b d h p q unfull begins k true other is other_is =
        let e = entry_entered code b in
        let f = entry_entered source d in
        let first : IsFirstPartOf (p.trace ++ e.world.trace) (q.trace ++ f.world.trace) =
        subst (λ l. IsFirstPartOf (p.trace ++ e.world.trace) (l ++ f.world.trace)) k.trace (behind_begins p.trace (h.told is)) in
        record {
          ends = λ goes. absurd (goes refl);
          stopped = λ stops. record {
            less = 0;
            before = p;
            goes = refl;
            entries = omega arith;
            begun = b;
            is = begins;
            stopped = is;
            count = h.count is;
            last = refl;
          };
          told = λ stops. begins_then first (after_tells source bounds on tells other (further f q));
        }
    after_stops go on rest tells b d h p q unfull begins k false false is other_is =
        let so = rest (further (entry_entered code b) p) (further (entry_entered source d) q) (further_alike (entry_entered code b) (entry_entered source d) p q (h.ends (λ stops. absurd cc)) k) in
        record { ends = so.ends; stopped = λ stops. entry_before b p (go (further (entry_entered code b) p)) unfull begins is (so.stopped stops); told = so.told }
    after_stops go on rest tells b d h p q unfull begins k false true is other_is =
        let a = h.ends (λ stops. absurd cc) in
        let same = a.stopped in
        absurd cc

    next_stops : (go : Progress X → Played X) (on : Progress Y → Played Y) → Stops go on → ((q : Progress Y) → IsFirstPartOf q.trace (on q).last.trace)
        → (b : Option (Begun X)) (d : Option (Begun Y)) → BegunAlike R b d → (p : Progress X) (q : Progress Y)
        → (p.entries == bounds.entries) ≡ false → begin bounds.until p.world ≡ b → ProgressAlike R p q
        → PlayStops R code bounds limit p (next_entry code b p go) (next_entry source d q on)
    next_stops go on rest tells None None h p q unfull begins k = goes_on p (record { ending = Done; last = p })
        (record { ending = Done; last = q }) (λ is. absurd cc) (ended_alike Done Done p q refl k)
    next_stops go on rest tells (Some b) (Some d) h p q unfull begins k =
        after_stops go on rest tells b d (entries_go R stay (RunStops R limit) (EntryStops R limit) code source runners (quiet_stops R stay limit) (finish_stops R stay limit) b d h.0 h.1)
        p q unfull begins k (entry_entered code b).stopped (entry_entered source d).stopped refl refl
    next_stops go on rest tells None (Some d) h p q unfull begins k = absurd h
    next_stops go on rest tells (Some b) None h p q unfull begins k = absurd h

    turn_stops : (go : Progress X → Played X) (on : Progress Y → Played Y) → Stops go on → ((q : Progress Y) → IsFirstPartOf q.trace (on q).last.trace)
        → (is_full : Bool) (b : Option (Begun X)) (d : Option (Begun Y)) → BegunAlike R b d
        → (p : Progress X) (q : Progress Y) → (p.entries == bounds.entries) ≡ is_full → begin bounds.until p.world ≡ b
        → ProgressAlike R p q
        → PlayStops R code bounds limit p
        (if is_full then record { ending = full b; last = p } else next_entry code b p go)
        (if is_full then record { ending = full d; last = q } else next_entry source d q on)
    turn_stops go on rest tells true b d h p q fullness begins k =
        goes_on p (record { ending = full b; last = p }) (record { ending = full d; last = q }) (full_goes b) (ended_alike (full b) (full d) p q (full_alike b d h) k)
    turn_stops go on rest tells false b d h p q fullness begins k = next_stops go on rest tells b d h p q fullness begins k

    pub plays_stop : (left : ℕ) → Stops (plays code bounds left) (plays source bounds left)
    plays_stop zero p q k = goes_on p (record { ending = Paused; last = p }) (record { ending = Paused; last = q }) (λ is. absurd cc) (ended_alike Paused Paused p q refl k)
    plays_stop (suc left) p q k =
        let go = plays code bounds left in
        let on = plays source bounds left in
        let b = begin bounds.until p.world in
        let d = begin bounds.until q.world in
        subst (λ (t : Bool). PlayStops R code bounds limit p
        (if p.entries == bounds.entries then record { ending = full b; last = p } else next_entry code b p go)
        (if t then record { ending = full d; last = q } else next_entry source d q on))
        (ap (λ (n : ℕ). n == bounds.entries) k.entries)
        (turn_stops go on (plays_stop left) (plays_tell source bounds left) (p.entries == bounds.entries) b d (stay.begins bounds.until p.world q.world k.world) p q refl refl k)

-- ---- plays from their beginning

unplayed_alike : {X Y : Type 0} (R : X → Y → Type 0) (w : World X) (v : World Y) → Alike R w v → ProgressAlike R (unplayed w) (unplayed v)
unplayed_alike R w v a = record { entries = refl; trace = refl; world = a; paid = omega arith; few = omega arith }

pub bounded_ends : {X Y : Type 0} (R : X → Y → Type 0) → EntriesStayAlike R → (code : Runner X) (source : Runner Y) → RunnersAre R (RunEnds R) code source
    → (bounds : Bounds) (w : World X) (v : World Y) → Alike R w v → PlayEnds R (play_on code bounds (unplayed w)) (play_on source bounds (unplayed v))
bounded_ends R stay code source runners bounds w v a =
    plays_end R stay code source bounds runners _ (unplayed w) (unplayed v) (unplayed_alike R w v a)

pub bounded_stops : {X Y : Type 0} (R : X → Y → Type 0) → EntriesStayAlike R → (code : Runner X) (source : Runner Y) (limit : ℕ) → RunnersAre R (RunStops R limit) code source
    → (bounds : Bounds) (w : World X) (v : World Y) → Alike R w v
    → PlayStops R code bounds limit (unplayed w) (play_on code bounds (unplayed w)) (play_on source bounds (unplayed v))
bounded_stops R stay code source limit runners bounds w v a =
    plays_stop R stay code source bounds limit runners _ (unplayed w) (unplayed v) (unplayed_alike R w v a)
