-- Two entries that are begun in worlds that are alike go together, where the scripts do that they
-- run.
use Rattle.std.proofs.Common.{arith, ◌≡◌, ◌≤◌, ◌*◌, ℕ, true, List, [], ◌∷◌, Option, None, Some, refl, sym, subst, ◌∙◌}
use Rattle.delay_agenda.specs.declared.entry.Kind.{Kind}
use Rattle.delay_agenda.specs.declared.entry.Kind.TheVariants.{Event, Stored, Turn, Unapply}
use Rattle.world_rules.specs.World.{World}
use Rattle.world_rules.specs.Engine.{no_script}
use Rattle.world_rules.specs.Turns.{Begun, turn, turn_done, unapply, fault}
use Rattle.world_rules.specs.Alike.{Alike, OptionAlike, KindAlike, EntryAlike}
use Rattle.world_rules.specs.Plays.{Ending, Over, Divided, Stopped, Run, Runner, Entered, quiet, finished_as, finished, named_entry, event_entry, turn_entry, entered_as, entry_entered}
use Rattle.source_laws.specs.StayAlike.{EntriesStayAlike}
use Rattle.source_laws.specs.Ledger.{step_cost}
use Rattle.play_meaning.specs.Together.{IsFirstPartOf, RunsAlike, RunEnds, RunStops, RunnersAre}
use Rattle.play_meaning.proofs.Beginnings.{whole_begins, longer_begins, begins_then}
use Rattle.play_meaning.proofs.Growing.{turn_done_grows}

-- Both entries are stopped or neither, in worlds that are alike.
pub record EnteredAlike {X Y : Type 0} (R : X → Y → Type 0) (code : Entered X) (source : Entered Y) : Type 0 where
  pub stopped : code.stopped ≡ source.stopped
  pub world : Alike R code.world source.world
  pub paid : source.count ≤ code.count
  pub few : code.count ≤ step_cost * source.count

abbrev pub EntryEnds : {X Y : Type 0} → (X → Y → Type 0) → Entered X → Entered Y → Type 0
EntryEnds R code source = (source.stopped ≡ true → ⊥) → EnteredAlike R code source

pub record EntryStops {X Y : Type 0} (R : X → Y → Type 0) (limit : ℕ) (code : Entered X) (source : Entered Y) : Type 0 where
  pub ends : (code.stopped ≡ true → ⊥) → EnteredAlike R code source
  pub count : code.stopped ≡ true → code.count ≡ limit
  pub told : code.stopped ≡ true → IsFirstPartOf code.world.trace source.world.trace

-- ---- entries that run a script

module _ {X Y : Type 0} (R : X → Y → Type 0) (stay : EntriesStayAlike R) where
  -- what is left of an entry keeps worlds alike, and only adds to their lines
  pub record Rest (first : World X → World X) (second : World Y → World Y) : Type 0 where
    pub alike : (w : World X) (v : World Y) → Alike R w v → Alike R (first w) (second v)
    pub grows : (v : World Y) → IsFirstPartOf v.trace (second v).trace

  pub nothing_left : Rest (λ w. w) (λ v. v)
  nothing_left = record { alike = λ w v a. a; grows = λ v. whole_begins v.trace }

  pub turn_left : (o : ℕ) → Rest (turn_done o) (turn_done o)
  turn_left o = record { alike = stay.turns_done o; grows = turn_done_grows o }

  ended : {first : World X → World X} {second : World Y → World Y} → Rest first second → (m : Run X) (r : Run Y) (a b : Ending) → a ≡ b → (b ≡ Stopped → ⊥) → RunsAlike R m r
      → EnteredAlike R (finished_as a first m) (finished_as b second r)
  ended left m r Over Over is goes h = record { stopped = refl; world = left.alike m.world r.world h.world; paid = h.paid; few = h.few }
  ended {first = first} left m r (Divided o) (Divided p) is goes h =
      let same : o ≡ p = cc in
      record {
        stopped = refl;
        world = left.alike (fault o m.world) (fault p r.world) (subst (λ (q : ℕ). Alike R (fault o m.world) (fault q r.world)) same (stay.faults o m.world r.world h.world));
        paid = h.paid;
        few = h.few;
      }
  ended left m r Stopped b is goes h = absurd (goes (sym is))
  ended left m r a Stopped is goes h = absurd (goes refl)
  ended left m r Over (Divided p) is goes h = absurd cc
  ended left m r (Divided o) Over is goes h = absurd cc

  -- ---- where the evaluation isn't stopped

  ends_case : {first : World X → World X} {second : World Y → World Y} → Rest first second → (m : Run X) (r : Run Y) (b : Ending) → r.ending ≡ b → RunEnds R m r
      → EntryEnds R (finished first m) (finished_as b second r)
  ends_case left m r Over is h goes =
      let on : r.ending ≡ Stopped → ⊥ = λ stops. absurd cc in
      ended left m r m.ending Over ((h on).ending ∙ is) (λ stops. absurd cc) (h on)
  ends_case left m r (Divided o) is h goes =
      let on : r.ending ≡ Stopped → ⊥ = λ stops. absurd cc in
      ended left m r m.ending (Divided o) ((h on).ending ∙ is) (λ stops. absurd cc) (h on)
  ends_case left m r Stopped is h goes = absurd (goes refl)

  pub finish_ends : (first : World X → World X) (second : World Y → World Y) → Rest first second → (m : Run X) (r : Run Y) → RunEnds R m r → EntryEnds R (finished first m) (finished second r)
  finish_ends first second left m r h = ends_case left m r r.ending refl h

  pub quiet_ends : (w : World X) (v : World Y) → Alike R w v → EntryEnds R (quiet w) (quiet v)
  quiet_ends w v a goes = record { stopped = refl; world = a; paid = omega arith; few = omega arith }

  -- ---- where the run isn't

  finished_tells : {first : World X → World X} {second : World Y → World Y} → Rest first second → (r : Run Y) (b : Ending) → IsFirstPartOf r.world.trace (finished_as b second r).world.trace
  finished_tells left r Over = left.grows r.world
  finished_tells left r (Divided o) = begins_then (longer_begins r.world.trace _) (left.grows (fault o r.world))
  finished_tells left r Stopped = whole_begins r.world.trace

  stops_case : {first : World X → World X} {second : World Y → World Y} → Rest first second → (limit : ℕ) (m : Run X) (r : Run Y) (a : Ending) → m.ending ≡ a → RunStops R limit m r
      → EntryStops R limit (finished_as a first m) (finished second r)
  stops_case {second = second} left limit m r Over is h =
      let on : m.ending ≡ Stopped → ⊥ = λ stops. absurd cc in
      let same : Over ≡ r.ending = sym is ∙ (h.ends on).ending in
      record {
        ends = λ goes. ended left m r Over r.ending same (λ stops. absurd cc) (h.ends on);
        count = λ stops. absurd cc;
        told = λ stops. absurd cc;
      }
  stops_case {second = second} left limit m r (Divided o) is h =
      let on : m.ending ≡ Stopped → ⊥ = λ stops. absurd cc in
      let same : Divided o ≡ r.ending = sym is ∙ (h.ends on).ending in
      record {
        ends = λ goes. ended left m r (Divided o) r.ending same (λ stops. absurd cc) (h.ends on);
        count = λ stops. absurd cc;
        told = λ stops. absurd cc;
      }
  stops_case left limit m r Stopped is h = record {
    ends = λ goes. absurd (goes refl);
    count = λ stops. h.count is;
    told = λ stops. begins_then (h.told is) (finished_tells left r r.ending);
  }

  pub finish_stops : (limit : ℕ) (first : World X → World X) (second : World Y → World Y) → Rest first second
      → (m : Run X) (r : Run Y) → RunStops R limit m r → EntryStops R limit (finished first m) (finished second r)
  finish_stops limit first second left m r h = stops_case left limit m r m.ending refl h

  pub quiet_stops : (limit : ℕ) (w : World X) (v : World Y) → Alike R w v → EntryStops R limit (quiet w) (quiet v)
  quiet_stops limit w v a = record { ends = λ goes. quiet_ends w v a (λ stops. absurd cc); count = λ stops. absurd cc; told = λ stops. absurd cc }

  -- ---- each kind of entry, for what holds of runs and what holds of entries

  module _ (P : Run X → Run Y → Type 0) (Q : Entered X → Entered Y → Type 0) (code : Runner X) (source : Runner Y) (runners : RunnersAre R P code source)
      (quiets : (w : World X) (v : World Y) → Alike R w v → Q (quiet w) (quiet v))
      (finishes : (first : World X → World X) (second : World Y → World Y) → Rest first second → (m : Run X) (r : Run Y) → P m r → Q (finished first m) (finished second r)) where
    named_go : (o : ℕ) (name : List ℕ) (found : Option ℕ) → source.named name ≡ found → (w : World X) (v : World Y)
        → Alike R w v → Q (named_entry code o name found w) (named_entry source o name found v)
    named_go o name None is w v a = quiets (no_script o name w) (no_script o name v) (stay.unlisted o name w v a)
    named_go o name (Some script) is w v a = finishes (λ u. u) (λ u. u) nothing_left (code.script script o w) (source.script script o v) (runners.script name script o w v is a)

    event_goes : (o : ℕ) (name : List ℕ) (w : World X) (v : World Y) → Alike R w v → Q (event_entry code o name w) (event_entry source o name v)
    event_goes o [] w v a = quiets w v a
    event_goes o (b ∷ name) w v a =
        subst (λ found. Q (named_entry code o (b ∷ name) found w) (named_entry source o (b ∷ name) (source.named (b ∷ name)) v)) (sym (runners.named (b ∷ name)))
        (named_go o (b ∷ name) (source.named (b ∷ name)) refl w v a)

    turn_goes : (o : ℕ) (c : Option X) (d : Option Y) (w : World X) (v : World Y) → OptionAlike R c d → Alike R w v → Q (turn_entry code o c w) (turn_entry source o d v)
    turn_goes o None None w v h a = quiets w v a
    turn_goes o (Some c) (Some d) w v h a = finishes (turn_done o) (turn_done o) (turn_left o) (code.stored c o w) (source.stored d o v) (runners.stored c d o w v h a)
    turn_goes o None (Some d) w v h a = absurd h
    turn_goes o (Some c) None w v h a = absurd h

    kinds_go : (k : Kind X) (j : Kind Y) (number : ℕ) (w : World X) (v : World Y) → KindAlike R k j → Alike R w v → Q (entered_as code k number w) (entered_as source j number v)
    kinds_go (Event o name user) (Event p other n) number w v h a =
        subst (λ (q : ℕ). Q (event_entry code o name w) (event_entry source q other v)) h.0
        (subst (λ (q : List ℕ). Q (event_entry code o name w) (event_entry source o q v)) h.1 (event_goes o name w v a))
    kinds_go (Stored o c) (Stored p d) number w v h a =
        subst (λ (q : ℕ). Q (finished (λ u. u) (code.stored c o w)) (finished (λ u. u) (source.stored d q v))) h.0
        (finishes (λ u. u) (λ u. u) nothing_left (code.stored c o w) (source.stored d o v) (runners.stored c d o w v h.1 a))
    kinds_go (Turn o) (Turn p) number w v h a =
        let t = stay.turns o w v a in
        subst (λ (q : ℕ). Q (entered_as code (Turn o) number w) (entered_as source (Turn q) number v)) h
        (turn_goes o (turn o w).action (turn o v).action (turn o w).world (turn o v).world t.action t.world)
    kinds_go (Unapply o) (Unapply p) number w v h a =
        subst (λ (q : ℕ). Q (quiet (unapply o number w)) (quiet (unapply q number v))) h (quiets (unapply o number w) (unapply o number v) (stay.unapplies o number w v a))
    kinds_go (Event o name user) (Stored p d) number w v h a = absurd h
    kinds_go (Event o name user) (Turn p) number w v h a = absurd h
    kinds_go (Event o name user) (Unapply p) number w v h a = absurd h
    kinds_go (Stored o c) (Event p other n) number w v h a = absurd h
    kinds_go (Stored o c) (Turn p) number w v h a = absurd h
    kinds_go (Stored o c) (Unapply p) number w v h a = absurd h
    kinds_go (Turn o) (Event p other n) number w v h a = absurd h
    kinds_go (Turn o) (Stored p d) number w v h a = absurd h
    kinds_go (Turn o) (Unapply p) number w v h a = absurd h
    kinds_go (Unapply o) (Event p other n) number w v h a = absurd h
    kinds_go (Unapply o) (Stored p d) number w v h a = absurd h
    kinds_go (Unapply o) (Turn p) number w v h a = absurd h

    pub entries_go : (b : Begun X) (d : Begun Y) → EntryAlike R b.entry d.entry → Alike R b.world d.world → Q (entry_entered code b) (entry_entered source d)
    entries_go b d e a =
        subst (λ (n : ℕ). Q (entry_entered code b) (entered_as source d.entry.kind n d.world)) e.number
        (kinds_go b.entry.kind d.entry.kind b.entry.number b.world d.world e.kind a)
