-- Plays keep worlds between entries.
use Rattle.std.proofs.Common.{◌≡◌, ◌≢◌, ℕ, ◌+◌, ◌≤◌, pos, zero, zero-add, suc, Bool, true, false, List, [], ◌∷◌, length, Option, None, Some, refl, sym, ap, subst, ◌∙◌, inl, inr, arith, true≢false}
use Rattle.std.specs.Prelude.{if◌then◌else◌, ◌⊎◌, ◌&&◌, ◌==◌, nat_eq, nat_le, nat_lt, IfSome, IsTrue, MatchOption, replicate, slice_get}
use Rattle.std.specs.List.{AllByRecursion, fold}
use Rattle.std.proofs.lemmas.Bool.Decides.{nat_tests}
use Rattle.action_queue.specs.declared.queue.Item.{Item}
use Rattle.action_queue.specs.declared.queue.Item.TheVariants.{Do, Wait, Speak}
use Rattle.area_rules.specs.Area.{PlainArea}
use Rattle.delay_agenda.specs.Laws.{TakeKeeps}
use Rattle.delay_agenda.specs.Waiting.{is_turn_kind, is_turn_of, turn_count}
use Rattle.delay_agenda.specs.declared.entry.Entry.{Entry}
use Rattle.delay_agenda.specs.declared.entry.Kind.{Kind}
use Rattle.delay_agenda.specs.declared.entry.Kind.TheVariants.{Event, Stored, Turn, Unapply}
use Rattle.world_rules.specs.declared.data.Told.TheVariants as line
use Rattle.world_rules.specs.World.{World, count, is_valid, queue_in, queue_of}
use Rattle.world_rules.specs.Changes.{told, later, with_actions, with_busy}
use Rattle.world_rules.specs.Turns.{Planned, idle, still, with_planned, new_world, user_number, Begun, with_entries, entry_begun, begin, next_turn, turn_done, Turned, turned, turn, unapply, fault}
use Rattle.world_rules.specs.Turns.{drained}
use Rattle.world_rules.specs.Engine.{no_script}
use Rattle.world_rules.specs.Plays.{Ending, Over, Divided, Stopped, Run, Runner, Entered, quiet, finished_as, finished, named_entry, event_entry, turn_entry, entered_as, entry_entered, Progress}
use Rattle.world_rules.specs.Plays.{further, Done, Paused, PlayEnd, Played, Bounds, full, after_entry, next_entry, plays}
use Rattle.world_rules.specs.Kept.{IsPlaced, IsWorld, IsActing, IsSettled, IsStep, IsBegun}
use Rattle.world_rules.specs.InPlan.{StaysInPlan}
use Rattle.world_rules.specs.Settled.{IsBetween, IsLed, stays_so, stays_on, KeepsToEngine, NewIsBetween, IsPlanned, NewIsPlanned, IsEntered, EntriesSettle, HasSettled, PlaysSettle}
use Rattle.world_rules.proofs.Queues.{other_queue, mark_actions, idle_mark, settled_by, idle_settled}
use Rattle.world_rules.proofs.KeptLemmas.{AgendaLaws, marks_actions, marks_acting, all_put, post_kept, post_settled, same_or_other, valid_tells, turn_settles}
use Rattle.world_rules.proofs.TurnsKept.{begin_keeps, still_kept, turn_keeps, turn_done_keeps, unapply_keeps, fault_keeps, no_script_keeps, drained_keeps}

abbrev All : {X : Type 0} → World X → Type 0
All w = (p : ℕ) → IsSettled p w

-- all objects but this one are settled
abbrev Others : {X : Type 0} → ℕ → World X → Type 0
Others o w = (p : ℕ) → p ≢ o → IsSettled p w

-- a world in which a Turn of an object is done that was in another world before
record IsTurning {X : Type 0} (until : ℕ) (before : World X) (o : ℕ) (w : World X) : Type 0 where
  world : IsWorld w
  valid : IsTrue (is_valid o w)
  acting : IsActing o w
  others : Others o w
  plan : StaysInPlan until before w

-- a world between entries to which another one came
record Comes {X : Type 0} (until : ℕ) (before w : World X) : Type 0 where
  between : IsBetween w
  plan : StaysInPlan until before w

-- ---- a Turn

rests : {X : Type 0} (o : ℕ) (w : World X) → (queue_of o w).actions ≡ [] → IsActing o w → Others o w → All (with_busy o false w)
rests o w empty a others p = decided (same_or_other p o)
  where
    decided : (p ≡ o) ⊎ (p ≢ o) → IsSettled p (with_busy o false w)
    decided (inl here) = subst (λ r. IsSettled r (with_busy o false w)) (sym here)
        (idle_settled o (with_busy o false w) (idle_mark o w) (mark_actions o o false w ∙ empty) a.none)
    decided (inr apart) = settled_by p w (with_busy o false w) (other_queue o p (record (queue_of o w) { busy = false }) w apart) refl (others p apart)

next_settles : {X : Type 0} (laws : AgendaLaws X) (o : ℕ) (items : List (Item X)) (w : World X) → (queue_of o w).actions ≡ items → IsActing o w → Others o w
    → All (next_turn o items w)
next_settles laws o [] w same a others p = rests o w same a others p
next_settles laws o (item ∷ rest) w same a others p = turn_settles laws w.clock o p w a (same_or_other p o) (others p)

done_settles : {X : Type 0} (laws : AgendaLaws X) (o : ℕ) (w : World X) → IsActing o w → Others o w → All (turn_done o w)
done_settles laws o w a others = next_settles laws o (queue_of o w).actions w refl a others

others_act : {X : Type 0} (o : ℕ) (items : List (Item X)) (w : World X) → Others o w → Others o (with_actions o items w)
others_act o items w others p apart =
    settled_by p w (with_actions o items w) (other_queue o p (record (queue_of o w) { actions = items }) w apart) refl (others p apart)

abbrev Settles : {X : Type 0} → ℕ → Turned X → Type 0
Settles o t = MatchOption t.action (All t.world) (λ x. Others o t.world)

turned_settles : {X : Type 0} (laws : AgendaLaws X) (o : ℕ) (items : List (Item X)) (w : World X) → (queue_of o w).actions ≡ items → IsActing o w → Others o w
    → Settles o (turned o items w)
turned_settles laws o [] w same a others = rests o w same a others
turned_settles laws o (Do x ∷ rest) w same a others = others_act o rest w others
turned_settles laws o (Wait ms ∷ rest) w same a others = λ p.
    let v = with_actions o rest w in
    turn_settles laws (later ms w) o p v (marks_acting w v (marks_actions o rest w) o a) (same_or_other p o) (others_act o rest w others p)
turned_settles laws o (Speak bytes ∷ rest) w same a others =
    let v = with_actions o rest w in
    let b = marks_acting w v (marks_actions o rest w) o a in
    done_settles laws o (told o (line.Speak bytes) v) (record { busy = b.busy; none = b.none })
    (λ p apart. settled_by p v (told o (line.Speak bytes) v) refl refl (others_act o rest w others p apart))

-- ---- the next entry

abbrev begun_as : {X : Type 0} → Entry X → List (Entry X) → World X → Begun X
begun_as e rest w = record { entry = e; world = record (with_entries rest w) { clock = e.due; user = user_number e.kind } }

-- what is known of a world once an entry is taken
abbrev Awaits : {X : Type 0} → Kind X → World X → Type 0
Awaits (Event o script user) w = All w
Awaits (Stored o x) w = All w
Awaits (Turn o) w = Others o w
Awaits (Unapply o) w = All w

no_turn : (b : Bool) (m n : ℕ) → b ≡ false → (if b then suc n else n) ≡ m → n ≡ m
no_turn true m n h same = absurd (true≢false h)
no_turn false m n h same = same

other_turn : (o p : ℕ) → p ≢ o → nat_eq o p ≡ false
other_turn o p apart = grind (arith, nat_tests, apart)

taken_settled : {X : Type 0} (p until : ℕ) (e : Entry X) (rest : List (Entry X)) (w : World X) → w.agenda.entries ≡ e ∷ rest → is_turn_of p e ≡ false
    → IsSettled p w → IsSettled p (begun_as e rest w).world
taken_settled p until e rest w same none a = record {
  turns = no_turn (is_turn_of p e) _ (turn_count p rest) none (sym (ap (turn_count p) same) ∙ a.turns);
  idle = a.idle;
}

begun_awaits : {X : Type 0} (until : ℕ) (k : Kind X) (e : Entry X) (rest : List (Entry X)) (w : World X) → w.agenda.entries ≡ e ∷ rest → e.kind ≡ k → All w
    → Awaits k (begun_as e rest w).world
begun_awaits until (Event o script user) e rest w same kind all = λ p. taken_settled p until e rest w same (ap (is_turn_kind p) kind) (all p)
begun_awaits until (Stored o x) e rest w same kind all = λ p. taken_settled p until e rest w same (ap (is_turn_kind p) kind) (all p)
begun_awaits until (Turn o) e rest w same kind all = λ p apart. taken_settled p until e rest w same (ap (is_turn_kind p) kind ∙ other_turn o p apart) (all p)
begun_awaits until (Unapply o) e rest w same kind all = λ p. taken_settled p until e rest w same (ap (is_turn_kind p) kind) (all p)

-- ---- entries

led_comes : {X : Type 0} (until : ℕ) (before w v : World X) → Comes until before w → IsLed w v → Comes until before v
led_comes until before w v c l = record {
  between = record { world = l.world; settled = λ o. l.settled o (c.between.settled o) };
  plan = stays_on until before w v c.plan (l.plan until);
}

step_comes : {X : Type 0} (until : ℕ) (before w v : World X) → Comes until before w → IsStep w v → Comes until before v
step_comes until before w v c s = record {
  between = record { world = s.world; settled = λ o. s.settled o (c.between.settled o) };
  plan = stays_on until before w v c.plan (s.plan until);
}

stays_between : {X : Type 0} (until : ℕ) (w : World X) → IsWorld w → All w → Comes until w w
stays_between until w h all = record { between = record { world = h; settled = all }; plan = stays_so until w }

quiet_entered : {X : Type 0} (until : ℕ) (before w : World X) → Comes until before w → IsEntered until before (quiet w)
quiet_entered until before w c = record { world = c.between.world; plan = c.plan; between = λ _. c.between }

is_there : (o most : ℕ) → 1 ≤ o → o ≤ most → IsTrue (nat_lt 0 o && nat_le o most)
is_there o most one within = grind (arith, nat_tests, one, within)

-- an entry whose scripts are over is finished, in worlds of which something is known
ends_as : {X : Type 0} (until : ℕ) (before : World X) (P : World X → Type 0) (rest : World X → World X) → ((w : World X) → P w → IsWorld w)
    → ((w : World X) → P w → StaysInPlan until before w) → ((o : ℕ) (w : World X) → P w → P (fault o w))
    → ((w : World X) → P w → Comes until before (rest w)) → (ending : Ending) (r : Run X) → P r.world → IsEntered until before (finished_as ending rest r)
ends_as until before P rest kept stays faulted done Over r p =
    let c = done r.world p in
    record { world = c.between.world; plan = c.plan; between = λ _. c.between }
ends_as until before P rest kept stays faulted done (Divided self) r p =
    let c = done (fault self r.world) (faulted self r.world p) in
    record { world = c.between.world; plan = c.plan; between = λ _. c.between }
ends_as until before P rest kept stays faulted done Stopped r p =
    record { world = kept r.world p; plan = stays r.world p; between = λ h. absurd (true≢false h) }

between_ends : {X : Type 0} (until : ℕ) (before : World X) (r : Run X) → Comes until before r.world → IsEntered until before (finished (λ v. v) r)
between_ends until before r c = ends_as until before (Comes until before) (λ v. v) (λ w c. c.between.world) (λ w c. c.plan)
    (λ o w c. step_comes until before w (fault o w) c (fault_keeps o w c.between.world)) (λ w c. c) r.ending r c

led_turning : {X : Type 0} (until : ℕ) (before : World X) (o : ℕ) (w v : World X) → IsTurning until before o w → IsLed w v → IsTurning until before o v
led_turning until before o w v t l = record {
  world = l.world;
  valid = ap (λ n. nat_lt 0 o && nat_le o n) l.objects ∙ t.valid;
  acting = l.acting o t.acting;
  others = λ p apart. l.settled p (t.others p apart);
  plan = stays_on until before w v t.plan (l.plan until);
}

turning_ends : {X : Type 0} (laws : AgendaLaws X) (until : ℕ) (before : World X) (o : ℕ) (r : Run X) → IsTurning until before o r.world
    → IsEntered until before (finished (turn_done o) r)
turning_ends laws until before o r t = ends_as until before (IsTurning until before o) (turn_done o) (λ w t. t.world) (λ w t. t.plan)
    (λ p w t. let s = fault_keeps p w t.world in record {
      world = s.world;
      valid = t.valid;
      acting = s.acting o t.acting;
      others = λ q apart. s.settled q (t.others q apart);
      plan = stays_on until before w (fault p w) t.plan (s.plan until);
    })
    (λ w t. let d = turn_done_keeps laws o w t.world t.valid t.acting in record {
      between = record { world = d.world; settled = done_settles laws o w t.acting t.others };
      plan = stays_on until before w (turn_done o w) t.plan (d.plan until);
    })
    r.ending r t

module _ {X : Type 0} (laws : AgendaLaws X) (runner : Runner X) (keeps : KeepsToEngine runner) (until : ℕ) where
  script_comes : (script self : ℕ) (w : World X) → IsWorld w → All w → self ≤ count w → Comes until w (runner.script script self w).world
  script_comes script self w h all most =
      led_comes until w w (runner.script script self w).world (stays_between until w h all) (keeps.script script self w h most)

  stored_comes : (x : X) (self : ℕ) (w : World X) → IsWorld w → All w → self ≤ count w → Comes until w (runner.stored x self w).world
  stored_comes x self w h all most =
      led_comes until w w (runner.stored x self w).world (stays_between until w h all) (keeps.stored x self w h most)

  named_settles : (o : ℕ) (name : List ℕ) (script : Option ℕ) (w : World X) → IsWorld w → All w → o ≤ count w
      → IsEntered until w (named_entry runner o name script w)
  named_settles o name None w h all most = quiet_entered until w (no_script o name w)
      (step_comes until w w (no_script o name w) (stays_between until w h all) (no_script_keeps o name w h))
  named_settles o name (Some script) w h all most = between_ends until w (runner.script script o w) (script_comes script o w h all most)

  event_settles : (o : ℕ) (name : List ℕ) (w : World X) → IsWorld w → All w → o ≤ count w → IsEntered until w (event_entry runner o name w)
  event_settles o [] w h all most = quiet_entered until w w (stays_between until w h all)
  event_settles o (c ∷ name) w h all most = named_settles o (c ∷ name) (runner.named (c ∷ name)) w h all most

  action_settles : (before : World X) (o : ℕ) (action : Option X) (w : World X) → StaysInPlan until before w → IsWorld w → IsTrue (is_valid o w)
      → MatchOption action (All w) (λ x. Others o w) → MatchOption action (Unit {0}) (λ x. IsActing o w) → IsEntered until before (turn_entry runner o action w)
  action_settles before o None w plan h valid settled acting =
      quiet_entered until before w (record { between = record { world = h; settled = settled }; plan = plan })
  action_settles before o (Some x) w plan h valid settled acting =
      turning_ends laws until before o (runner.stored x o w)
      (led_turning until before o w _ (record { world = h; valid = valid; acting = acting; others = settled; plan = plan })
      (keeps.stored x o w h (valid_tells o w valid).1))

  entered_settles : (k : Kind X) (number : ℕ) (w : World X) → IsWorld w → IsPlaced (count w) k → ((o : ℕ) → k ≡ Turn o → IsActing o w) → Awaits k w
      → IsEntered until w (entered_as runner k number w)
  entered_settles (Event o name user) number w h most acting all = event_settles o name w h all most
  entered_settles (Stored o x) number w h most acting all = between_ends until w (runner.stored x o w) (stored_comes x o w h all most)
  entered_settles (Turn o) number w h placed acting others =
      let valid = is_there o (count w) placed.0 placed.1 in
      let t = turn_keeps laws o w h valid (acting o refl) in
      action_settles w o (turn o w).action (turn o w).world (t.plan until) t.world (ap (λ n. nat_lt 0 o && nat_le o n) t.objects ∙ valid)
      (turned_settles laws o (queue_of o w).actions w refl (acting o refl) others) t.acting
  entered_settles (Unapply o) number w h most acting all = quiet_entered until w (unapply o number w)
      (step_comes until w w (unapply o number w) (stays_between until w h all) (unapply_keeps o number w h))

  -- ---- plays

  module _ (take : TakeKeeps X) where
    entered_from : (w v : World X) (e : Entered X) → StaysInPlan until w v → IsEntered until v e → IsEntered until w e
    entered_from w v e plan k = record { world = k.world; plan = stays_on until w v e.world plan k.plan; between = k.between }

    begun_if : (c : Bool) (e : Entry X) (rest : List (Entry X)) (w : World X) → w.agenda.entries ≡ e ∷ rest → IsBetween w
        → IfSome (if c then Some (begun_as e rest w) else None) (IsBegun until w)
        → IfSome (if c then Some (begun_as e rest w) else None) (λ b. IsEntered until w (entry_entered runner b))
    begun_if true e rest w same b k = entered_from w (begun_as e rest w).world (entry_entered runner (begun_as e rest w)) k.plan
        (entered_settles e.kind e.number (begun_as e rest w).world k.world
        (subst (λ n. IsPlaced n e.kind) (sym k.objects) k.placed) k.acting (begun_awaits until e.kind e rest w same refl b.settled))
    begun_if false e rest w same b k = tt

    begun_settles : (es : List (Entry X)) (w : World X) → w.agenda.entries ≡ es → IsBetween w → IfSome (entry_begun until es w) (IsBegun until w)
        → IfSome (entry_begun until es w) (λ b. IsEntered until w (entry_entered runner b))
    begun_settles [] w same b k = tt
    begun_settles (e ∷ rest) w same b k = begun_if (nat_le e.due until) e rest w same b k

    pub entry_settles : (w : World X) → IsBetween w → IfSome (begin until w) (λ b. IsEntered until w (entry_entered runner b))
    entry_settles w b = begun_settles w.agenda.entries w refl b (begin_keeps take until w b.world)

module _ {X : Type 0} (laws : AgendaLaws X) (take : TakeKeeps X) (runner : Runner X) (keeps : KeepsToEngine runner) (bounds : Bounds) where
  abbrev Goes : ℕ → (Progress X → Played X) → Type 0
  Goes left go = (p : Progress X) → IsBetween p.world → HasSettled bounds left p (go p)

  stays_played : (ending : PlayEnd) (left : ℕ) (p : Progress X) → IsBetween p.world → HasSettled bounds left p (record { ending = ending; last = p })
  stays_played ending left p between = record {
    world = between.world;
    between = λ _. between;
    plan = stays_so bounds.until p.world;
    entries = λ few. few;
    further = omega arith;
  }

  apart_of : (m n : ℕ) → (m == n) ≡ false → m ≢ n
  apart_of m n h same = absurd (grind (arith, nat_tests, h, same))

  -- an entry that was taken, and the play from there on
  after_settles : (left : ℕ) (go : Progress X → Played X) → Goes left go → (e : Entered X) (p : Progress X) → p.entries ≢ bounds.entries
      → IsEntered bounds.until p.world e → (stopped : Bool) → e.stopped ≡ stopped → HasSettled bounds (suc left) p (after_entry stopped (further e p) go)
  after_settles left go goes e p apart k true same =
      let d = drained_keeps e.world k.world in
      record {
        world = d.world;
        between = λ other. absurd (other refl);
        plan = stays_on bounds.until p.world e.world (drained e.world) k.plan (d.plan bounds.until);
        entries = λ few. omega (arith, few, apart);
        further = omega arith;
      }
  after_settles left go goes e p apart k false same =
      let d = drained_keeps e.world k.world in
      let b = k.between same in
      let g = goes (further e p) (record { world = d.world; settled = λ o. d.settled o (b.settled o) }) in
      let most = g.further in
      record {
        world = g.world;
        between = g.between;
        plan = stays_on bounds.until p.world (drained e.world) (go (further e p)).last.world
            (stays_on bounds.until p.world e.world (drained e.world) k.plan (d.plan bounds.until)) g.plan;
        entries = λ few. g.entries (omega (arith, few, apart));
        further = omega (arith, most);
      }

  next_settles_play : (left : ℕ) (go : Progress X → Played X) → Goes left go → (b : Option (Begun X)) (p : Progress X) → p.entries ≢ bounds.entries
      → IsBetween p.world → IfSome b (λ b. IsEntered bounds.until p.world (entry_entered runner b)) → HasSettled bounds (suc left) p (next_entry runner b p go)
  next_settles_play left go goes None p apart between k = stays_played Done (suc left) p between
  next_settles_play left go goes (Some b) p apart between k =
      after_settles left go goes (entry_entered runner b) p apart k (entry_entered runner b).stopped refl

  turn_settled : (left : ℕ) (go : Progress X → Played X) → Goes left go → (is_full : Bool) (p : Progress X) → (p.entries == bounds.entries) ≡ is_full
      → IsBetween p.world → HasSettled bounds (suc left) p
      (if is_full then record { ending = full (begin bounds.until p.world); last = p } else next_entry runner (begin bounds.until p.world) p go)
  turn_settled left go goes true p same between = stays_played (full (begin bounds.until p.world)) (suc left) p between
  turn_settled left go goes false p same between = next_settles_play left go goes (begin bounds.until p.world) p (apart_of p.entries bounds.entries same)
      between (entry_settles laws runner keeps bounds.until take p.world between)

  pub play_settles : (left : ℕ) (p : Progress X) → IsBetween p.world → HasSettled bounds left p (plays runner bounds left p)
  play_settles zero p between = stays_played Paused zero p between
  play_settles (suc left) p between = turn_settled left (plays runner bounds left) (play_settles left) (p.entries == bounds.entries) p refl between

pub entries_settle : {X : Type 0} → AgendaLaws X → TakeKeeps X → EntriesSettle X
entries_settle laws take runner until w keeps between = entry_settles laws runner keeps until take w between

pub plays_settle : {X : Type 0} → AgendaLaws X → TakeKeeps X → PlaysSettle X
plays_settle laws take runner bounds left p keeps between = play_settles laws take runner keeps bounds left p between

-- ---- the world at the beginning

idle_queue : (X : Type 0) (n i : ℕ) → queue_in (slice_get (replicate n (idle {X = X})) i) ≡ record { actions = []; busy = false }
idle_queue X zero i = refl
idle_queue X (suc n) zero = refl
idle_queue X (suc n) (suc i) = idle_queue X n i

still_queue : {X : Type 0} (area : PlainArea) (random : List ℕ) (version o : ℕ) → queue_of o (still {X = X} area random version) ≡ record { actions = []; busy = false }
still_queue area random version zero = refl
still_queue area random version (suc i) = idle_queue _ (length area.objects) i

still_settled : {X : Type 0} (area : PlainArea) (random : List ℕ) (version o : ℕ) → IsSettled o (still {X = X} area random version)
still_settled area random version o =
    let q = still_queue area random version o in
    idle_settled o (still area random version) (ap (λ q. q.busy) q) (ap (λ q. q.actions) q) refl

planned_between : {X : Type 0} (laws : AgendaLaws X) (n : ℕ) (events : List Planned) (w : World X) → IsBetween w → count w ≡ n → w.clock ≡ 0
    → AllByRecursion (λ (p : Planned). p.object ≤ n) events → IsBetween (fold with_planned w events)
planned_between laws n [] w b objects clock all = b
planned_between laws n (p ∷ events) w b objects clock all =
    let placed = all.0 in
    let k : Kind _ = Event p.object p.script (pos 0) in
    let kept = post_kept laws p.due k w b.world (omega (arith, placed, objects)) (omega (arith, clock)) (λ o. refl) in
    planned_between laws n events (with_planned w p) (record { world = kept; settled = λ o. post_settled laws p.due k w (λ o. refl) o (b.settled o) })
    objects clock all.1

pub new_is_between : {X : Type 0} → AgendaLaws X → NewIsBetween X
new_is_between laws area random events version all = planned_between laws (length area.objects) events (still area random version)
    (record { world = still_kept area random version; settled = still_settled area random version }) refl refl all

-- ---- what the plan gives it

still_planned : {X : Type 0} (area : PlainArea) (random : List ℕ) (version time : ℕ) → IsPlanned area random version time 0 (still {X = X} area random version)
still_planned area random version time = record { clock = refl; tree = refl; version = refl; random = refl; next = refl; due = tt }

planned_more : {X : Type 0} (area : PlainArea) (random : List ℕ) (version time before : ℕ) (events : List Planned) (w : World X)
    → AllByRecursion (λ (p : Planned). p.due ≤ time) events → IsPlanned area random version time before w
    → IsPlanned area random version time (before + length events) (fold with_planned w events)
planned_more area random version time before [] w all is = subst (λ n. IsPlanned area random version time n w) (omega arith) is
planned_more area random version time before (p ∷ events) w all is =
    subst (λ n. IsPlanned area random version time n (fold with_planned (with_planned w p) events)) (omega arith)
    (planned_more area random version time (before + 1) events (with_planned w p) all.1 (record {
      clock = is.clock;
      tree = is.tree;
      version = is.version;
      random = is.random;
      next = let n = is.next in omega (arith, n);
      due = all_put (λ (e : Entry _). e.due ≤ time) (record { due = p.due; number = w.agenda.next; kind = Event p.object p.script (pos 0) }) w.agenda.entries all.0 is.due;
    }))

pub new_is_planned : {X : Type 0} → NewIsPlanned X
new_is_planned {X = X} area random events version time all =
    subst (λ n. IsPlanned {X = X} area random version time n (new_world area random events version)) (zero-add (length events))
    (planned_more area random version time 0 events (still area random version) all (still_planned area random version time))
