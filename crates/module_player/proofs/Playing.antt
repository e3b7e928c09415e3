-- A play, turn by turn.
use Rattle.std.proofs.Common.{arith, ◌≡◌, ◌≢◌, ◌≤◌, ◌<◌, ◌+◌, ◌-◌, ◌*◌, ℕ, zero, suc, Bool, true, false, List, [], ◌∷◌, ◌++◌, Option, None, Some, ⊎_elim, sym, subst, ap, ◌∙◌, refl, append_assoc}
use Rattle.std.specs.Prelude.{◌^◌, ◌==◌, IsTrue, if◌then◌else◌}
use Rattle.std.proofs.lemmas.Grind.{flat_map-append}
use Rattle.std.proofs.Math.Dec.{leb}
use Rattle.std.proofs.lemmas.Bool.{eq-eqb, le-leb}
use Rattle.std.proofs.lemmas.Bool.Decides.{eqb_tells, leb_tells}
use Rattle.delay_agenda.specs.declared.entry.Entry.{Entry}
use Rattle.delay_agenda.specs.Order.{first_due}
use Rattle.nwq_outside.specs.Outside.{Rises, TookPrefix}
use Rattle.nwq_value.specs.Limits.{entry_limit, instruction_limit}
use Rattle.saved_state.specs.declared.saved.Saved.{Saved}
use Rattle.world_rules.specs.declared.data.Line.{Line}
use Rattle.world_rules.specs.Trace.{line_text, trace_text}
use Rattle.world_rules.specs.Turns.{Begun, begin, entry_begun, drained, user_number, with_entries}
use Rattle.world_rules.specs.World.{World}
use Rattle.world_rules.specs.Plays as plays
use Rattle.world_rules.specs.Plays.{Runner, Bounds, Progress, Played, Entered, after_entry, entry_entered, full, further, next_entry, play_on, plays as plays_from}
use Rattle.ncs_machine.specs.Settings.{CodeSetting, FitIn, host_in}
use Rattle.module_player.specs.declared.turn.TurnOutcome.TheVariants.{Goes, Stops, Rests}
use Rattle.module_player.specs.declared.played.How.{How}
use Rattle.module_player.specs.declared.played.How.TheVariants as how
use Rattle.module_player.specs.declared.played.Played.{Played as Answer}
use Rattle.module_player.specs.Answers.{HasPlayed, IsLastEnd}
use Rattle.module_player.specs.Cuts.{IsCutAt, IsCutShort, cut_lines}
use Rattle.module_player.specs.CodePlays.{played_before, runner_in}
use Rattle.module_player.specs.Turns.{IsInside, IsTaken, Turns, lines_of}
use Rattle.module_player.proofs.Pausing.{further_on, paused}

-- ---- texts of traces

trace_append : (xs ys : List Line) → trace_text (xs ++ ys) ≡ trace_text xs ++ trace_text ys
unfolding trace_text
trace_append xs ys = flat_map-append line_text xs ys

-- ---- a play's lines begin with those that it has told

record Extends (xs ys : List Line) : Type 0 where
  rest : List Line
  parts : ys ≡ xs ++ rest

appended_nothing : (xs : List Line) → xs ≡ xs ++ []
appended_nothing [] = refl
appended_nothing (x ∷ xs) = ap (λ ys. x ∷ ys) (appended_nothing xs)

extends_same : (xs : List Line) → Extends xs xs
extends_same xs = record { rest = []; parts = appended_nothing xs }

extends_on : (xs ys zs : List Line) → Extends (xs ++ ys) zs → Extends xs zs
extends_on xs ys zs h = record { rest = ys ++ h.rest; parts = h.parts ∙ append_assoc xs ys h.rest }

module _ (runner : Runner Saved) (bounds : Bounds) where
  abbrev Grows : (Progress Saved → Played Saved) → Type 0
  Grows go = (p : Progress Saved) → Extends p.trace (go p).last.trace

  after_grows : (stopped : Bool) (p : Progress Saved) (go : Progress Saved → Played Saved) → Grows go → Extends p.trace (after_entry stopped p go).last.trace
  after_grows true p go grows = extends_same p.trace
  after_grows false p go grows = grows p

  next_grows : (b : Option (Begun Saved)) (p : Progress Saved) (go : Progress Saved → Played Saved) → Grows go
      → Extends (p.trace ++ lines_of runner b) (next_entry runner b p go).last.trace
  next_grows None p go grows = record { rest = []; parts = appended_nothing p.trace ∙ appended_nothing (p.trace ++ []) }
  next_grows (Some b) p go grows = after_grows (entry_entered runner b).stopped (further (entry_entered runner b) p) go grows

  turn_grows : (is_full : Bool) (e : plays.PlayEnd) (b : Option (Begun Saved)) (p : Progress Saved) (go : Progress Saved → Played Saved) → Grows go
      → Extends p.trace (if is_full then record { ending = e; last = p } else next_entry runner b p go).last.trace
  turn_grows true e b p go grows = extends_same p.trace
  turn_grows false e b p go grows = extends_on p.trace (lines_of runner b) _ (next_grows b p go grows)

  plays_grow : (n : ℕ) → Grows (plays_from runner bounds n)
  plays_grow zero p = extends_same p.trace
  plays_grow (suc n) p = turn_grows (p.entries == bounds.entries) (full (begin bounds.until p.world)) (begin bounds.until p.world) p (plays_from runner bounds n) (plays_grow n)

-- ---- what was played so far

pub record SoFar (s : CodeSetting) (limit : ℕ) (bounds : Bounds) (first : Progress Saved) (tells : Bool) (t0 t : List ℕ) (f0 f number count : ℕ) (w : World Saved) : Type 0 where
  pub lines : List Line
  pub same : plays_from (runner_in s limit) bounds (bounds.stop - number) (record { entries = number; count = count; trace = lines; world = w }) ≡ play_on (runner_in s limit) bounds first
  pub text : IsTrue tells → t ≡ t0 ++ trace_text lines
  pub faults : f ≡ f0
  pub fit : FitIn s w
  pub quiet : w.trace ≡ []
  pub within : number ≤ bounds.entries
  pub next : w.agenda.next ≤ 2 ^ 61 + number * 33554432
  pub total : count ≤ 2 ^ 61 + number * 33554432
  pub posted : w.agenda.next ≤ first.world.agenda.next + number * 33554432
  pub executed : count ≤ first.count + number * 33554432
  pub from : first.entries ≤ number
  -- the play that is broken off here
  pub finished : (stop : ℕ) → plays_from (runner_in s limit) (record { entries = bounds.entries; until = bounds.until; stop = stop }) (number - first.entries) first
      ≡ paused (record { entries = number; count = count; trace = lines; world = w })

module _ (s : CodeSetting) (limit : ℕ) (bounds : Bounds) (first : Progress Saved) where
  abbrev Run : Runner Saved
  Run = runner_in s limit

  abbrev Whole : Played Saved
  Whole = play_on (runner_in s limit) bounds first

  abbrev at_place : ℕ → ℕ → List Line → World Saved → Progress Saved
  at_place number count lines w = record { entries = number; count = count; trace = lines; world = w }

  abbrev Sofar : Bool → List ℕ → List ℕ → ℕ → ℕ → ℕ → ℕ → World Saved → Type 0
  Sofar tells t0 t f0 f number count w = SoFar s limit bounds first tells t0 t f0 f number count w

  abbrev Ends : Answer → Bool → List ℕ → List ℕ → ℕ → ℕ → World Saved → Type 0
  Ends answer tells t0 t f0 f v = HasPlayed s answer first (play_on (runner_in s limit) bounds first) tells t0 t f0 f v

  one_more : (number : ℕ) → number < bounds.stop → bounds.stop - number ≡ suc (bounds.stop - (number + 1))
  one_more number less = omega (arith, less)

  -- the play from a place at which a further entry may be taken
  unrolled : (number count : ℕ) (lines : List Line) (w : World Saved) → number < bounds.stop
      → plays_from (runner_in s limit) bounds (bounds.stop - number) (at_place number count lines w)
      ≡ (if number == bounds.entries then record { ending = full (begin bounds.until w); last = at_place number count lines w }
      else next_entry (runner_in s limit) (begin bounds.until w) (at_place number count lines w) (plays_from (runner_in s limit) bounds (bounds.stop - (number + 1))))
  unrolled number count lines w less = ap (λ n. plays_from (runner_in s limit) bounds n (at_place number count lines w)) (one_more number less)

  not_equal : (a b : ℕ) → a ≢ b → (a == b) ≡ false
  not_equal a b apart = ⊎_elim (λ h. absurd (apart h.1)) (λ h. h.0) (eqb_tells a b)

  goes_from : (number count : ℕ) (lines : List Line) (w : World Saved) → number < bounds.stop → number ≢ bounds.entries
      → plays_from (runner_in s limit) bounds (bounds.stop - number) (at_place number count lines w)
      ≡ next_entry (runner_in s limit) (begin bounds.until w) (at_place number count lines w) (plays_from (runner_in s limit) bounds (bounds.stop - (number + 1)))
  goes_from number count lines w less apart =
      unrolled number count lines w less
      ∙ ap (λ b. if b then record { ending = full (begin bounds.until w); last = at_place number count lines w }
      else next_entry (runner_in s limit) (begin bounds.until w) (at_place number count lines w) (plays_from (runner_in s limit) bounds (bounds.stop - (number + 1))))
      (not_equal number bounds.entries apart)

  full_from : (number count : ℕ) (lines : List Line) (w : World Saved) → number < bounds.stop → number ≡ bounds.entries
      → plays_from (runner_in s limit) bounds (bounds.stop - number) (at_place number count lines w)
      ≡ record { ending = full (begin bounds.until w); last = at_place number count lines w }
  full_from number count lines w less same =
      unrolled number count lines w less
      ∙ ap (λ b. if b then record { ending = full (begin bounds.until w); last = at_place number count lines w }
      else next_entry (runner_in s limit) (begin bounds.until w) (at_place number count lines w) (plays_from (runner_in s limit) bounds (bounds.stop - (number + 1))))
      (eq-eqb number bounds.entries same)

  -- ---- a turn

  taken_is : (stopped : Bool) (n : ℕ) (e : Entered Saved) (p : Progress Saved) (v : World Saved) → IsTaken stopped n e v
      → further e p ≡ record { entries = p.entries + 1; count = p.count + n; trace = p.trace ++ e.world.trace; world = v }
  taken_is stopped n e p v h =
      ap (λ m. record { entries = p.entries + 1; count = p.count + m; trace = p.trace ++ e.world.trace; world = drained e.world }) h.count
      ∙ ap (λ x. record { entries = p.entries + 1; count = p.count + n; trace = p.trace ++ e.world.trace; world = x }) (sym h.world)

  abbrev gone : Progress Saved → ℕ → List Line → World Saved → Progress Saved
  gone p n lines v = record { entries = p.entries + 1; count = p.count + n; trace = p.trace ++ lines; world = v }

  next_goes : (n : ℕ) (b : Option (Begun Saved)) (p : Progress Saved) (w v : World Saved) (go : Progress Saved → Played Saved)
      → Turns (Goes n) s limit (runner_in s limit) b w v → next_entry (runner_in s limit) b p go ≡ go (gone p n (lines_of (runner_in s limit) b) v)
  next_goes n None p w v go h = absurd h
  next_goes n (Some b) p w v go h =
      ap (λ stopped. after_entry stopped (further (entry_entered (runner_in s limit) b) p) go) h.0.stopped ∙ ap go (taken_is false n (entry_entered (runner_in s limit) b) p v h.0)

  next_stops : (n : ℕ) (b : Option (Begun Saved)) (p : Progress Saved) (w v : World Saved) (go : Progress Saved → Played Saved)
      → Turns (Stops n) s limit (runner_in s limit) b w v
      → next_entry (runner_in s limit) b p go ≡ record { ending = plays.StoppedInside; last = gone p n (lines_of (runner_in s limit) b) v }
  next_stops n None p w v go h = absurd h
  next_stops n (Some b) p w v go h =
      ap (λ stopped. after_entry stopped (further (entry_entered (runner_in s limit) b) p) go) h.0.stopped
      ∙ ap (λ q. record { ending = plays.StoppedInside; last = q }) (taken_is true n (entry_entered (runner_in s limit) b) p v h.0)

  next_rests : (b : Option (Begun Saved)) (p : Progress Saved) (w v : World Saved) (go : Progress Saved → Played Saved)
      → Turns Rests s limit (runner_in s limit) b w v → (v ≡ w) × (next_entry (runner_in s limit) b p go ≡ record { ending = plays.Done; last = p })
  next_rests None p w v go h = (h, refl)
  next_rests (Some b) p w v go h = absurd h

  -- what a turn leaves
  record Leaves (n : ℕ) (w v : World Saved) : Type 0 where
    inside : IsInside s limit n w v
    quiet : v.trace ≡ []

  leaves : (n : ℕ) (stopped : Bool) (e : Entered Saved) (w v : World Saved) → IsTaken stopped n e v → IsInside s limit n w v → Leaves n w v
  leaves n stopped e w v h i = record { inside = i; quiet = ap (λ x. x.trace) h.world }

  goes_leaves : (n : ℕ) (b : Option (Begun Saved)) (w v : World Saved) → Turns (Goes n) s limit (runner_in s limit) b w v → Leaves n w v
  goes_leaves n None w v h = absurd h
  goes_leaves n (Some b) w v h = leaves n false (entry_entered (runner_in s limit) b) w v h.0 h.1

  stops_leaves : (n : ℕ) (b : Option (Begun Saved)) (w v : World Saved) → Turns (Stops n) s limit (runner_in s limit) b w v → Leaves n w v
  stops_leaves n None w v h = absurd h
  stops_leaves n (Some b) w v h = leaves n true (entry_entered (runner_in s limit) b) w v h.0 h.1

  text_on : (lines more : List Line) (t0 t t' : List ℕ) → t ≡ t0 ++ trace_text lines → t' ≡ t ++ trace_text more → t' ≡ t0 ++ trace_text (lines ++ more)
  text_on lines more t0 t t' a b =
      b ∙ ap (λ x. x ++ trace_text more) a ∙ append_assoc t0 (trace_text lines) (trace_text more) ∙ ap (λ x. t0 ++ x) (sym (trace_append lines more))

  one_since : (number from : ℕ) → from ≤ number → number + 1 - from ≡ suc (number - from)
  one_since number from less = omega (arith, less)

  -- one entry more is finished
  one_finished : (stop number count k n : ℕ) (w v : World Saved) (lines : List Line)
      → plays_from (runner_in s limit) (record { entries = bounds.entries; until = bounds.until; stop = stop }) k first ≡ paused (at_place number count lines w)
      → number ≢ bounds.entries → Turns (Goes n) s limit (runner_in s limit) (begin bounds.until w) w v
      → plays_from (runner_in s limit) (record { entries = bounds.entries; until = bounds.until; stop = stop }) (suc k) first
      ≡ paused (gone (at_place number count lines w) n (lines_of (runner_in s limit) (begin bounds.until w)) v)
  one_finished stop number count k n w v lines so_far apart h =
      further_on (runner_in s limit) (record { entries = bounds.entries; until = bounds.until; stop = stop }) (at_place number count lines w)
      (paused (gone (at_place number count lines w) n (lines_of (runner_in s limit) (begin bounds.until w)) v)) k first so_far
      (ap (λ b. if b then record { ending = full (begin bounds.until w); last = at_place number count lines w }
      else next_entry (runner_in s limit) (begin bounds.until w) (at_place number count lines w) paused) (not_equal number bounds.entries apart)
      ∙ next_goes n (begin bounds.until w) (at_place number count lines w) w v paused h)

  module _ (tells : Bool) (t0 t : List ℕ) (f0 f number count : ℕ) (w : World Saved) (x : SoFar s limit bounds first tells t0 t f0 f number count w) where
    whole_goes : number < bounds.stop → number ≢ bounds.entries
        → next_entry (runner_in s limit) (begin bounds.until w) (at_place number count x.lines w) (plays_from (runner_in s limit) bounds (bounds.stop - (number + 1))) ≡ Whole
    whole_goes less apart = sym (goes_from number count x.lines w less apart) ∙ x.same

    abbrev More : List Line
    More = lines_of (runner_in s limit) (begin bounds.until w)

    pub plays_go_on : (n : ℕ) (t' : List ℕ) (f' : ℕ) (v : World Saved) → number < bounds.stop → number ≢ bounds.entries → limit ≤ instruction_limit
        → Turns (Goes n) s limit (runner_in s limit) (begin bounds.until w) w v → (IsTrue tells → t' ≡ t ++ trace_text More) → f' ≡ f
        → Sofar tells t0 t' f0 f' (number + 1) (count + n) v
    plays_go_on n t' f' v less apart limited h told faults =
        let l = goes_leaves n (begin bounds.until w) w v h in
        record {
          lines = x.lines ++ More;
          same = sym (next_goes n (begin bounds.until w) (at_place number count x.lines w) w v (plays_from (runner_in s limit) bounds (bounds.stop - (number + 1))) h) ∙ whole_goes less apart;
          text = λ can. text_on x.lines More t0 t t' (x.text can) (told can);
          faults = faults ∙ x.faults;
          fit = l.inside.fit;
          quiet = l.quiet;
          within = let k = x.within in omega (arith, apart);
          next = let k = x.next in let m = l.inside.few in omega (arith, limited);
          total = let k = x.total in let m = l.inside.within in omega (arith, limited);
          posted = let k = x.posted in let m = l.inside.few in omega (arith, limited);
          executed = let k = x.executed in let m = l.inside.within in omega (arith, limited);
          from = let k = x.from in omega arith;
          finished = λ stop. ap (λ k. plays_from (runner_in s limit) (record { entries = bounds.entries; until = bounds.until; stop = stop }) k first)
              (let k = x.from in one_since number first.entries k) ∙ one_finished stop number count (number - first.entries) n w v x.lines (x.finished stop) apart h;
        }

    pub play_stops : (n : ℕ) (t' : List ℕ) (f' : ℕ) (v : World Saved) → number < bounds.stop → number ≢ bounds.entries → limit ≤ instruction_limit → bounds.entries ≤ entry_limit
        → Turns (Stops n) s limit (runner_in s limit) (begin bounds.until w) w v → (IsTrue tells → t' ≡ t ++ trace_text More) → f' ≡ f
        → Ends (record { how = how.InstrStop; entries = number + 1; instructions = count + n }) tells t0 t' f0 f' v
    play_stops n t' f' v less apart limited few h told faults =
        let l = stops_leaves n (begin bounds.until w) w v h in
        let is = sym (next_stops n (begin bounds.until w) (at_place number count x.lines w) w v (plays_from (runner_in s limit) bounds (bounds.stop - (number + 1))) h) ∙ whole_goes less apart in
        record {
          played = record {
            ending = sym (ap (λ q. q.ending) is);
            entries = ap (λ q. q.last.entries) is;
            instructions = ap (λ q. q.last.count) is;
            world = ap (λ q. q.last.world) is;
            fit = l.inside.fit;
            quiet = l.quiet;
            next = let a = x.within in let k = x.next in let m = l.inside.few in omega (arith, limited, few);
            posted = let a = x.within in let k = x.posted in let m = l.inside.few in omega (arith, limited, few);
            executed = let a = x.within in let k = x.executed in let m = l.inside.within in omega (arith, limited, few);
          };
          text = λ can. text_on x.lines More t0 t t' (x.text can) (told can) ∙ ap (λ q. t0 ++ trace_text q.last.trace) is;
          counts = faults ∙ x.faults;
        }

    pub play_rests : (t' : List ℕ) (f' : ℕ) (v : World Saved) → number < bounds.stop → number ≢ bounds.entries → bounds.entries ≤ entry_limit
        → Turns Rests s limit (runner_in s limit) (begin bounds.until w) w v → (IsTrue tells → t' ≡ t) → f' ≡ f
        → Ends (record { how = how.Done; entries = number; instructions = count }) tells t0 t' f0 f' v
    play_rests t' f' v less apart few h told faults =
        let r = next_rests (begin bounds.until w) (at_place number count x.lines w) w v (plays_from (runner_in s limit) bounds (bounds.stop - (number + 1))) h in
        let is = sym r.1 ∙ whole_goes less apart in
        record {
          played = record {
            ending = sym (ap (λ q. q.ending) is);
            entries = ap (λ q. q.last.entries) is;
            instructions = ap (λ q. q.last.count) is;
            world = r.0 ∙ ap (λ q. q.last.world) is;
            fit = subst (FitIn s) (sym r.0) x.fit;
            quiet = ap (λ y. y.trace) r.0 ∙ x.quiet;
            next = let a = x.within in let k = x.next in let m = ap (λ y. y.agenda.next) r.0 in omega (arith, few);
            posted = let a = x.within in let k = x.posted in let m = ap (λ y. y.agenda.next) r.0 in omega (arith, few);
            executed = let a = x.within in let k = x.executed in omega (arith, few);
          };
          text = λ can. told can ∙ x.text can ∙ ap (λ q. t0 ++ trace_text q.last.trace) is;
          counts = faults ∙ x.faults;
        }

    pub play_is_full : number < bounds.stop → number ≡ bounds.entries → bounds.entries ≤ entry_limit → full (begin bounds.until w) ≡ plays.OutOfEntries
        → Ends (record { how = how.EntryStop; entries = number; instructions = count }) tells t0 t f0 f w
    play_is_full less same few e =
        let is = sym (full_from number count x.lines w less same) ∙ x.same in
        record {
          played = record {
            ending = sym (ap (λ q. q.ending) is) ∙ e;
            entries = ap (λ q. q.last.entries) is;
            instructions = ap (λ q. q.last.count) is;
            world = ap (λ q. q.last.world) is;
            fit = x.fit;
            quiet = x.quiet;
            next = let a = x.within in let k = x.next in omega (arith, few);
            posted = let a = x.within in let k = x.posted in omega (arith, few);
            executed = let a = x.within in let k = x.executed in omega (arith, few);
          };
          text = λ can. x.text can ∙ ap (λ q. t0 ++ trace_text q.last.trace) is;
          counts = x.faults;
        }

    pub play_is_done : number < bounds.stop → number ≡ bounds.entries → bounds.entries ≤ entry_limit → full (begin bounds.until w) ≡ plays.Done
        → Ends (record { how = how.Done; entries = number; instructions = count }) tells t0 t f0 f w
    play_is_done less same few e =
        let is = sym (full_from number count x.lines w less same) ∙ x.same in
        record {
          played = record {
            ending = sym (ap (λ q. q.ending) is) ∙ e;
            entries = ap (λ q. q.last.entries) is;
            instructions = ap (λ q. q.last.count) is;
            world = ap (λ q. q.last.world) is;
            fit = x.fit;
            quiet = x.quiet;
            next = let a = x.within in let k = x.next in omega (arith, few);
            posted = let a = x.within in let k = x.posted in omega (arith, few);
            executed = let a = x.within in let k = x.executed in omega (arith, few);
          };
          text = λ can. x.text can ∙ ap (λ q. t0 ++ trace_text q.last.trace) is;
          counts = x.faults;
        }

    pub play_is_last : (h : How) → number < bounds.stop → number ≡ bounds.entries → bounds.entries ≤ entry_limit → IsLastEnd h (full (begin bounds.until w))
        → Ends (record { how = h; entries = number; instructions = count }) tells t0 t f0 f w
    play_is_last how.Done less same few e = play_is_done less same few e
    play_is_last how.EntryStop less same few e = play_is_full less same few e
    play_is_last how.InstrStop less same few e = absurd e
    play_is_last how.Pause less same few e = absurd e
    play_is_last how.Fault less same few e = absurd e
    play_is_last how.NoMemory less same few e = absurd e

    none_left : number ≡ bounds.stop → bounds.stop - number ≡ 0
    none_left same = omega (arith, same)

    pub play_pauses : number ≡ bounds.stop → bounds.entries ≤ entry_limit
        → Ends (record { how = how.Pause; entries = number; instructions = count }) tells t0 t f0 f w
    play_pauses same few =
        let is = sym (ap (λ n. plays_from (runner_in s limit) bounds n (at_place number count x.lines w)) (none_left same)) ∙ x.same in
        record {
          played = record {
            ending = sym (ap (λ q. q.ending) is);
            entries = ap (λ q. q.last.entries) is;
            instructions = ap (λ q. q.last.count) is;
            world = ap (λ q. q.last.world) is;
            fit = x.fit;
            quiet = x.quiet;
            next = let a = x.within in let k = x.next in omega (arith, few);
            posted = let a = x.within in let k = x.posted in omega (arith, few);
            executed = let a = x.within in let k = x.executed in omega (arith, few);
          };
          text = λ can. x.text can ∙ ap (λ q. t0 ++ trace_text q.last.trace) is;
          counts = x.faults;
        }

    cut_text : (t' : List ℕ) → number < bounds.stop → number ≢ bounds.entries → t ≡ t0 ++ trace_text x.lines → TookPrefix (trace_text More) t t' → TookPrefix (trace_text Whole.last.trace) t0 t'
    cut_text t' less apart before h =
        let grown = subst (λ (q : Played Saved). Extends (x.lines ++ More) q.last.trace) (whole_goes less apart)
        (next_grows (runner_in s limit) bounds (begin bounds.until w) (at_place number count x.lines w) (plays_from (runner_in s limit) bounds (bounds.stop - (number + 1)))
        (plays_grow (runner_in s limit) bounds (bounds.stop - (number + 1)))) in
        record {
          prefix = trace_text x.lines ++ h.prefix;
          rest = h.rest ++ trace_text grown.rest;
          parts =
              ap trace_text grown.parts ∙ trace_append (x.lines ++ More) grown.rest ∙ ap (λ y. y ++ trace_text grown.rest) (trace_append x.lines More ∙ ap (λ y. trace_text x.lines ++ y) h.parts)
              ∙ regroup (trace_text x.lines) h.prefix h.rest (trace_text grown.rest);
          taken = h.taken ∙ ap (λ y. y ++ h.prefix) before ∙ append_assoc t0 (trace_text x.lines) h.prefix;
        }
      where
        regroup : (a b c d : List ℕ) → (a ++ (b ++ c)) ++ d ≡ (a ++ b) ++ (c ++ d)
        regroup a b c d = append_assoc a (b ++ c) d ∙ ap (λ y. a ++ y) (append_assoc b c d) ∙ sym (append_assoc a b (c ++ d))

    pub play_fails : (entries instructions : ℕ) (t' : List ℕ) (f' : ℕ) (v : World Saved) → number < bounds.stop → number ≢ bounds.entries
        → (IsTrue tells → TookPrefix (trace_text More) t t') → Rises f f'
        → Ends (record { how = how.Fault; entries = entries; instructions = instructions }) tells t0 t' f0 f' v
    play_fails entries instructions t' f' v less apart told faults = record {
      played = record { ending = tt; entries = tt; instructions = tt; world = tt; fit = tt; quiet = tt; next = tt; posted = tt; executed = tt };
      text = λ can. cut_text t' less apart (x.text can) (told can);
      counts = subst (λ y. Rises y f') x.faults faults;
    }

    pub play_runs_out : (entries instructions : ℕ) (t' : List ℕ) (f' : ℕ) (v : World Saved) → number < bounds.stop → number ≢ bounds.entries
        → (IsTrue tells → TookPrefix (trace_text More) t t') → f' ≡ f
        → Ends (record { how = how.NoMemory; entries = entries; instructions = instructions }) tells t0 t' f0 f' v
    play_runs_out entries instructions t' f' v less apart told faults = record {
      played = record { ending = tt; entries = tt; instructions = tt; world = tt; fit = tt; quiet = tt; next = tt; posted = tt; executed = tt };
      text = λ can. cut_text t' less apart (x.text can) (told can);
      counts = faults ∙ x.faults;
    }

    -- where it is cut short: the entries so far are finished
    pub cut_short : (v : World Saved) → IsCutAt (host_in s) limit (begin bounds.until w) w v
        → IsCutShort (host_in s) limit bounds.until (play_on (runner_in s limit) (record { entries = bounds.entries; until = bounds.until; stop = number }) first) number count v
    cut_short v c =
        let is = sym (x.finished number) in
        record {
          ending = sym (ap (λ (q : Played Saved). q.ending) is);
          entries = ap (λ (q : Played Saved). q.last.entries) is;
          instructions = ap (λ (q : Played Saved). q.last.count) is;
          world = subst (λ (q : Played Saved). IsCutAt (host_in s) limit (begin bounds.until q.last.world) q.last.world v) is c;
        }

    -- and their lines are told, and a prefix of the next one's
    pub cut_told : (t' : List ℕ) → (IsTrue tells → TookPrefix (trace_text More) t t') → IsTrue tells
        → TookPrefix (cut_lines (host_in s) limit bounds.until (play_on (runner_in s limit) (record { entries = bounds.entries; until = bounds.until; stop = number }) first))
        (t0 ++ trace_text (play_on (runner_in s limit) (record { entries = bounds.entries; until = bounds.until; stop = number }) first).last.trace) t'
    cut_told t' told can =
        let is = sym (x.finished number) in
        subst (λ (q : Played Saved). TookPrefix (cut_lines (host_in s) limit bounds.until q) (t0 ++ trace_text q.last.trace) t') is
        (subst (λ y. TookPrefix (trace_text More) y t') (x.text can) (told can))

pub play_begins : (s : CodeSetting) (limit : ℕ) (bounds : Bounds) (taken done : ℕ) (w : World Saved) (tells : Bool) (t : List ℕ) (f : ℕ)
    → FitIn s w → w.trace ≡ [] → taken ≤ bounds.entries → w.agenda.next < 2 ^ 61 → done < 2 ^ 61
    → SoFar s limit bounds (played_before taken done w) tells t t f f taken done w
unfolding trace_text
play_begins s limit bounds taken done w tells t f fit quiet within next total = record {
  lines = [];
  same = refl;
  text = λ can. empty_text t;
  faults = refl;
  fit = fit;
  quiet = quiet;
  within = within;
  next = omega (arith, next);
  total = omega (arith, total);
  posted = omega arith;
  executed = omega arith;
  from = omega arith;
  finished = λ stop. ap (λ k. plays_from (runner_in s limit) (record { entries = bounds.entries; until = bounds.until; stop = stop }) k (played_before taken done w)) (none_since taken);
}
  where
    none_since : (n : ℕ) → n - n ≡ 0
    none_since n = omega arith

    none : (xs : List ℕ) → xs ≡ xs ++ []
    none [] = refl
    none (x ∷ xs) = ap (λ ys. x ∷ ys) (none xs)

    empty_text : (xs : List ℕ) → xs ≡ xs ++ trace_text []
    empty_text xs = none xs

-- ---- whether an entry is due

due_none : (until : ℕ) (es : List (Entry Saved)) (w : World Saved) → first_due es ≡ None → full (entry_begun until es w) ≡ plays.Done
due_none until [] w none = refl
due_none until (e ∷ es) w none = absurd cc

pub none_due : (until : ℕ) (w : World Saved) → first_due w.agenda.entries ≡ None → full (begin until w) ≡ plays.Done
none_due until w none = due_none until w.agenda.entries w none

abbrev the_first : Entry Saved → List (Entry Saved) → World Saved → Begun Saved
the_first e es w = record { entry = e; world = record (with_entries es w) { clock = e.due; user = user_number e.kind } }

due_now : (until due : ℕ) (es : List (Entry Saved)) (w : World Saved) → first_due es ≡ Some due → due ≤ until → full (entry_begun until es w) ≡ plays.OutOfEntries
due_now until due [] w is less = absurd cc
due_now until due (e ∷ es) w is less =
    let same : e.due ≡ due = cc in
    ap (λ b. full (if b then Some (the_first e es w) else None)) (le-leb e.due until (omega (arith, same, less)))

pub one_due : (until due : ℕ) (w : World Saved) → first_due w.agenda.entries ≡ Some due → due ≤ until → full (begin until w) ≡ plays.OutOfEntries
one_due until due w is less = due_now until due w.agenda.entries w is less

due_later : (until due : ℕ) (es : List (Entry Saved)) (w : World Saved) → first_due es ≡ Some due → until < due → full (entry_begun until es w) ≡ plays.Done
due_later until due [] w is less = absurd cc
due_later until due (e ∷ es) w is less =
    let same : e.due ≡ due = cc in
    let late : until < e.due = omega (arith, same, less) in
    ap (λ b. full (if b then Some (the_first e es w) else None))
    (⊎_elim (λ (h : (leb e.due until ≡ true) × (e.due ≤ until)). absurd (omega (arith, h.1, late))) (λ h. h.0) (leb_tells e.due until))

pub one_later : (until due : ℕ) (w : World Saved) → first_due w.agenda.entries ≡ Some due → until < due → full (begin until w) ≡ plays.Done
one_later until due w is less = due_later until due w.agenda.entries w is less

pub ruleset play_lemmas = (play_begins, plays_go_on, play_stops, play_rests, play_is_last, play_pauses, play_fails, play_runs_out, cut_short, cut_told)

pub ruleset due_lemmas = (none_due, one_due, one_later)
