-- What is kept where a shape is reached that every table has.
use Rattle.std.proofs.Common.{arith, ◌≡◌, ◌≤◌, ◌+◌, ℕ, List, length, map, [], ◌∷◌, ◌++◌, inl, inr, ◌⊎◌, sym, subst, ◌∙◌, ap, refl, Some, slice_get}
use Rattle.std.specs.Prelude.{Result, Ok, Err, IfOk, Contains}
use Rattle.std.proofs.lemmas.List.{length-append, length-map}
use Rattle.std.proofs.lemmas.List.Elements.{Contains-append_left}
use Rattle.nwq_value.specs.Engine.{EngineTable}
use Rattle.ncs_code.specs.Plain.{PlainOp}
use Rattle.stack_shape.specs.Stored.{TopShape}
use Rattle.stack_lists.specs.declared.held.Held.{Held}
use Rattle.stack_lists.specs.declared.held.Heap.{Heap}
use Rattle.stack_check.specs.declared.facts.Facts.{Facts}
use Rattle.stack_check.specs.declared.facts.Trial.{Trial}
use Rattle.stack_shape.specs.declared.shape.Entry.{Entry}
use Rattle.stack_shape.specs.declared.shape.Entry.TheVariants.{Start, Called, Stored}
use Rattle.stack_check.specs.declared.seen.Seen.{Seen}
use Rattle.stack_check.specs.declared.seen.Seen.TheVariants.{Quiet, Changed, Bad}
use Rattle.stack_check.specs.declared.leads.Lead.TheVariants.{One, Two}
use Rattle.stack_lists.specs.Held.{IsIn, shape_of}
use Rattle.stack_lists.specs.Rows.{row_in}
use Rattle.stack_lists.specs.declared.todo.Again.{Again}
use Rattle.stack_lists.specs.declared.todo.Call.{Call}
use Rattle.stack_lists.specs.declared.todo.Spot.{Spot}
use Rattle.stack_lists.specs.Worklist.{CallKept, CallersAdded, SameCalls, Worklist, calls_of, spot_of, stands_at, waiting}
use Rattle.stack_check.specs.Inference.{Adds, AddsCalls, CallsAgain, CallsOfWait, CallsWait, IsKept, Keeps, NothingNew, Visited, WhereQuiet, Owed, RowIs, Reached, RowsKept, Takes, AllLed}
use Rattle.stack_check.specs.Inference.{after_change}
use Rattle.stack_check.specs.Facts.{FindsMore}
use Rattle.stack_check.proofs.Left.{more_row}
use Rattle.stack_check.proofs.Steps.{step_kept}
use Rattle.stack_check.proofs.Keeping.{keeps_row, never_other}

pub reached_keeps : (header : EngineTable) (code : List PlainOp) (heap : Heap) (before after : Facts) (n p : ℕ) (held : Held) (seen : Seen)
    → Keeps header code heap before → Owed header code heap before n p held → IsIn heap held → Reached heap before after n p held seen
    → Visited header code heap after seen
reached_keeps header code heap before after n p held Quiet k o i r = subst (λ facts. Keeps header code heap facts) (sym r.0) k
reached_keeps header code heap before after n p held Changed k o i r = keeps_row header code heap before after n p held k r.0 r.1 i o
reached_keeps header code heap before after n p held Bad k o i r = λ w. never_other header code heap before n p held r.1.0 w.0 w.1 k r.1.1 o r.0

-- (a bad shape changes nothing either)
pub reached_kept : (heap : Heap) (before after : Facts) (n p : ℕ) (held : Held) (seen : Seen) → Reached heap before after n p held seen → RowsKept before after
reached_kept heap before after n p held Quiet r =
    record { by = λ t q h e. ap (λ (f : Facts). row_in f.rows t q) r.0 ∙ e; trials = ap (λ (f : Facts). f.trials) r.0 }
reached_kept heap before after n p held Changed r = record { by = λ t q h e. r.0.kept t q h e; trials = ap (λ (f : Facts). f.trials) r.1 }
reached_kept heap before after n p held Bad r =
    record { by = λ t q h e. ap (λ (f : Facts). row_in f.rows t q) r.2 ∙ e; trials = ap (λ (f : Facts). f.trials) r.2 }

-- a row more leaves less to be found
pub reached_takes : (heap : Heap) (before after : Facts) (n p : ℕ) (held : Held) (seen : Seen) → Reached heap before after n p held seen → Takes before after seen
reached_takes heap before after n p held Quiet r = tt
reached_takes heap before after n p held Changed r = more_row before after r.0.more r.0.room (ap (λ (f : Facts). f.trials) r.1)
reached_takes heap before after n p held Bad r = tt

pub reached_quiet : (heap : Heap) (before after : Facts) (n p : ℕ) (held : Held) (seen : Seen) → Reached heap before after n p held seen
    → WhereQuiet seen ((after ≡ before) × RowIs heap before n p (shape_of heap held))
reached_quiet heap before after n p held Quiet r = r
reached_quiet heap before after n p held Changed r = tt
reached_quiet heap before after n p held Bad r = tt

pub ruleset following = (reached_keeps, reached_kept, reached_takes, reached_quiet)

-- ---- one place or two

pub one_led : (heap : Heap) (before after : Facts) (n t : ℕ) (shape : TopShape) (seen : Seen) → WhereQuiet seen ((after ≡ before) × RowIs heap before n t shape)
    → WhereQuiet seen ((after ≡ before) × AllLed heap before n (One t) shape)
one_led heap before after n t shape Quiet q = (q.0, record { by = λ p e. subst (λ p. RowIs heap before n p shape) (sym e) q.1 })
one_led heap before after n t shape Changed q = tt
one_led heap before after n t shape Bad q = tt

pub two_led : (heap : Heap) (before mid after : Facts) (n t u : ℕ) (shape : TopShape) → (mid ≡ before) × RowIs heap before n t shape
    → (after ≡ mid) × RowIs heap mid n u shape → (after ≡ before) × AllLed heap before n (Two t u) shape
two_led heap before mid after n t u shape q r = (r.0 ∙ q.0, record { by = λ p e. led p e })
  where
    led : (p : ℕ) → (p ≡ t) ⊎ (p ≡ u) → RowIs heap before n p shape
    led p (inl e) = subst (λ p. RowIs heap before n p shape) (sym e) q.1
    led p (inr e) = subst (λ p. RowIs heap before n p shape) (sym e) (subst (λ f. RowIs heap f n u shape) q.0 r.1)

pub kept_then : (a b c : Facts) → RowsKept a b → RowsKept b c → RowsKept a c
kept_then a b c g h = record { by = λ t p x e. h.by t p x (g.by t p x e); trials = h.trials ∙ g.trials }

-- what is found behind a visit that found nothing
pub takes_next : (before mid after : Facts) (seen : Seen) → mid ≡ before → Takes mid after seen → Takes before after seen
takes_next before mid after seen e t = subst (λ f. Takes f after seen) e t

-- and behind one that found something
pub takes_both : (P : Type 0) (before mid after : Facts) (seen now : Seen) → FindsMore before mid → Takes mid after seen → WhereQuiet seen ((after ≡ mid) × P)
    → now ≡ after_change seen → Takes before after now
takes_both P before mid after seen now l t q e = subst (λ s. Takes before after s) (sym e) (both seen t q)
  where
    both : (seen : Seen) → Takes mid after seen → WhereQuiet seen ((after ≡ mid) × P) → Takes before after (after_change seen)
    both Quiet t q = subst (λ f. FindsMore before f) (sym q.0) l
    both Changed t q = record { left = omega (arith, l.left, t.left); found = omega (arith, l.found, t.found); rows = omega (arith, l.rows, t.rows) }
    both Bad t q = tt

pub changed_keeps : (header : EngineTable) (code : List PlainOp) (heap : Heap) (after : Facts) (seen now : Seen) → now ≡ after_change seen
    → Visited header code heap after seen → Visited header code heap after now
changed_keeps header code heap after seen now e v = subst (λ s. Visited header code heap after s) (sym e) (kept seen v)
  where
    kept : (seen : Seen) → Visited header code heap after seen → Visited header code heap after (after_change seen)
    kept Quiet v = v
    kept Changed v = v
    kept Bad v = v

pub changed_quiet : (seen now : Seen) (P : Type 0) → now ≡ after_change seen → WhereQuiet now P
changed_quiet seen now P e = subst (λ s. WhereQuiet s P) (sym e) (quiet seen)
  where
    quiet : (seen : Seen) → WhereQuiet (after_change seen) P
    quiet Quiet = tt
    quiet Changed = tt
    quiet Bad = tt

pub two_quiet : (heap : Heap) (before mid after : Facts) (n t u : ℕ) (shape : TopShape) (seen : Seen) → (mid ≡ before) × RowIs heap before n t shape
    → WhereQuiet seen ((after ≡ mid) × RowIs heap mid n u shape) → WhereQuiet seen ((after ≡ before) × AllLed heap before n (Two t u) shape)
two_quiet heap before mid after n t u shape Quiet q r = two_led heap before mid after n t u shape q r
two_quiet heap before mid after n t u shape Changed q r = tt
two_quiet heap before mid after n t u shape Bad q r = tt

pub ruleset leading = (kept_then, one_led, two_quiet, changed_keeps, changed_quiet, step_kept, takes_next)

-- ---- what is handed in

pub waits_then : (a b c : Worklist) (first seen : Seen) → NothingNew a b first → first ≡ Quiet → NothingNew b c seen → NothingNew a c seen
waits_then a b c first seen h e k = on seen (subst (λ s. NothingNew a b s) e h) k
  where
    on : (seen : Seen) → waiting b ≡ waiting a → NothingNew b c seen → NothingNew a c seen
    on Quiet h k = k ∙ h
    on Changed h k = tt
    on Bad h k = tt

pub waits_same : (a b c : Worklist) (seen : Seen) → waiting b ≡ waiting a → NothingNew b c seen → NothingNew a c seen
waits_same a b c Quiet h k = k ∙ h
waits_same a b c Changed h k = tt
waits_same a b c Bad h k = tt

pub waits_both : (a b c : Worklist) (seen : Seen) → NothingNew a b seen → NothingNew b c seen → NothingNew a c seen
waits_both a b c Quiet h k = k ∙ h
waits_both a b c Changed h k = tt
waits_both a b c Bad h k = tt

pub waits_changed : (a b : Worklist) (seen now : Seen) → now ≡ after_change seen → NothingNew a b now
waits_changed a b Quiet now e = subst (λ s. NothingNew a b s) (sym e) tt
waits_changed a b Changed now e = subst (λ s. NothingNew a b s) (sym e) tt
waits_changed a b Bad now e = subst (λ s. NothingNew a b s) (sym e) tt

pub waits_from : (a b c : Worklist) (seen : Seen) → b ≡ a → NothingNew b c seen → NothingNew a c seen
waits_from a b c seen e k = waits_same a b c seen (ap (λ (w : Worklist). waiting w) e) k

pub waits_none : (a : Worklist) (seen : Seen) → NothingNew a a seen
waits_none a Quiet = refl
waits_none a Changed = tt
waits_none a Bad = tt

pub waits_found : (a b : Worklist) (seen : Seen) → seen ≡ Changed → NothingNew a b seen
waits_found a b seen e = subst (λ s. NothingNew a b s) (sym e) tt

pub waits_weaker : {E : Type 0} (a b c : Worklist) (r : Result Seen E) → waiting b ≡ waiting a → IfOk r (λ seen. NothingNew b c seen)
    → IfOk r (λ seen. NothingNew a c seen)
waits_weaker a b c (Ok seen) h k = waits_same a b c seen h k
waits_weaker a b c (Err e) h k = tt

pub waits_after : (a b c : Worklist) (seen : Seen) → NothingNew a b seen → waiting c ≡ waiting b → NothingNew a c seen
waits_after a b c Quiet k h = h ∙ k
waits_after a b c Changed k h = tt
waits_after a b c Bad k h = tt

pub kept_of : (a b : Worklist) (row target : ℕ) (spot : Spot) → CallKept a b row (record { spot = spot; target = target }) → IsKept b target spot
kept_of a b row target spot k = k.here

waiting_length : (w : Worklist) → length (waiting w) ≡ length w.later + length w.soon + length w.first
waiting_length w =
    let x = length-append (map spot_of (w.later ++ w.soon)) w.first in
    let y = length-map (w.later ++ w.soon) spot_of in
    let z = length-append w.later w.soon in
    omega (arith, x, y, z)

-- the routine's calls wait
wait_again : (a mid b : Worklist) (entry : Entry) → SameCalls a mid → CallsAgain mid b entry → CallsWait a b entry
wait_again a mid b Start s again = tt
wait_again a mid b (Called target) s again = λ call i. again.all call (subst (λ z. Contains z call) (sym (s.by target)) i)
wait_again a mid b (Stored site) s again = tt

pub calls_wait : (a mid b : Worklist) (facts : Facts) (number : ℕ) (trial : Trial) → slice_get facts.trials number ≡ Some trial
    → SameCalls a mid → CallsAgain mid b trial.entry → CallsOfWait a b facts number
calls_wait a mid b facts number trial h s again = record { trial = trial; has = h; by = wait_again a mid b trial.entry s again }

-- ---- how many are handed in

pub adds_none : (a : Worklist) (n : ℕ) → Adds a a n
adds_none a n = record { few = omega arith; longer = omega arith }

pub adds_spot : (a b : Worklist) (spot : Spot) (n : ℕ) → waiting b ≡ waiting a ++ spot ∷ [] → SameCalls a b → 1 ≤ n → Adds a b n
adds_spot a b spot n w s l = record {
  few = let x = ap (λ (z : List Spot). length z) w ∙ length-append (waiting a) (spot ∷ []) in omega (arith, x, l);
  longer = let c = s.count in omega (arith, c);
}

pub adds_then : (a b c : Worklist) (m n : ℕ) → Adds a b m → Adds b c n → Adds a c (m + n)
adds_then a b c m n h k = record { few = omega (arith, h.few, k.few); longer = omega (arith, h.longer, k.longer) }

pub adds_two : (a b c : Worklist) → Adds a b 1 → Adds b c 1 → Adds a c 2
adds_two a b c h k = adds_then a b c 1 1 h k

pub adds_up : (a b : Worklist) (n : ℕ) → Adds a b 1 → 1 ≤ n → Adds a b n
adds_up a b n h l = record { few = omega (arith, h.few, l); longer = h.longer }

pub calls_of_spots : (a b : Worklist) (m n : ℕ) → Adds a b m → m ≤ n → AddsCalls a b n
calls_of_spots a b m n h l = record { few = omega (arith, h.few, l); longer = h.longer }

pub adds_calls_none : (a : Worklist) (n : ℕ) → AddsCalls a a n
adds_calls_none a n = record { few = omega arith; longer = omega arith }

pub adds_calls_up : (a b : Worklist) (m n : ℕ) → AddsCalls a b m → m ≤ n → AddsCalls a b n
adds_calls_up a b m n h l = record { few = omega (arith, h.few, l); longer = h.longer }

pub adds_calls_then : (a b c : Worklist) (m n : ℕ) → AddsCalls a b m → Adds b c n → AddsCalls a c (m + n)
adds_calls_then a b c m n h k = record { few = omega (arith, h.few, k.few, k.longer); longer = omega (arith, h.longer, k.longer) }

pub adds_calls_from : (a b c : Worklist) (m n : ℕ) → b ≡ a → Adds b c m → m ≤ n → AddsCalls a c n
adds_calls_from a b c m n e h l = calls_of_spots a c m n (subst (λ w. Adds w c m) e h) l

-- a call more is kept, and waits no more than before
pub adds_calls_kept : (a b c : Worklist) (row n : ℕ) (call : Call) → AddsCalls a b n → waiting c ≡ waiting b → CallKept b c row call → AddsCalls a c n
adds_calls_kept a b c row n call h w k = record {
  few = let x = ap (λ (z : List Spot). length z) w in omega (arith, x, h.few, k.longer);
  longer = omega (arith, h.longer, k.longer);
}

callers_few : (a b : Worklist) (target : ℕ) → CallersAdded a b target → AddsCalls a b 0
callers_few a b target k = record {
  few =
      let later = ap (λ (z : List Again). length z) k.later ∙ length-append a.later k.added in
      let soon = ap (λ (z : List Again). length z) k.soon in
      let first = ap (λ (z : List Spot). length z) k.first in
      let x = waiting_length a in
      let y = waiting_length b in
      omega (arith, later, soon, first, x, y, k.few, k.calls.count);
  longer = let c = k.calls.count in omega (arith, c);
}

again_few : (a b : Worklist) (entry : Entry) → CallsAgain a b entry → AddsCalls a b 0
again_few a b Start e = subst (λ w. AddsCalls a w 0) (sym e) (adds_calls_none a 0)
again_few a b (Called target) k = callers_few a b target k
again_few a b (Stored site) e = subst (λ w. AddsCalls a w 0) (sym e) (adds_calls_none a 0)

-- the calls of a routine are handed in
pub sees_few : (a mid b : Worklist) (entry : Entry) → waiting mid ≡ waiting a → SameCalls a mid → CallsAgain mid b entry → AddsCalls a b 0
sees_few a mid b entry w s again =
    let k = again_few mid b entry again in
    let x = ap (λ (z : List Spot). length z) w in
    record { few = omega (arith, k.few, k.longer, x, s.count); longer = omega (arith, k.longer, s.count) }

pub adds_one : (a b : Worklist) (spot : Spot) → waiting b ≡ waiting a ++ spot ∷ [] → SameCalls a b → Adds a b 1
adds_one a b spot w s = adds_spot a b spot 1 w s (omega arith)

pub spots_first : (a b : Worklist) → Adds a b 1 → AddsCalls a b 3
spots_first a b h = calls_of_spots a b 1 3 h (omega arith)

pub sees_two : (a b : Worklist) → AddsCalls a b 0 → AddsCalls a b 2
sees_two a b h = adds_calls_up a b 0 2 h (omega arith)

pub sees_three : (a b c : Worklist) → AddsCalls a b 0 → c ≡ b → AddsCalls a c 3
sees_three a b c h e = subst (λ w. AddsCalls a w 3) (sym e) (adds_calls_up a b 0 3 h (omega arith))

-- the spot that was looked at is handed in again
pub adds_back : (a b c : Worklist) → AddsCalls a b 3 → Adds b c 1 → AddsCalls a c 4
adds_back a b c h k = adds_calls_then a b c 3 1 h k

pub adds_calls_same : (a b c : Worklist) (n : ℕ) → b ≡ a → AddsCalls b c n → AddsCalls a c n
adds_calls_same a b c n e k = subst (λ w. AddsCalls w c n) e k

pub calls_three : (a b : Worklist) (target : ℕ) → waiting b ≡ waiting a ++ map stands_at (calls_of a target) → length (calls_of a target) ≤ length a.calls
    → SameCalls a b → AddsCalls a b 3
calls_three a b target w l s = record {
  few =
      let x = ap (λ (z : List Spot). length z) w ∙ length-append (waiting a) (map stands_at (calls_of a target)) in
      let y = length-map (calls_of a target) stands_at in omega (arith, x, y, l, s.count);
  longer = omega (arith, s.count);
}

pub ruleset adding = (adds_none, adds_one, spots_first, sees_two, sees_three, adds_back, waits_both, adds_calls_none, adds_calls_same, calls_three)

pub ruleset keeping = (waits_after, kept_of, adds_calls_kept)

pub ruleset handing = (
  waits_then,
  waits_same,
  waits_changed,
  waits_from,
  waits_none,
  waits_found,
  waits_weaker,
  adds_none,
  adds_one,
  spots_first,
  sees_two,
  sees_three,
  adds_calls_none,
  adds_calls_same,
)
