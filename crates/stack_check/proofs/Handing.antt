-- What is found is handed in.
use Rattle.std.proofs.Common.{arith, ◌≡◌, ◌<◌, ◌+◌, ℕ, zero, suc, List, [], ◌∷◌, ◌++◌, length, map, None, Some, slice_get, slice_set, inl, inr, ◌⊎◌, sym, subst, ◌∙◌, ap, refl}
use Rattle.std.specs.Prelude.{Contains}
use Rattle.std.proofs.lemmas.Bool.{cases_eq}
use Rattle.nwq_value.specs.Engine.{EngineTable}
use Rattle.ncs_code.specs.Plain.{PlainOp}
use Rattle.std.proofs.lemmas.List.Elements.{Contains-append_cases, Contains-append_left, Contains-append_right, Contains-push, Contains-push_cases}
use Rattle.stack_lists.specs.declared.held.Held.{Held}
use Rattle.stack_lists.specs.declared.held.Heap.{Heap}
use Rattle.stack_lists.specs.declared.todo.Again.{Again}
use Rattle.stack_lists.specs.declared.todo.Call.{Call}
use Rattle.stack_lists.specs.declared.todo.Spot.{Spot}
use Rattle.stack_lists.specs.Rows.{IsNumberOf, row_in}
use Rattle.stack_lists.specs.Worklist.{CallKept, CallersAdded, SameCalls, Worklist, calls_of, spot_of, stands_at, waiting}
use Rattle.stack_shape.specs.declared.shape.Entry.{Entry}
use Rattle.stack_shape.specs.declared.shape.Entry.TheVariants.{Start, Called, Stored}
use Rattle.stack_check.specs.declared.facts.Facts.{Facts}
use Rattle.stack_check.specs.declared.facts.Trial.{Trial}
use Rattle.stack_check.specs.declared.facts.Unseen.{Unseen}
use Rattle.stack_check.specs.declared.seen.Seen.{Seen}
use Rattle.stack_check.specs.declared.seen.Seen.TheVariants.{Quiet, Changed, Bad}
use Rattle.stack_check.specs.Facts.{first_place}
use Rattle.stack_check.specs.Inference.{CallsAgain, CallsAreOfRows, CallsWait, FactsGrow, GivenOwed, HandedIn, HandsIn, IsCall, Reached, SeesMore, Stays, TrialAdded, TrialGrows}
use Rattle.stack_check.specs.Inference.{TrialSet, TrialStays}
use Rattle.stack_check.proofs.Keeping.{currents_same, get_kept, set_here, set_other}
use Rattle.stack_check.proofs.Marking.{marks_kept, marks_row, marks_rows_same, marks_same}

-- ---- what waited waits still

pub stays_none : (w : Worklist) → Stays w w
stays_none w = record { spots = λ spot i. i; calls = λ target call i. i }

pub stays_then : (a b c : Worklist) → Stays a b → Stays b c → Stays a c
stays_then a b c h k = record {
  spots = λ spot i. k.spots spot (h.spots spot i);
  calls = λ target call i. k.calls target call (h.calls target call i);
}

same_kept : (a b : Worklist) → SameCalls a b → (target : ℕ) (call : Call) → Contains (calls_of a target) call → Contains (calls_of b target) call
same_kept a b s target call i = subst (λ z. Contains z call) (sym (s.by target)) i

pub stays_spot : (a b : Worklist) (spot : Spot) → waiting b ≡ waiting a ++ spot ∷ [] → SameCalls a b → Stays a b
stays_spot a b spot w s = record {
  spots = λ other i. subst (λ z. Contains z other) (sym w) (Contains-append_left (waiting a) (spot ∷ []) other i);
  calls = same_kept a b s;
}

pub stays_same : (a b : Worklist) → waiting b ≡ waiting a → SameCalls a b → Stays a b
stays_same a b w s = record { spots = λ spot i. subst (λ z. Contains z spot) (sym w) i; calls = same_kept a b s }

spots_then : (xs ys : List Again) → map spot_of (xs ++ ys) ≡ map spot_of xs ++ map spot_of ys
spots_then [] ys = refl
spots_then (x ∷ xs) ys = ap (λ rest. spot_of x ∷ rest) (spots_then xs ys)

more_between : (a x b c : List Spot) (spot : Spot) → Contains ((a ++ b) ++ c) spot → Contains (((a ++ x) ++ b) ++ c) spot
more_between a x b c spot i = elim (Contains-append_cases (a ++ b) c spot i) [
  | inl j ↦ Contains-append_left ((a ++ x) ++ b) c spot (elim (Contains-append_cases a b spot j) [
    | inl k ↦ Contains-append_left (a ++ x) b spot (Contains-append_left a x spot k)
    | inr k ↦ Contains-append_right (a ++ x) b spot k
  ])
  | inr j ↦ Contains-append_right ((a ++ x) ++ b) c spot j
]

pub stays_callers : (a b : Worklist) (target : ℕ) → CallersAdded a b target → Stays a b
stays_callers a b target k = record {
  spots = λ spot i.
      subst (λ z. Contains z spot)
      (ap (λ xs. (xs ++ map spot_of a.soon) ++ a.first) (sym (spots_then a.later k.added)) ∙ ap (λ xs. xs ++ a.first) (sym (spots_then (a.later ++ k.added) a.soon))
      ∙ ap (λ xs. map spot_of (xs ++ a.soon) ++ a.first) (sym k.later) ∙ ap (λ xs. map spot_of (b.later ++ xs) ++ a.first) (sym k.soon)
      ∙ ap (λ xs. map spot_of (b.later ++ b.soon) ++ xs) (sym k.first))
      (more_between (map spot_of a.later) (map spot_of k.added) (map spot_of a.soon) a.first spot
      (subst (λ z. Contains (z ++ a.first) spot) (spots_then a.later a.soon) i));
  calls = same_kept a b k.calls;
}

pub stays_again : (a b : Worklist) (entry : Entry) → CallsAgain a b entry → Stays a b
stays_again a b Start e = subst (λ w. Stays a w) (sym e) (stays_none a)
stays_again a b (Called target) k = stays_callers a b target k
stays_again a b (Stored site) e = subst (λ w. Stays a w) (sym e) (stays_none a)

pub stays_kept : (a b : Worklist) (row : ℕ) (call : Call) → waiting b ≡ waiting a → CallKept a b row call → Stays a b
stays_kept a b row call w k = record {
  spots = λ spot i. subst (λ z. Contains z spot) (sym w) i;
  calls = λ target other i. elim (cases_eq target call.target) [
    | inl e ↦ subst (λ t. Contains (calls_of b t) other) (sym e) (own other k.added (subst (λ t. Contains (calls_of a t) other) e i))
    | inr ne ↦ subst (λ z. Contains z other) (sym (k.others target ne)) i
  ];
}
  where
    own : (other : Call) → (calls_of b call.target ≡ calls_of a call.target) ⊎ (calls_of b call.target ≡ call ∷ calls_of a call.target)
        → Contains (calls_of a call.target) other → Contains (calls_of b call.target) other
    own other (inl e) i = subst (λ z. Contains z other) (sym e) i
    own other (inr e) i = subst (λ z. Contains z other) (sym e) (Contains-append_right (call ∷ []) (calls_of a call.target) other i)

-- ---- the same calls

pub calls_none : (w : Worklist) → SameCalls w w
calls_none w = record { by = λ t. refl; count = refl; calls = refl; marks = refl }

pub calls_then : (a b c : Worklist) → SameCalls a b → SameCalls b c → SameCalls a c
calls_then a b c h k = record { by = λ t. k.by t ∙ h.by t; count = k.count ∙ h.count; calls = k.calls ∙ h.calls; marks = k.marks ∙ h.marks }

calls_again : (a b : Worklist) (entry : Entry) → CallsAgain a b entry → SameCalls a b
calls_again a b Start e = subst (λ w. SameCalls a w) (sym e) (calls_none a)
calls_again a b (Called target) k = k.calls
calls_again a b (Stored site) e = subst (λ w. SameCalls a w) (sym e) (calls_none a)

-- ---- more is known

some_is : {A : Type 0} (a b : A) → Some a ≡ Some b → a ≡ b
some_is a b h = cc

none_some : {A : Type 0} (P : Type 0) (a : A) → None ≡ Some a → P
none_some P a h = absurd cc

fits : {A : Type 0} (xs : List A) (n : ℕ) (x : A) → slice_get xs n ≡ Some x → n < length xs
fits [] n x h = absurd cc
fits (y ∷ xs) zero x h = omega arith
fits (y ∷ xs) (suc n) x h = omega (arith, fits xs n x h)

trial_grows_none : (t : Trial) → TrialGrows t t
trial_grows_none t = record { entry = refl; taken = refl; under = refl; unseen_cells = omega arith; unseen_under = omega arith; given = λ g e. e }

trial_grows_then : (a b c : Trial) → TrialGrows a b → TrialGrows b c → TrialGrows a c
trial_grows_then a b c h k = record {
  entry = k.entry ∙ h.entry;
  taken = k.taken ∙ h.taken;
  under = k.under ∙ h.under;
  unseen_cells = omega (arith, h.unseen_cells, k.unseen_cells);
  unseen_under = omega (arith, h.unseen_under, k.unseen_under);
  given = λ g e. k.given g (h.given g e);
}

pub given_grows : (header : EngineTable) (code : List PlainOp) (heap : Heap) (facts : Facts) (n given : ℕ) (trial : Trial)
    → GivenOwed header code heap facts n given → slice_get facts.trials n ≡ Some trial → TrialGrows trial (record trial { given = Some given })
given_grows header code heap facts n given trial o has = record {
  entry = refl;
  taken = refl;
  under = refl;
  unseen_cells = omega arith;
  unseen_under = omega arith;
  given = λ g e. none_some (Some given ≡ Some g) g (sym (ap (λ (t : Trial). t.given) (some_is trial o.trial (sym has ∙ o.has)) ∙ o.new) ∙ e);
}

pub seen_grows : (trial : Trial) (unseen : Unseen) → SeesMore trial.unseen unseen → TrialGrows trial (record trial { unseen = unseen })
seen_grows trial unseen m = record { entry = refl; taken = refl; under = refl; unseen_cells = m.cells; unseen_under = m.under; given = λ g e. e }

facts_same : (facts : Facts) → FactsGrow facts facts
facts_same facts = record { rows = λ t p h r. r; counts = λ e n c. c; only = λ e n trial has c. c }

-- ---- facts and a worklist

stays_of : (before : Facts) (w v : Worklist) (number : ℕ) (trial : Trial) → slice_get before.trials number ≡ Some trial → TrialStays before w v number trial
stays_of before w v number trial h = record { now = trial; has = h; grows = trial_grows_none trial; known = inl refl }

pub hands_stays : {code : List PlainOp} (facts : Facts) (w v : Worklist) → Stays w v → SameCalls w v → HandsIn code facts facts w v
hands_stays facts w v s c = record {
  rows = λ t p h e. inl e;
  trials = stays_of facts w v;
  grows = facts_same facts;
  stays = s;
  marks = λ k. marks_same _ facts.rows w v c k;
}

pub hands_none : {code : List PlainOp} (facts : Facts) (w : Worklist) → HandsIn code facts facts w w
hands_none facts w = hands_stays facts w w (stays_none w) (calls_none w)

wait_then : (a b c : Worklist) (entry : Entry) → CallsWait a b entry → Stays b c → CallsWait a c entry
wait_then a b c Start k s = tt
wait_then a b c (Called target) k s = λ call i. s.spots call.spot (k call i)
wait_then a b c (Stored site) k s = tt

wait_from : (a b c : Worklist) (entry : Entry) → Stays a b → CallsWait b c entry → CallsWait a c entry
wait_from a b c Start s k = tt
wait_from a b c (Called target) s k = λ call i. k call (s.calls target call i)
wait_from a b c (Stored site) s k = tt

pub hands_then : {code : List PlainOp} (a b c : Facts) (u v w : Worklist) → HandsIn code a b u v → HandsIn code b c v w → HandsIn code a c u w
hands_then a b c u v w h k = record {
  rows = λ t p held e. elim (k.rows t p held e) [
    | inl old ↦ elim (h.rows t p held old) [
      | inl older ↦ inl older
      | inr i ↦ inr (k.stays.spots _ i)
    ]
    | inr i ↦ inr i
  ];
  trials = λ n trial has.
      let x = h.trials n trial has in
      let y = k.trials n x.now x.has in
      record { now = y.now; has = y.has; grows = trial_grows_then trial x.now y.now x.grows y.grows; known = both trial x.now y.now x.grows.entry x.known y.known };
  grows = record {
    rows = λ t p held r. k.grows.rows t p held (h.grows.rows t p held r);
    counts = λ e n i. k.grows.counts e n (h.grows.counts e n i);
    only = λ e n trial has i. let x = h.trials n trial has in h.grows.only e n trial has (k.grows.only e n x.now x.has i);
  };
  stays = stays_then u v w h.stays k.stays;
  marks = λ m. k.marks (h.marks m);
}
  where
    both : (trial mid now : Trial) → mid.entry ≡ trial.entry → (mid ≡ trial) ⊎ CallsWait u v trial.entry → (now ≡ mid) ⊎ CallsWait v w mid.entry
        → (now ≡ trial) ⊎ CallsWait u w trial.entry
    both trial mid now e (inl x) (inl y) = inl (y ∙ x)
    both trial mid now e (inl x) (inr y) = inr (wait_from u v w trial.entry h.stays (subst (λ e. CallsWait v w e) e y))
    both trial mid now e (inr x) y = inr (wait_then u v w trial.entry x k.stays)

pub hands_from : {code : List PlainOp} (a b c : Facts) (u v w : Worklist) → b ≡ a → v ≡ u → HandsIn code b c v w → HandsIn code a c u w
hands_from {code} a b c u v w e f h = subst (λ a. HandsIn code a c u w) e (subst (λ u. HandsIn code b c u w) f h)

pub hands_after : {code : List PlainOp} (a b : Facts) (u v w : Worklist) → HandsIn code a b u v → w ≡ v → HandsIn code a b u w
hands_after {code} a b u v w h e = subst (λ w. HandsIn code a b u w) (sym e) h

pub hands_same : {code : List PlainOp} (a b : Facts) (u v : Worklist) → b ≡ a → v ≡ u → HandsIn code a b u v
hands_same {code} a b u v e f = subst (λ b. HandsIn code a b u v) (sym e) (subst (λ v. HandsIn code a a u v) (sym f) (hands_none a u))

-- the call of a row is kept
pub hands_kept : {code : List PlainOp} (a b : Facts) (u v w : Worklist) (row target : ℕ) (spot : Spot) (held : Held) → HandsIn code a b u v
    → row_in a.rows spot.trial spot.place ≡ Some held → IsNumberOf b.rows spot.trial spot.place row → IsCall code spot.place target
    → waiting w ≡ waiting v → CallKept v w row (record { spot = spot; target = target }) → HandsIn code a b u w
hands_kept a b u v w row target spot held h r n call e k =
    let s = stays_kept v w row (record { spot = spot; target = target }) e k in
    record {
      rows = λ t p x i. elim (h.rows t p x i) [
        | inl old ↦ inl old
        | inr j ↦ inr (s.spots _ j)
      ];
      trials = λ m trial has.
          let x = h.trials m trial has in
          record {
            now = x.now;
            has = x.has;
            grows = x.grows;
            known = elim x.known [
              | inl same ↦ inl same
              | inr i ↦ inr (wait_then u v w trial.entry i s)
            ];
          };
      grows = h.grows;
      stays = stays_then u v w h.stays s;
      marks = λ m. marks_kept _ b.rows v w row target spot held (h.grows.rows spot.trial spot.place held r) n call k (h.marks m);
    }

-- ---- a row, a trial, and what is known of one

pub hands_row : {code : List PlainOp} (heap : Heap) (before after : Facts) (w v : Worklist) (spot : Spot) (held : Held) (seen : Seen)
    → Reached heap before after spot.trial spot.place held seen → HandedIn w v spot seen → Stays w v → SameCalls w v → HandsIn code before after w v
hands_row {code} heap before after w v spot held Quiet r i s c = subst (λ f. HandsIn code before f w v) (sym r.0) (hands_stays before w v s c)
hands_row {code} heap before after w v spot held Bad r i s c = subst (λ f. HandsIn code before f w v) (sym r.2) (hands_stays before w v s c)
hands_row {code} heap before after w v spot held Changed r i s c = record {
  rows = λ t p h e. elim (r.0.only t p h e) [
    | inl old ↦ inl old
    | inr new ↦ inr (subst (λ z. Contains z (record { trial = t; place = p })) (sym i)
        (subst (λ t. Contains (waiting w ++ spot ∷ []) (record { trial = t; place = p })) (sym new.0)
        (subst (λ p. Contains (waiting w ++ spot ∷ []) (record { trial = spot.trial; place = p })) (sym new.1) (Contains-push (waiting w) spot))))
  ];
  trials = λ n trial h. record { now = trial; has = ap (λ (f : Facts). slice_get f.trials n) r.1 ∙ h; grows = trial_grows_none trial; known = inl refl };
  grows = record {
    rows = r.0.kept;
    counts = λ e n k. same e ∙ k;
    only = λ e n trial has k. sym (same e) ∙ k;
  };
  stays = s;
  marks = λ k. marks_row _ before.rows after.rows _ v r.0.end (marks_same _ before.rows w v c k);
}
  where
    same : (e : Entry) → Rattle.stack_check.specs.Facts.current after e ≡ Rattle.stack_check.specs.Facts.current before e
    same e = currents_same before after e (ap (λ (f : Facts). f.called) r.1) (ap (λ (f : Facts). f.stored) r.1)

pub hands_trial : {code : List PlainOp} (before after : Facts) (w v : Worklist) (trial : Trial) → TrialAdded before after trial
    → waiting v ≡ waiting w ++ record { trial = length before.trials; place = first_place trial.entry } ∷ [] → SameCalls w v
    → HandsIn code before after w v
hands_trial before after w v trial k i s = record {
  rows = λ t p h e. elim (k.only t p h e) [
    | inl old ↦ inl old
    | inr new ↦ inr (subst (λ z. Contains z (record { trial = t; place = p })) (sym i)
        (subst (λ t. Contains (waiting w ++ first ∷ []) (record { trial = t; place = p })) (sym new.0)
        (subst (λ p. Contains (waiting w ++ first ∷ []) (record { trial = length before.trials; place = p })) (sym new.1) (Contains-push (waiting w) first))))
  ];
  trials = λ n old h. record {
    now = old;
    has = ap (λ xs. slice_get xs n) k.trials ∙ get_kept before.trials trial old n h;
    grows = trial_grows_none old;
    known = inl refl;
  };
  grows = record {
    rows = k.kept;
    counts = k.counts;
    only = λ e n old has c. elim (k.currents e n c) [
      | inl c ↦ c
      | inr is ↦ absurd (let f = fits before.trials n old has in omega (arith, f, is.1))
    ];
  };
  stays = stays_spot w v first i s;
  marks = λ c. marks_row _ before.rows after.rows _ v k.end (marks_same _ before.rows w v s c);
}
  where
    first : Spot
    first = record { trial = length before.trials; place = first_place trial.entry }

pub hands_begun : {code : List PlainOp} (before after : Facts) (w v : Worklist) (trial : Trial) (number place : ℕ) → TrialAdded before after trial
    → number ≡ length before.trials → place ≡ first_place trial.entry → waiting v ≡ waiting w ++ record { trial = number; place = place } ∷ [] → SameCalls w v
    → HandsIn code before after w v
hands_begun before after w v trial number place k n p i s =
    hands_trial before after w v trial k
    (subst (λ place. waiting v ≡ waiting w ++ record { trial = length before.trials; place = place } ∷ []) p
    (subst (λ number. waiting v ≡ waiting w ++ record { trial = number; place = place } ∷ []) n i)) s

-- one trial is another one of its entry, of which more is known
pub trial_set : (before after : Facts) (number : ℕ) (trial now : Trial) → slice_get before.trials number ≡ Some trial
    → after ≡ record before { trials = slice_set before.trials number now } → TrialGrows trial now → TrialSet before after number
trial_set before after number trial now h e g = record {
  rows = ap (λ (f : Facts). f.rows) e;
  counts = λ entry. currents_same before after entry (ap (λ (f : Facts). f.called) e) (ap (λ (f : Facts). f.stored) e);
  by = λ k old has. elim (cases_eq k number) [
    | inl i ↦ record {
      now = now;
      has = ap (λ (f : Facts). slice_get f.trials k) e ∙ ap (slice_get (slice_set before.trials number now)) i
          ∙ set_here before.trials number now (fits before.trials number trial h);
      grows = subst (λ t. TrialGrows t now) (some_is trial old (sym h ∙ ap (slice_get before.trials) (sym i) ∙ has)) g;
      known = inr i;
    }
    | inr ne ↦ record {
      now = old;
      has = ap (λ (f : Facts). slice_get f.trials k) e ∙ set_other before.trials number now k ne ∙ has;
      grows = trial_grows_none old;
      known = inl refl;
    }
  ];
}

pub hands_set : {code : List PlainOp} (before after : Facts) (w v : Worklist) (number : ℕ) (trial : Trial) → TrialSet before after number
    → slice_get before.trials number ≡ Some trial → CallsWait w v trial.entry → Stays w v → SameCalls w v → HandsIn code before after w v
hands_set before after w v number trial set h wait s c = record {
  rows = λ t p held e. inl (ap (λ rows. row_in rows t p) (sym set.rows) ∙ e);
  trials = λ n old has.
      let x = set.by n old has in
      record {
        now = x.now;
        has = x.has;
        grows = x.grows;
        known = elim x.known [
          | inl same ↦ inl same
          | inr i ↦ inr (subst (λ (t : Trial). CallsWait w v t.entry) (some_is trial old (sym h ∙ ap (slice_get before.trials) (sym i) ∙ has)) wait)
        ];
      };
  grows = record {
    rows = λ t p held r. ap (λ rows. row_in rows t p) set.rows ∙ r;
    counts = λ e n i. set.counts e ∙ i;
    only = λ e n old has i. sym (set.counts e) ∙ i;
  };
  stays = s;
  marks = λ k. marks_rows_same _ before.rows after.rows w v set.rows c k;
}

-- what a routine gives is known
pub hands_given : {code : List PlainOp} (before after : Facts) (w v : Worklist) (number target : ℕ) (trial : Trial) → TrialSet before after number
    → slice_get before.trials number ≡ Some trial → trial.entry ≡ Called target → waiting v ≡ waiting w ++ map stands_at (calls_of w target)
    → SameCalls w v → HandsIn code before after w v
hands_given before after w v number target trial set h e k calls =
    hands_set before after w v number trial set h
    (subst (λ e. CallsWait w v e) (sym e) (λ call i. subst (λ z. Contains z call.spot) (sym k)
    (Contains-append_right (waiting w) (map stands_at (calls_of w target)) call.spot (spot_there (calls_of w target) call i))))
    (record {
      spots = λ spot i. subst (λ z. Contains z spot) (sym k) (Contains-append_left (waiting w) (map stands_at (calls_of w target)) spot i);
      calls = same_kept w v calls;
    }) calls
  where
    spot_there : (all : List Call) (call : Call) → Contains all call → Contains (map stands_at all) call.spot
    spot_there [] call i = absurd (omega (arith, i.1))
    spot_there (x ∷ all) call i = elim (Contains-append_cases (x ∷ []) all call i) [
      | inl j ↦ subst (λ c. Contains (map stands_at (x ∷ all)) (stands_at c)) (only x call j)
          (Contains-append_left (x.spot ∷ []) (map stands_at all) x.spot (Contains-push [] x.spot))
      | inr j ↦ Contains-append_right (x.spot ∷ []) (map stands_at all) call.spot (spot_there all call j)
    ]
      where
        only : (x call : Call) → Contains (x ∷ []) call → x ≡ call
        only x call i = elim (Contains-push_cases [] x call i) [
          | inl none ↦ absurd (omega (arith, none.1))
          | inr e ↦ e
        ]

-- more was looked at
pub hands_seen : {code : List PlainOp} (before after : Facts) (a mid b : Worklist) (number : ℕ) (trial : Trial) → TrialSet before after number
    → slice_get before.trials number ≡ Some trial → waiting mid ≡ waiting a → SameCalls a mid → CallsAgain mid b trial.entry
    → CallsWait a b trial.entry → HandsIn code before after a b
hands_seen before after a mid b number trial set h w s again wait =
    hands_set before after a b number trial set h wait (stays_then a mid b (stays_same a mid w s) (stays_again mid b trial.entry again))
    (calls_then a mid b s (calls_again mid b trial.entry again))

pub ruleset noting = (stays_none, stays_spot, calls_none)

pub ruleset handing = (hands_none, hands_after, hands_from)

pub ruleset giving = (hands_given)
