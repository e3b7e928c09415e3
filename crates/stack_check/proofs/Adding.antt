-- A trial is added, and what a routine gives is kept.
use Rattle.std.proofs.Common.{arith, ◌≡◌, ◌≢◌, ◌≤◌, ℕ, zero, suc, List, [], ◌∷◌, ◌++◌, length, Option, None, Some, slice_get, slice_set, inl, inr, ◌⊎◌, sym, subst, ◌∙◌, ap, refl}
use Rattle.std.specs.Prelude.{get_or, OnOk, Result, Ok, Err}
use Rattle.std.proofs.lemmas.Bool.{cases_eq}
use Rattle.nwq_value.specs.declared.memory.NoMemory.{NoMemory}
use Rattle.nwq_value.specs.Engine.{EngineTable}
use Rattle.ncs_code.specs.Plain.{PlainOp}
use Rattle.stack_shape.specs.declared.shape.Entry.{Entry}
use Rattle.stack_shape.specs.declared.shape.Entry.TheVariants.{Start, Called, Stored}
use Rattle.stack_lists.specs.declared.held.Heap.{Heap}
use Rattle.stack_check.specs.declared.facts.Trial.{Trial}
use Rattle.stack_check.specs.declared.facts.Facts.{Facts}
use Rattle.stack_lists.specs.declared.rows.ShapeRow.{ShapeRow}
use Rattle.stack_lists.specs.Rows.{PutAt, RowAdded, row_in}
use Rattle.stack_check.proofs.Left.{more_set, more_trial}
use Rattle.stack_check.specs.Facts.{current, FindsMore, number_in, first_place, first_held, given_found, given_open, open_of, seen_of}
use Rattle.stack_check.specs.Inference.{Formed, TrialAdded, CurrentSet, Keeps, TrialBegins, GivenOwed}
use Rattle.stack_check.proofs.Keeping.{keeps_given}

some_is : {A : Type 0} (a b : A) → Some a ≡ Some b → a ≡ b
some_is a b h = cc

number_is : (number n : ℕ) → number_in number ≡ Some n → n ≡ number
number_is zero n h = absurd cc
number_is (suc k) n h = sym (some_is (suc k) n h)

pub set_start : (before : Facts) (number : ℕ) → CurrentSet before before Start number
set_start before number = record { trials = refl; rows = refl; only = λ e n c. inl c; others = λ e ne. refl }

called_only : (before after : Facts) (target number : ℕ) → PutAt before.called after.called target number → after.stored ≡ before.stored → (e : Entry) (n : ℕ)
    → current after e ≡ Some n → (current before e ≡ Some n) ⊎ ((e ≡ Called target) × (n ≡ number))
called_only before after target number p s Start n c = inl c
called_only before after target number p s (Called t) n c = elim (cases_eq t target) [
  | inl e ↦ inr (ap Called e, number_is number n (ap number_in (sym (ap (λ t. get_or after.called t 0) e ∙ p.here)) ∙ c))
  | inr ne ↦ inl (ap number_in (sym (p.others t ne)) ∙ c)
]
called_only before after target number p s (Stored site) n c = inl (ap (λ ns. number_in (get_or ns site 0)) (sym s) ∙ c)

stored_only : (before after : Facts) (site number : ℕ) → PutAt before.stored after.stored site number → after.called ≡ before.called → (e : Entry) (n : ℕ)
    → current after e ≡ Some n → (current before e ≡ Some n) ⊎ ((e ≡ Stored site) × (n ≡ number))
stored_only before after site number p s Start n c = inl c
stored_only before after site number p s (Called t) n c = inl (ap (λ ns. number_in (get_or ns t 0)) (sym s) ∙ c)
stored_only before after site number p s (Stored t) n c = elim (cases_eq t site) [
  | inl e ↦ inr (ap Stored e, number_is number n (ap number_in (sym (ap (λ t. get_or after.stored t 0) e ∙ p.here)) ∙ c))
  | inr ne ↦ inl (ap number_in (sym (p.others t ne)) ∙ c)
]

called_others : (before after : Facts) (target number : ℕ) → PutAt before.called after.called target number → after.stored ≡ before.stored → (e : Entry)
    → e ≢ Called target → current after e ≡ current before e
called_others before after target number p s Start ne = refl
called_others before after target number p s (Called t) ne = ap number_in (p.others t (λ i. ne (ap Called i)))
called_others before after target number p s (Stored site) ne = ap (λ ns. number_in (get_or ns site 0)) s

stored_others : (before after : Facts) (site number : ℕ) → PutAt before.stored after.stored site number → after.called ≡ before.called → (e : Entry)
    → e ≢ Stored site → current after e ≡ current before e
stored_others before after site number p s Start ne = refl
stored_others before after site number p s (Called t) ne = ap (λ ns. number_in (get_or ns t 0)) s
stored_others before after site number p s (Stored t) ne = ap number_in (p.others t (λ i. ne (ap Stored i)))

pub set_called : (before : Facts) (called : List ℕ) (target number : ℕ) (r : Result (Unit {0}) NoMemory) → OnOk r (PutAt before.called called target number)
    → OnOk r (CurrentSet before (record before { called = called }) (Called target) number)
set_called before called target number (Ok u) p =
    record {
      trials = refl;
      rows = refl;
      only = called_only before (record before { called = called }) target number p refl;
      others = called_others before (record before { called = called }) target number p refl;
    }
set_called before called target number (Err e) p = tt

pub set_stored : (before : Facts) (stored : List ℕ) (site number : ℕ) (r : Result (Unit {0}) NoMemory) → OnOk r (PutAt before.stored stored site number)
    → OnOk r (CurrentSet before (record before { stored = stored }) (Stored site) number)
set_stored before stored site number (Ok u) p =
    record {
      trials = refl;
      rows = refl;
      only = stored_only before (record before { stored = stored }) site number p refl;
      others = stored_others before (record before { stored = stored }) site number p refl;
    }
set_stored before stored site number (Err e) p = tt

pub ruleset setting = (set_start, set_called, set_stored)

-- ---- a trial

-- no trial has a row before it is added
none_or : {A : Type 0} (o : Option A) → ((a : A) → o ≡ Some a → ⊥) → o ≡ None
none_or None h = refl
none_or (Some a) h = absurd (h a refl)

pub no_row : (facts : Facts) (number place : ℕ) → Formed facts → number ≡ length facts.trials → row_in facts.rows number place ≡ None
no_row facts number place formed e =
    none_or (row_in facts.rows number place) (λ h r. absurd (let l = formed.owned number place h r in omega (arith, l, e)))

pub trial_added : (before after : Facts) (rows : List ShapeRow) (trial : Trial) (number : ℕ) → Formed before → current before trial.entry ≡ None
    → number ≡ length before.trials → RowAdded before.rows rows number (first_place trial.entry) (first_held trial)
    → CurrentSet (record before { trials = before.trials ++ trial ∷ []; rows = rows }) after trial.entry number → TrialAdded before after trial
trial_added before after rows trial number formed new e a s = record {
  trials = s.trials;
  kept = λ t p h r. ap (λ rs. row_in rs t p) s.rows ∙ a.kept t p h r;
  here = ap (λ n. row_in after.rows n (first_place trial.entry)) (sym e) ∙ ap (λ rs. row_in rs number (first_place trial.entry)) s.rows ∙ a.here;
  only = λ t p h r. elim (a.only t p h (ap (λ rs. row_in rs t p) (sym s.rows) ∙ r)) [
    | inl old ↦ inl old
    | inr is ↦ inr (is.0 ∙ e, is.1, is.2)
  ];
  currents = λ entry n c. elim (s.only entry n c) [
    | inl old ↦ inl (sym (same_current before rows trial entry) ∙ old)
    | inr is ↦ inr (is.0, is.1 ∙ e)
  ];
  counts = λ entry n c.
      s.others entry (λ i. never n (sym new ∙ ap (current before) (sym i) ∙ c)) ∙ same_current before rows trial entry ∙ c;
  more = ap (λ (rs : List ShapeRow). length rs) s.rows ∙ a.more;
  room = a.room;
  end = s.rows ∙ a.end ∙ ap (λ n. before.rows ++ record { trial = n; place = first_place trial.entry; held = first_held trial } ∷ []) e;
}
  where
    never : (n : ℕ) → None ≡ Some n → ⊥
    never n h = absurd cc

    same_current : (before : Facts) (rows : List ShapeRow) (trial : Trial) (entry : Entry)
        → current (record before { trials = before.trials ++ trial ∷ []; rows = rows }) entry ≡ current before entry
    same_current before rows trial Start = refl
    same_current before rows trial (Called t) = refl
    same_current before rows trial (Stored t) = refl

pub ruleset adding = (no_row, trial_added)

pub trial_left : (header : EngineTable) (code : List PlainOp) (heap : Heap) (before after : Facts) (trial : Trial) → TrialAdded before after trial
    → TrialBegins header code heap trial → FindsMore before after
trial_left header code heap before after trial a b = more_trial before after trial a.more a.room a.trials b.given b.few.0 b.few.1

pub given_left : (header : EngineTable) (code : List PlainOp) (heap : Heap) (facts after : Facts) (n given : ℕ) (trial now : Trial)
    → GivenOwed header code heap facts n given → slice_get facts.trials n ≡ Some trial → now ≡ record trial { given = Some given }
    → after ≡ record facts { trials = slice_set facts.trials n now } → FindsMore facts after
given_left header code heap facts after n given trial now o has e a =
    let none : trial.given ≡ None = ap (λ (t : Trial). t.given) (some_is trial o.trial (sym has ∙ o.has)) ∙ o.new in
    more_set facts after n trial now has (ap (λ (f : Facts). f.trials) a) (ap (λ (f : Facts). f.rows) a)
    (let p = ap open_of e in let q = ap given_open none in omega (arith, p, q))
    (let p = ap seen_of e in let q = ap given_found none in omega (arith, p, q))

-- ---- what a routine gives

pub given_set : (header : EngineTable) (code : List PlainOp) (heap : Heap) (facts after : Facts) (n given : ℕ) (trial now : Trial)
    → Keeps header code heap facts → GivenOwed header code heap facts n given → given ≤ length heap.slots → slice_get facts.trials n ≡ Some trial
    → now ≡ record trial { given = Some given } → after ≡ record facts { trials = slice_set facts.trials n now } → Keeps header code heap after
given_set header code heap facts after n given trial now k o i has e a =
    subst (λ f. Keeps header code heap f) (sym (a ∙ ap (λ t. record facts { trials = slice_set facts.trials n t })
    (e ∙ ap (λ (t : Trial). record t { given = Some given }) (some_is trial o.trial (sym has ∙ o.has)))))
    (keeps_given header code heap facts n given o k i)
