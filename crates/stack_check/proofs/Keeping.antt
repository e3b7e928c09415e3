-- What an inference keeps stays true when the heap grows, a row or a trial is added, and what a
-- routine gives is found.
use Rattle.std.proofs.Common.{arith, ◌≡◌, ◌≢◌, ◌≤◌, ◌<◌, ◌+◌, ℕ, zero, suc, List, [], ◌∷◌, ◌++◌, length, Option, None, Some, slice_get, slice_set, inl, inr, take, ◌-◌, ◌⊎◌, sym, subst, ◌∙◌, ap, refl}
use Rattle.std.specs.Prelude.{IfSome, get_or}
use Rattle.std.specs.Option.{option_map}
use Rattle.std.proofs.lemmas.Bool.{cases_eq}
use Rattle.std.proofs.lemmas.Option.{slice_get_within}
use Rattle.std.proofs.lemmas.List.{append_assoc, length-append}
use Rattle.nwq_value.specs.Engine.{EngineTable}
use Rattle.ncs_code.specs.Plain.{PlainOp}
use Rattle.stack_shape.specs.declared.shape.Slot.{Slot}
use Rattle.stack_shape.specs.declared.shape.Entry.{Entry}
use Rattle.stack_shape.specs.declared.shape.Entry.TheVariants.{Start, Called, Stored}
use Rattle.stack_shape.specs.Stored.{TopShape}
use Rattle.stack_shape.specs.Laws.{deeper}
use Rattle.stack_rules.specs.Tables.{Callee, ShapeTable}
use Rattle.stack_rules.specs.Rules.{MeetsRules}
use Rattle.stack_lists.specs.declared.held.Held.{Held}
use Rattle.stack_lists.specs.declared.held.Heap.{Heap}
use Rattle.stack_check.specs.declared.facts.Trial.{Trial}
use Rattle.stack_check.specs.declared.facts.Unseen.{Unseen}
use Rattle.stack_check.specs.declared.facts.Facts.{Facts}
use Rattle.stack_lists.specs.Shared.{read}
use Rattle.stack_lists.specs.Held.{IsIn, HeapGrows, shape_of}
use Rattle.stack_lists.specs.Rows.{RowAdded, row_in}
use Rattle.stack_lists.specs.declared.rows.ShapeRow.{ShapeRow}
use Rattle.stack_check.specs.Facts.{current, first_place, first_held, callee_of, lowest, unseen_cells, unseen_under, with_unseen}
use Rattle.stack_check.specs.Inference.{IsTrialOf, IsWhole, Formed, TrialIn, AllIn, IsOver, GivenOver, AllOver, Beyond, RowFits, TrialFits, Compares, Keeps, Owed, RowIs, TrialAdded, FirstFits}
use Rattle.stack_check.specs.Inference.{TrialBegins, GivenOwed, SeesMore, UnseenOwed}
use Rattle.stack_lists.specs.Growth.{still_in, still_shape, read_empty}
use Rattle.stack_check.proofs.Windows.{deeper_then, lowest_fewer}

some_is : {A : Type 0} (a b : A) → Some a ≡ Some b → a ≡ b
some_is a b h = cc

-- ---- a larger heap

given_still : (a b : Heap) (given : Option ℕ) → HeapGrows a b → IfSome given (λ g. g ≤ length a.slots)
    → option_map (read b.slots) given ≡ option_map (read a.slots) given
given_still a b None g h = refl
given_still a b (Some n) g h = ap Some (g.slots.same n h)

given_in : (a b : Heap) (given : Option ℕ) → HeapGrows a b → IfSome given (λ g. g ≤ length a.slots) → IfSome given (λ g. g ≤ length b.slots)
given_in a b None g h = tt
given_in a b (Some n) g h = omega (arith, h, g.slots.longer)

same_callee : (taken under taken' under' : List Slot) (given given' : Option (List Slot)) → taken ≡ taken' → under ≡ under' → given ≡ given'
    → (let c : Callee = record { taken = taken; under = under; given = given } in c) ≡ record { taken = taken'; under = under'; given = given' }
same_callee taken under taken' under' given given' t u g =
    ap (λ t. record { taken = t; under = under; given = given }) t
    ∙ ap (λ u. record { taken = taken'; under = u; given = given }) u
    ∙ ap (λ g. record { taken = taken'; under = under'; given = g }) g

pub callee_still : (a b : Heap) (trial : Trial) → HeapGrows a b → TrialIn a trial → callee_of b trial ≡ callee_of a trial
callee_still a b trial g h = same_callee _ _ _ _ _ _ (g.slots.same trial.taken h.taken) (g.slots.same trial.under h.under) (given_still a b trial.given g h.given)

trial_still : (a b : Heap) (trial : Trial) → HeapGrows a b → TrialIn a trial → TrialIn b trial
trial_still a b trial g h = record {
  taken = omega (arith, h.taken, g.slots.longer);
  under = omega (arith, h.under, g.slots.longer);
  given = given_in a b trial.given g h.given;
  unseen_cells = subst (λ (l : List Slot). trial.unseen.cells ≤ length l) (sym (g.slots.same trial.taken h.taken)) h.unseen_cells;
  unseen_under = subst (λ (l : List Slot). trial.unseen.under ≤ length l) (sym (g.slots.same trial.under h.under)) h.unseen_under;
  first_cells = (h.first_cells.0, subst (λ (l : List Slot). trial.at_first.cells ≤ length l) (sym (g.slots.same trial.taken h.taken)) h.first_cells.1);
  first_under = (h.first_under.0, subst (λ (l : List Slot). trial.at_first.under ≤ length l) (sym (g.slots.same trial.under h.under)) h.first_under.1);
}

pub cells_still : (a b : Heap) (trial : Trial) → HeapGrows a b → TrialIn a trial → unseen_cells b trial ≡ unseen_cells a trial
cells_still a b trial g h = ap (lowest trial.unseen.cells) (g.slots.same trial.taken h.taken)

pub under_still : (a b : Heap) (trial : Trial) → HeapGrows a b → TrialIn a trial → unseen_under b trial ≡ unseen_under a trial
under_still a b trial g h = ap (lowest trial.unseen.under) (g.slots.same trial.under h.under)

abbrev pub over_still : (a b : Heap) (trial : Trial) (s t : TopShape) → HeapGrows a b → TrialIn a trial → t ≡ s → IsOver a trial s → IsOver b trial t
over_still a b trial s t g h e o = record {
  own = o.own;
  is = e ∙ o.is ∙ ap (λ x. deeper x (unseen_under a trial) o.own) (sym (cells_still a b trial g h))
      ∙ ap (λ y. deeper (unseen_cells b trial) y o.own) (sym (under_still a b trial g h));
}

pub given_over_still : (a b : Heap) (trial : Trial) (given : Option ℕ) → HeapGrows a b → TrialIn a trial → IfSome given (λ g. g ≤ length a.slots)
    → GivenOver a trial given → GivenOver b trial given
given_over_still a b trial None g h i o = tt
given_over_still a b trial (Some n) g h i o = (o.0, g.slots.same n i ∙ o.1 ∙ ap (λ z. o.0 ++ z) (sym (cells_still a b trial g h)))

row_same : (table : ShapeTable) (entry : Entry) (place : ℕ) (a b : TopShape) (x y : List Slot) → b ≡ a → RowFits table entry place a x y → RowFits table entry place b x y
row_same table entry place a b x y e f = record { own = f.own; known = f.known; is = e ∙ f.is }

fits_still : (table : ShapeTable) (a b : Heap) (facts : Facts) (n : ℕ) (trial : Trial) → HeapGrows a b → AllIn a facts → slice_get facts.trials n ≡ Some trial
    → TrialFits table a facts n trial → TrialFits table b facts n trial
fits_still table a b facts n trial g h e f = record {
  x = f.x;
  y = f.y;
  beyond = subst (λ c. Beyond table trial.entry c f.x f.y) (sym (callee_still a b trial g (h.trials n trial e))) f.beyond;
  rows = λ p held r. row_same table trial.entry p _ _ f.x f.y (still_shape a b held g (h.rows n p held r)) (f.rows p held r);
  cells = f.cells;
  under = f.under;
}

pub keeps_grows : (header : EngineTable) (code : List PlainOp) (a b : Heap) (facts : Facts) → HeapGrows a b → Keeps header code a facts → Keeps header code b facts
keeps_grows header code a b facts g k = record {
  formed = k.formed;
  inside = record {
    rows = λ n p held r. still_in a b held g (k.inside.rows n p held r);
    trials = λ n trial e. trial_still a b trial g (k.inside.trials n trial e);
  };
  over = record {
    rows = λ n p held trial r e. over_still a b trial _ _ g (k.inside.trials n trial e) (still_shape a b held g (k.inside.rows n p held r)) (k.over.rows n p held trial r e);
    givens = λ n trial e. let t = k.inside.trials n trial e in given_over_still a b trial trial.given g t t.given (k.over.givens n trial e);
  };
  compares = λ table meets. record { by = λ n trial e. fits_still table a b facts n trial g k.inside e ((k.compares table meets).by n trial e) };
}

-- ---- a row more

owed_at : (header : EngineTable) (code : List PlainOp) (heap : Heap) (facts : Facts) (n p : ℕ) (held : Held) (o : Owed header code heap facts n p held)
    (m : ℕ) (trial : Trial) → slice_get facts.trials m ≡ Some trial → m ≡ n → (table : ShapeTable) → MeetsRules header code table
    → (fits : TrialFits table heap facts m trial) → RowFits table trial.entry p (shape_of heap held) fits.x fits.y
owed_at header code heap facts n p held o m trial e i table meets =
    subst (λ t. (fits : TrialFits table heap facts m t) → RowFits table t.entry p (shape_of heap held) fits.x fits.y)
    (some_is o.trial trial (sym o.has ∙ ap (slice_get facts.trials) (sym i) ∙ e))
    (subst (λ m. (fits : TrialFits table heap facts m o.trial) → RowFits table o.trial.entry p (shape_of heap held) fits.x fits.y) (sym i) (o.by table meets))

one_row : (table : ShapeTable) (heap : Heap) (before after : Facts) (n p : ℕ) (held : Held) (m : ℕ) (trial : Trial) → RowAdded before.rows after.rows n p held
    → (f : TrialFits table heap before m trial) → (m ≡ n → RowFits table trial.entry p (shape_of heap held) f.x f.y) → TrialFits table heap after m trial
one_row table heap before after n p held m trial a f new = record {
  x = f.x;
  y = f.y;
  beyond = f.beyond;
  rows = λ q h r. elim (a.only m q h r) [
    | inl old ↦ f.rows q h old
    | inr is ↦ subst (λ h. RowFits table trial.entry q (shape_of heap h) f.x f.y) (sym is.2)
        (subst (λ q. RowFits table trial.entry q (shape_of heap held) f.x f.y) (sym is.1) (new is.0))
  ];
  cells = f.cells;
  under = f.under;
}

pub currents_same : (before after : Facts) (entry : Entry) → after.called ≡ before.called → after.stored ≡ before.stored → current after entry ≡ current before entry
currents_same before after Start c s = refl
currents_same before after (Called target) c s = ap (λ ns. Rattle.stack_check.specs.Facts.number_in (get_or ns target 0)) c
currents_same before after (Stored site) c s = ap (λ ns. Rattle.stack_check.specs.Facts.number_in (get_or ns site 0)) s

row_over : (header : EngineTable) (code : List PlainOp) (heap : Heap) (facts : Facts) (n p : ℕ) (held : Held) → Owed header code heap facts n p held
    → (m : ℕ) (h : Held) (trial : Trial) → m ≡ n → h ≡ held → slice_get facts.trials m ≡ Some trial → IsOver heap trial (shape_of heap h)
row_over header code heap facts n p held o m h trial i j e =
    subst (λ h. IsOver heap trial (shape_of heap h)) (sym j)
    (subst (λ t. IsOver heap t (shape_of heap held)) (some_is o.trial trial (sym o.has ∙ ap (slice_get facts.trials) (sym i) ∙ e)) o.over)

row_kept : (header : EngineTable) (code : List PlainOp) (heap : Heap) (before : Facts) (rows : List ShapeRow) (n p : ℕ) (held : Held)
    → Keeps header code heap before → RowAdded before.rows rows n p held → IsIn heap held → Owed header code heap before n p held
    → Keeps header code heap (record before { rows = rows })
row_kept header code heap before rows n p held k a i o = record {
  formed = record {
    currents = λ e m c. let t = k.formed.currents e m (sym (currents_same before (record before { rows = rows }) e refl refl) ∙ c) in
        record { trial = t.trial; has = t.has; of = t.of };
    firsts = λ m trial e. a.kept m (first_place trial.entry) (first_held trial) (k.formed.firsts m trial e);
    owned = λ m q h r. elim (a.only m q h r) [
      | inl old ↦ k.formed.owned m q h old
      | inr is ↦ subst (λ m. m < length before.trials) (sym is.0) (slice_get_within before.trials n o.trial o.has)
    ];
    start = k.formed.start;
    whole = k.formed.whole;
  };
  inside = record {
    rows = λ m q h r. elim (a.only m q h r) [
      | inl old ↦ k.inside.rows m q h old
      | inr is ↦ subst (λ h. IsIn heap h) (sym is.2) i
    ];
    trials = k.inside.trials;
  };
  over = record {
    rows = λ m q h trial r e. elim (a.only m q h r) [
      | inl old ↦ k.over.rows m q h trial old e
      | inr is ↦ row_over header code heap before n p held o m h trial is.0 is.2 e
    ];
    givens = k.over.givens;
  };
  compares = λ table meets. record {
    by = λ m trial e.
        let f = (k.compares table meets).by m trial e in
        one_row table heap before (record before { rows = rows }) n p held m trial a f (λ j. owed_at header code heap before n p held o m trial e j table meets f);
  };
}

pub keeps_row : (header : EngineTable) (code : List PlainOp) (heap : Heap) (before after : Facts) (n p : ℕ) (held : Held)
    → Keeps header code heap before → RowAdded before.rows after.rows n p held → after ≡ record before { rows = after.rows } → IsIn heap held
    → Owed header code heap before n p held → Keeps header code heap after
keeps_row header code heap before after n p held k a e i o =
    subst (λ facts. Keeps header code heap facts) (sym e) (row_kept header code heap before after.rows n p held k a i o)

-- a row that isn't the same as what is there, where every table has both: there is no table
pub never_other : (header : EngineTable) (code : List PlainOp) (heap : Heap) (facts : Facts) (n p : ℕ) (held h : Held) (table : ShapeTable)
    → MeetsRules header code table → Keeps header code heap facts → row_in facts.rows n p ≡ Some h
    → Owed header code heap facts n p held → (RowIs heap facts n p (shape_of heap held) → ⊥) → ⊥
never_other header code heap facts n p held h table meets k r o ne =
    let f = (k.compares table meets).by n o.trial o.has in
    let a = f.rows p h r in
    let b = o.by table meets f in
    ne (record { held = h; row = r; is = a.is ∙ ap (deeper f.x f.y) (some_is a.own b.own (sym a.known ∙ b.known)) ∙ sym b.is })

-- ---- a trial more

get_end : {A : Type 0} (xs : List A) (x y : A) (k : ℕ) → slice_get (xs ++ x ∷ []) k ≡ Some y → (slice_get xs k ≡ Some y) ⊎ ((k ≡ length xs) × (y ≡ x))
get_end [] x y zero h = inr (refl, some_is y x (sym h))
get_end [] x y (suc k) h = absurd cc
get_end (z ∷ xs) x y zero h = inl h
get_end (z ∷ xs) x y (suc k) h = elim (get_end xs x y k h) [
  | inl a ↦ inl a
  | inr b ↦ inr (ap (λ n. suc n) b.0, b.1)
]

pub get_kept : {A : Type 0} (xs : List A) (x y : A) (k : ℕ) → slice_get xs k ≡ Some y → slice_get (xs ++ x ∷ []) k ≡ Some y
get_kept [] x y k h = absurd cc
get_kept (z ∷ xs) x y zero h = h
get_kept (z ∷ xs) x y (suc k) h = get_kept xs x y k h

get_added : {A : Type 0} (xs : List A) (x : A) → slice_get (xs ++ x ∷ []) (length xs) ≡ Some x
get_added [] x = refl
get_added (z ∷ xs) x = get_added xs x

-- an older trial has no row more
old_fits : (table : ShapeTable) (heap : Heap) (before after : Facts) (added : Trial) (n : ℕ) (trial : Trial) → TrialAdded before after added
    → n < length before.trials → TrialFits table heap before n trial → TrialFits table heap after n trial
old_fits table heap before after added n trial a l f = record {
  x = f.x;
  y = f.y;
  beyond = f.beyond;
  rows = λ p h r. elim (a.only n p h r) [
    | inl old ↦ f.rows p h old
    | inr is ↦ absurd (omega (arith, l, is.0))
  ];
  cells = f.cells;
  under = f.under;
}

-- the new one has its first row alone
new_fits : (table : ShapeTable) (heap : Heap) (before after : Facts) (added : Trial) (n : ℕ) → Formed before → TrialAdded before after added
    → n ≡ length before.trials → FirstFits table heap added → TrialFits table heap after n added
new_fits table heap before after added n formed a e f = record {
  x = f.x;
  y = f.y;
  beyond = f.beyond;
  rows = λ p h r. elim (a.only n p h r) [
    | inl old ↦ absurd (let l = formed.owned n p h old in omega (arith, l, e))
    | inr is ↦ subst (λ h. RowFits table added.entry p (shape_of heap h) f.x f.y) (sym is.2)
        (subst (λ p. RowFits table added.entry p (shape_of heap (first_held added)) f.x f.y) (sym is.1) f.first)
  ];
  cells = f.cells;
  under = f.under;
}

fits_of_end : (table : ShapeTable) (heap : Heap) (before after : Facts) (added : Trial) (n : ℕ) (trial : Trial) → Formed before → TrialAdded before after added
    → Compares table heap before → FirstFits table heap added → (slice_get before.trials n ≡ Some trial) ⊎ ((n ≡ length before.trials) × (trial ≡ added))
    → TrialFits table heap after n trial
fits_of_end table heap before after added n trial formed a c f (inl old) =
    old_fits table heap before after added n trial a (slice_get_within before.trials n trial old) (c.by n trial old)
fits_of_end table heap before after added n trial formed a c f (inr is) =
    subst (λ t. TrialFits table heap after n t) (sym is.1) (new_fits table heap before after added n formed a is.0 f)

in_of_end : (heap : Heap) (before : Facts) (added : Trial) (n : ℕ) (trial : Trial) → AllIn heap before → TrialIn heap added
    → (slice_get before.trials n ≡ Some trial) ⊎ ((n ≡ length before.trials) × (trial ≡ added)) → TrialIn heap trial
in_of_end heap before added n trial all i (inl old) = all.trials n trial old
in_of_end heap before added n trial all i (inr is) = subst (λ t. TrialIn heap t) (sym is.1) i

first_of_end : (before after : Facts) (added : Trial) (n : ℕ) (trial : Trial) → Formed before → TrialAdded before after added
    → (slice_get before.trials n ≡ Some trial) ⊎ ((n ≡ length before.trials) × (trial ≡ added))
    → row_in after.rows n (first_place trial.entry) ≡ Some (first_held trial)
first_of_end before after added n trial formed a (inl old) = a.kept n (first_place trial.entry) (first_held trial) (formed.firsts n trial old)
first_of_end before after added n trial formed a (inr is) =
    subst (λ t. row_in after.rows n (first_place t.entry) ≡ Some (first_held t)) (sym is.1)
    (subst (λ n. row_in after.rows n (first_place added.entry) ≡ Some (first_held added)) (sym is.0) a.here)

start_of_end : (before : Facts) (added : Trial) (n : ℕ) (trial : Trial) → Formed before → (added.entry ≡ Start → (added.taken ≡ 0) × (added.under ≡ 0))
    → trial.entry ≡ Start → (slice_get before.trials n ≡ Some trial) ⊎ ((n ≡ length before.trials) × (trial ≡ added)) → (trial.taken ≡ 0) × (trial.under ≡ 0)
start_of_end before added n trial formed s e (inl old) = formed.start n trial old e
start_of_end before added n trial formed s e (inr is) =
    subst (λ (t : Trial). (t.taken ≡ 0) × (t.under ≡ 0)) (sym is.1) (s (ap (λ (t : Trial). t.entry) (sym is.1) ∙ e))

current_of : (before after : Facts) (added : Trial) (entry : Entry) (n : ℕ) → Formed before → TrialAdded before after added
    → (current before entry ≡ Some n) ⊎ ((entry ≡ added.entry) × (n ≡ length before.trials)) → IsTrialOf after n entry
current_of before after added entry n formed a (inl old) =
    let t = formed.currents entry n old in
    record { trial = t.trial; has = ap (λ ts. slice_get ts n) a.trials ∙ get_kept before.trials added t.trial n t.has; of = t.of }
current_of before after added entry n formed a (inr is) =
    record { trial = added; has = ap (λ ts. slice_get ts n) a.trials ∙ ap (slice_get (before.trials ++ added ∷ [])) is.1 ∙ get_added before.trials added; of = sym is.0 }

row_in_heap : (heap : Heap) (before after : Facts) (added : Trial) (n p : ℕ) (h : Held) → AllIn heap before → TrialIn heap added → TrialAdded before after added
    → row_in after.rows n p ≡ Some h → IsIn heap h
row_in_heap heap before after added n p h all i a r = elim (a.only n p h r) [
  | inl old ↦ all.rows n p h old
  | inr is ↦ subst (λ h. IsIn heap h) (sym is.2) (record {
    cells = i.taken;
    under = i.under;
    saved = omega arith;
    each = subst (λ ns. Rattle.stack_lists.specs.Held.AllAtMost (length heap.slots) ns) (sym (read_empty heap.saved)) tt;
  })
]

whole_of_end : (before : Facts) (added : Trial) (n : ℕ) (trial : Trial) → Formed before → IsWhole added.entry added.unseen
    → (slice_get before.trials n ≡ Some trial) ⊎ ((n ≡ length before.trials) × (trial ≡ added)) → IsWhole trial.entry trial.unseen
whole_of_end before added n trial formed w (inl old) = formed.whole n trial old
whole_of_end before added n trial formed w (inr is) = subst (λ (t : Trial). IsWhole t.entry t.unseen) (sym is.1) w

given_of_end : (heap : Heap) (before : Facts) (added : Trial) (n : ℕ) (trial : Trial) → AllOver heap before → added.given ≡ None
    → (slice_get before.trials n ≡ Some trial) ⊎ ((n ≡ length before.trials) × (trial ≡ added)) → GivenOver heap trial trial.given
given_of_end heap before added n trial all g (inl old) = all.givens n trial old
given_of_end heap before added n trial all g (inr is) =
    subst (λ o. GivenOver heap trial o) (sym (ap (λ (t : Trial). t.given) is.1 ∙ g)) tt

over_of_end : (heap : Heap) (before after : Facts) (added : Trial) (n p : ℕ) (h : Held) (trial : Trial) → Formed before → AllOver heap before
    → IsOver heap added (shape_of heap (first_held added))
    → (row_in before.rows n p ≡ Some h) ⊎ ((n ≡ length before.trials) × (p ≡ first_place added.entry) × (h ≡ first_held added))
    → (slice_get before.trials n ≡ Some trial) ⊎ ((n ≡ length before.trials) × (trial ≡ added)) → IsOver heap trial (shape_of heap h)
over_of_end heap before after added n p h trial formed all o (inl row) (inl old) = all.rows n p h trial row old
over_of_end heap before after added n p h trial formed all o (inl row) (inr is) = absurd (let l = formed.owned n p h row in omega (arith, l, is.0))
over_of_end heap before after added n p h trial formed all o (inr row) (inl old) =
    absurd (let l = slice_get_within before.trials n trial old in omega (arith, l, row.0))
over_of_end heap before after added n p h trial formed all o (inr row) (inr is) =
    subst (λ h. IsOver heap trial (shape_of heap h)) (sym row.2) (subst (λ t. IsOver heap t (shape_of heap (first_held added))) (sym is.1) o)

one_longer : (before : Facts) (added : Trial) → length (before.trials ++ added ∷ []) ≡ length before.trials + 1
one_longer before added = length-append before.trials (added ∷ [])

pub keeps_trial : (header : EngineTable) (code : List PlainOp) (heap : Heap) (before after : Facts) (added : Trial) → Keeps header code heap before
    → TrialAdded before after added → TrialIn heap added → (added.entry ≡ Start → (added.taken ≡ 0) × (added.under ≡ 0)) → TrialBegins header code heap added
    → Keeps header code heap after
keeps_trial header code heap before after added k a i s b = record {
  formed = record {
    currents = λ e n c. current_of before after added e n k.formed a (a.currents e n c);
    firsts = λ n trial e. first_of_end before after added n trial k.formed a (get_end before.trials added trial n (ap (λ ts. slice_get ts n) (sym a.trials) ∙ e));
    owned = λ n p h r. let l = ap (λ (ts : List Trial). length ts) a.trials ∙ one_longer before added in elim (a.only n p h r) [
      | inl old ↦ let o = k.formed.owned n p h old in omega (arith, o, l)
      | inr is ↦ omega (arith, is.0, l)
    ];
    start = λ n trial e st. start_of_end before added n trial k.formed s st (get_end before.trials added trial n (ap (λ ts. slice_get ts n) (sym a.trials) ∙ e));
    whole = λ n trial e. whole_of_end before added n trial k.formed b.whole (get_end before.trials added trial n (ap (λ ts. slice_get ts n) (sym a.trials) ∙ e));
  };
  inside = record {
    rows = λ n p h r. row_in_heap heap before after added n p h k.inside i a r;
    trials = λ n trial e. in_of_end heap before added n trial k.inside i (get_end before.trials added trial n (ap (λ ts. slice_get ts n) (sym a.trials) ∙ e));
  };
  over = record {
    rows = λ n p h trial r e.
        over_of_end heap before after added n p h trial k.formed k.over b.over (a.only n p h r)
        (get_end before.trials added trial n (ap (λ ts. slice_get ts n) (sym a.trials) ∙ e));
    givens = λ n trial e. given_of_end heap before added n trial k.over b.given (get_end before.trials added trial n (ap (λ ts. slice_get ts n) (sym a.trials) ∙ e));
  };
  compares = λ table meets. record {
    by = λ n trial e.
        fits_of_end table heap before after added n trial k.formed a (k.compares table meets) (b.by table meets)
        (get_end before.trials added trial n (ap (λ ts. slice_get ts n) (sym a.trials) ∙ e));
  };
}

-- ---- what a routine gives

set_cases : {A : Type 0} (xs : List A) (n : ℕ) (x : A) (k : ℕ) (y : A) → slice_get (slice_set xs n x) k ≡ Some y
    → (slice_get xs k ≡ Some y) ⊎ ((k ≡ n) × (y ≡ x) × (n < length xs))
set_cases [] n x k y h = inl h
set_cases (z ∷ xs) zero x zero y h = inr (refl, some_is y x (sym h), omega arith)
set_cases (z ∷ xs) zero x (suc k) y h = inl h
set_cases (z ∷ xs) (suc n) x zero y h = inl h
set_cases (z ∷ xs) (suc n) x (suc k) y h = elim (set_cases xs n x k y h) [
  | inl a ↦ inl a
  | inr b ↦ inr (ap (λ n. suc n) b.0, b.1, omega (arith, b.2))
]

pub set_here : {A : Type 0} (xs : List A) (n : ℕ) (x : A) → n < length xs → slice_get (slice_set xs n x) n ≡ Some x
set_here [] n x h = absurd (omega (arith, h))
set_here (z ∷ xs) zero x h = refl
set_here (z ∷ xs) (suc n) x h = set_here xs n x (omega (arith, h))

pub set_other : {A : Type 0} (xs : List A) (n : ℕ) (x : A) (k : ℕ) → k ≢ n → slice_get (slice_set xs n x) k ≡ slice_get xs k
set_other [] n x k ne = refl
set_other (z ∷ xs) zero x zero ne = absurd (ne refl)
set_other (z ∷ xs) zero x (suc k) ne = refl
set_other (z ∷ xs) (suc n) x zero ne = refl
set_other (z ∷ xs) (suc n) x (suc k) ne = set_other xs n x k (λ e. ne (ap (λ n. suc n) e))

set_length : {A : Type 0} (xs : List A) (n : ℕ) (x : A) → length (slice_set xs n x) ≡ length xs
set_length [] n x = refl
set_length (z ∷ xs) zero x = refl
set_length (z ∷ xs) (suc n) x = let e = set_length xs n x in omega (arith, e)

abbrev pub with_given : Facts → ℕ → Trial → ℕ → Facts
with_given facts n trial given = record facts { trials = slice_set facts.trials n (record trial { given = Some given }) }

-- a trial, before its given was set
before_set : (facts : Facts) (n given : ℕ) (trial : Trial) (k : ℕ) (now : Trial) → slice_get facts.trials n ≡ Some trial
    → slice_get (with_given facts n trial given).trials k ≡ Some now
    → (slice_get facts.trials k ≡ Some now) ⊎ ((k ≡ n) × (now ≡ record trial { given = Some given }) × (slice_get facts.trials k ≡ Some trial))
before_set facts n given trial k now has h = elim (set_cases facts.trials n (record trial { given = Some given }) k now h) [
  | inl a ↦ inl a
  | inr b ↦ inr (b.0, b.1, ap (slice_get facts.trials) b.0 ∙ has)
]

same_rows : (table : ShapeTable) (heap : Heap) (facts after : Facts) (n : ℕ) (trial : Trial) → after.rows ≡ facts.rows → TrialFits table heap facts n trial
    → TrialFits table heap after n trial
same_rows table heap facts after n trial e f = record {
  x = f.x;
  y = f.y;
  beyond = f.beyond;
  rows = λ p h r. f.rows p h (ap (λ rows. row_in rows n p) (sym e) ∙ r);
  cells = f.cells;
  under = f.under;
}

given_fits : (header : EngineTable) (code : List PlainOp) (heap : Heap) (facts : Facts) (n given : ℕ) (o : GivenOwed header code heap facts n given)
    (table : ShapeTable) → MeetsRules header code table → (k : ℕ) (now : Trial)
    → (c : (m : ℕ) (t : Trial) → slice_get facts.trials m ≡ Some t → TrialFits table heap facts m t)
    → (slice_get facts.trials k ≡ Some now) ⊎ ((k ≡ n) × (now ≡ record o.trial { given = Some given }) × (slice_get facts.trials k ≡ Some o.trial))
    → TrialFits table heap (with_given facts n o.trial given) k now
given_fits header code heap facts n given o table meets k now c (inl old) = same_rows table heap facts (with_given facts n o.trial given) k now refl (c k now old)
given_fits header code heap facts n given o table meets k now c (inr is) =
    let f = c n o.trial o.has in
    subst (λ t. TrialFits table heap (with_given facts n o.trial given) k t) (sym is.1)
    (subst (λ k. TrialFits table heap (with_given facts n o.trial given) k (record o.trial { given = Some given })) (sym is.0)
    (record { x = f.x; y = f.y; beyond = o.by table meets f; rows = f.rows; cells = f.cells; under = f.under }))

given_trial_in : (heap : Heap) (facts : Facts) (n given : ℕ) (trial : Trial) → AllIn heap facts → given ≤ length heap.slots → (k : ℕ) (now : Trial)
    → (slice_get facts.trials k ≡ Some now) ⊎ ((k ≡ n) × (now ≡ record trial { given = Some given }) × (slice_get facts.trials k ≡ Some trial)) → TrialIn heap now
given_trial_in heap facts n given trial all g k now (inl old) = all.trials k now old
given_trial_in heap facts n given trial all g k now (inr is) =
    let t = all.trials k trial is.2 in
    subst (λ t. TrialIn heap t) (sym is.1)
    (record { taken = t.taken; under = t.under; given = g; unseen_cells = t.unseen_cells; unseen_under = t.unseen_under; first_cells = t.first_cells; first_under = t.first_under })

given_first : (facts : Facts) (n given : ℕ) (trial : Trial) → Formed facts → (k : ℕ) (now : Trial)
    → (slice_get facts.trials k ≡ Some now) ⊎ ((k ≡ n) × (now ≡ record trial { given = Some given }) × (slice_get facts.trials k ≡ Some trial))
    → row_in facts.rows k (first_place now.entry) ≡ Some (first_held now)
given_first facts n given trial formed k now (inl old) = formed.firsts k now old
given_first facts n given trial formed k now (inr is) =
    subst (λ (t : Trial). row_in facts.rows k (first_place t.entry) ≡ Some (first_held t)) (sym is.1) (formed.firsts k trial is.2)

given_start : (facts : Facts) (n given : ℕ) (trial : Trial) → Formed facts → (k : ℕ) (now : Trial)
    → (slice_get facts.trials k ≡ Some now) ⊎ ((k ≡ n) × (now ≡ record trial { given = Some given }) × (slice_get facts.trials k ≡ Some trial))
    → now.entry ≡ Start → (now.taken ≡ 0) × (now.under ≡ 0)
given_start facts n given trial formed k now (inl old) e = formed.start k now old e
given_start facts n given trial formed k now (inr is) e =
    subst (λ (t : Trial). (t.taken ≡ 0) × (t.under ≡ 0)) (sym is.1) (formed.start k trial is.2 (ap (λ (t : Trial). t.entry) (sym is.1) ∙ e))

given_whole : (facts : Facts) (n given : ℕ) (trial : Trial) → Formed facts → (k : ℕ) (now : Trial)
    → (slice_get facts.trials k ≡ Some now) ⊎ ((k ≡ n) × (now ≡ record trial { given = Some given }) × (slice_get facts.trials k ≡ Some trial))
    → IsWhole now.entry now.unseen
given_whole facts n given trial formed k now (inl old) = formed.whole k now old
given_whole facts n given trial formed k now (inr is) = subst (λ (t : Trial). IsWhole t.entry t.unseen) (sym is.1) (formed.whole k trial is.2)

given_over : (heap : Heap) (facts : Facts) (n p given : ℕ) (trial : Trial) → AllOver heap facts → (k : ℕ) (h : Held) (now : Trial) → row_in facts.rows k p ≡ Some h
    → (slice_get facts.trials k ≡ Some now) ⊎ ((k ≡ n) × (now ≡ record trial { given = Some given }) × (slice_get facts.trials k ≡ Some trial))
    → IsOver heap now (shape_of heap h)
given_over heap facts n p given trial all k h now r (inl old) = all.rows k p h now r old
given_over heap facts n p given trial all k h now r (inr is) =
    let o = all.rows k p h trial r is.2 in subst (λ t. IsOver heap t (shape_of heap h)) (sym is.1) (record { own = o.own; is = o.is })

given_givens : (heap : Heap) (facts : Facts) (n given : ℕ) (trial : Trial) → AllOver heap facts → GivenOver heap trial (Some given) → (k : ℕ) (now : Trial)
    → (slice_get facts.trials k ≡ Some now) ⊎ ((k ≡ n) × (now ≡ record trial { given = Some given }) × (slice_get facts.trials k ≡ Some trial))
    → GivenOver heap now now.given
given_givens heap facts n given trial all o k now (inl old) = all.givens k now old
given_givens heap facts n given trial all o k now (inr is) = subst (λ (t : Trial). GivenOver heap t t.given) (sym is.1) o

given_current : (facts : Facts) (n given : ℕ) (trial : Trial) → slice_get facts.trials n ≡ Some trial → (m : ℕ) (entry : Entry) → IsTrialOf facts m entry
    → IsTrialOf (with_given facts n trial given) m entry
given_current facts n given trial has m entry t = elim (cases_eq m n) [
  | inl e ↦ record {
    trial = record trial { given = Some given };
    has = ap (slice_get (with_given facts n trial given).trials) e ∙ set_here facts.trials n _ (slice_get_within facts.trials n trial has);
    of = ap (λ (t : Trial). t.entry) (some_is trial t.trial (sym has ∙ ap (slice_get facts.trials) (sym e) ∙ t.has)) ∙ t.of;
  }
  | inr ne ↦ record { trial = t.trial; has = set_other facts.trials n _ m ne ∙ t.has; of = t.of }
]

pub keeps_given : (header : EngineTable) (code : List PlainOp) (heap : Heap) (facts : Facts) (n given : ℕ) (o : GivenOwed header code heap facts n given)
    → Keeps header code heap facts → given ≤ length heap.slots → Keeps header code heap (with_given facts n o.trial given)
keeps_given header code heap facts n given o k g = record {
  formed = record {
    currents = λ e m c. given_current facts n given o.trial o.has m e
        (k.formed.currents e m (sym (currents_same facts (with_given facts n o.trial given) e refl refl) ∙ c));
    firsts = λ m now h. given_first facts n given o.trial k.formed m now (before_set facts n given o.trial m now o.has h);
    owned = λ m p h r. let l = k.formed.owned m p h r in omega (arith, l, set_length facts.trials n (record o.trial { given = Some given }));
    start = λ m now h e. given_start facts n given o.trial k.formed m now (before_set facts n given o.trial m now o.has h) e;
    whole = λ m now h. given_whole facts n given o.trial k.formed m now (before_set facts n given o.trial m now o.has h);
  };
  inside = record {
    rows = k.inside.rows;
    trials = λ m now h. given_trial_in heap facts n given o.trial k.inside g m now (before_set facts n given o.trial m now o.has h);
  };
  over = record {
    rows = λ m p h now r e. given_over heap facts n p given o.trial k.over m h now r (before_set facts n given o.trial m now o.has e);
    givens = λ m now e. given_givens heap facts n given o.trial k.over o.over m now (before_set facts n given o.trial m now o.has e);
  };
  compares = λ table meets. record {
    by = λ m now h.
        given_fits header code heap facts n given o table meets m now (k.compares table meets).by (before_set facts n given o.trial m now o.has h);
  };
}

-- ---- more is looked at

abbrev narrower : Trial → Unseen → Trial
narrower trial unseen = record trial { unseen = unseen }

before_narrow : (facts : Facts) (n : ℕ) (trial : Trial) (unseen : Unseen) (k : ℕ) (now : Trial) → slice_get facts.trials n ≡ Some trial
    → slice_get (with_unseen facts n trial unseen).trials k ≡ Some now
    → (slice_get facts.trials k ≡ Some now) ⊎ ((k ≡ n) × (now ≡ narrower trial unseen) × (slice_get facts.trials k ≡ Some trial))
before_narrow facts n trial unseen k now has h = elim (set_cases facts.trials n (narrower trial unseen) k now h) [
  | inl a ↦ inl a
  | inr b ↦ inr (b.0, b.1, ap (slice_get facts.trials) b.0 ∙ has)
]

-- what is so of each trial, and of the one that has looked at more
narrow_all : (P : ℕ → Trial → Type 0) (facts : Facts) (n : ℕ) (trial : Trial) (unseen : Unseen) → slice_get facts.trials n ≡ Some trial
    → ((k : ℕ) (t : Trial) → slice_get facts.trials k ≡ Some t → P k t) → (P n trial → P n (narrower trial unseen))
    → (k : ℕ) (now : Trial) → slice_get (with_unseen facts n trial unseen).trials k ≡ Some now → P k now
narrow_all P facts n trial unseen has all more k now h = elim (before_narrow facts n trial unseen k now has h) [
  | inl old ↦ all k now old
  | inr is ↦ subst (λ t. P k t) (sym is.1) (subst (λ k. P k (narrower trial unseen)) (sym is.0) (more (all n trial has)))
]

less_whole : (entry : Entry) (before after : Unseen) → SeesMore before after → IsWhole entry before → IsWhole entry after
less_whole Start before after s w = (omega (arith, s.cells, w.0), omega (arith, s.under, w.1))
less_whole (Called target) before after s w = tt
less_whole (Stored site) before after s w = (omega (arith, s.cells, w.0), omega (arith, s.under, w.1))

cells_fewer : (heap : Heap) (trial : Trial) (unseen : Unseen) → TrialIn heap trial → SeesMore trial.unseen unseen
    → unseen_cells heap trial ≡ take (trial.unseen.cells - unseen.cells) (unseen_cells heap trial) ++ unseen_cells heap (narrower trial unseen)
cells_fewer heap trial unseen i s = lowest_fewer unseen.cells trial.unseen.cells (read heap.slots trial.taken) s.cells i.unseen_cells

under_fewer : (heap : Heap) (trial : Trial) (unseen : Unseen) → TrialIn heap trial → SeesMore trial.unseen unseen
    → unseen_under heap trial ≡ take (trial.unseen.under - unseen.under) (unseen_under heap trial) ++ unseen_under heap (narrower trial unseen)
under_fewer heap trial unseen i s = lowest_fewer unseen.under trial.unseen.under (read heap.slots trial.under) s.under i.unseen_under

over_narrow : (heap : Heap) (trial : Trial) (unseen : Unseen) (s : TopShape) → TrialIn heap trial → SeesMore trial.unseen unseen → IsOver heap trial s
    → IsOver heap (narrower trial unseen) s
over_narrow heap trial unseen s i m o =
    let a = take (trial.unseen.cells - unseen.cells) (unseen_cells heap trial) in
    let b = take (trial.unseen.under - unseen.under) (unseen_under heap trial) in
    record {
      own = deeper a b o.own;
      is = o.is ∙ ap (λ x. deeper x (unseen_under heap trial) o.own) (cells_fewer heap trial unseen i m)
          ∙ ap (λ y. deeper (a ++ unseen_cells heap (narrower trial unseen)) y o.own) (under_fewer heap trial unseen i m)
          ∙ deeper_then a b (unseen_cells heap (narrower trial unseen)) (unseen_under heap (narrower trial unseen)) o.own;
    }

given_narrow : (heap : Heap) (trial : Trial) (unseen : Unseen) (given : Option ℕ) → TrialIn heap trial → SeesMore trial.unseen unseen → GivenOver heap trial given
    → GivenOver heap (narrower trial unseen) given
given_narrow heap trial unseen None i m o = tt
given_narrow heap trial unseen (Some g) i m o =
    let a = take (trial.unseen.cells - unseen.cells) (unseen_cells heap trial) in (
      o.0 ++ a,
      o.1 ∙ ap (λ z. o.0 ++ z) (cells_fewer heap trial unseen i m) ∙ sym (append_assoc o.0 a (unseen_cells heap (narrower trial unseen))),
    )

narrow_current : (facts : Facts) (n : ℕ) (trial : Trial) (unseen : Unseen) → slice_get facts.trials n ≡ Some trial → (m : ℕ) (entry : Entry) → IsTrialOf facts m entry
    → IsTrialOf (with_unseen facts n trial unseen) m entry
narrow_current facts n trial unseen has m entry t = elim (cases_eq m n) [
  | inl e ↦ record {
    trial = narrower trial unseen;
    has = ap (slice_get (with_unseen facts n trial unseen).trials) e ∙ set_here facts.trials n _ (slice_get_within facts.trials n trial has);
    of = ap (λ (t : Trial). t.entry) (some_is trial t.trial (sym has ∙ ap (slice_get facts.trials) (sym e) ∙ t.has)) ∙ t.of;
  }
  | inr ne ↦ record { trial = t.trial; has = set_other facts.trials n _ m ne ∙ t.has; of = t.of }
]

pub keeps_narrow : (header : EngineTable) (code : List PlainOp) (heap : Heap) (facts : Facts) (n : ℕ) (trial : Trial) (unseen : Unseen)
    → Keeps header code heap facts → slice_get facts.trials n ≡ Some trial → SeesMore trial.unseen unseen → UnseenOwed header code heap facts n trial unseen
    → Keeps header code heap (with_unseen facts n trial unseen)
keeps_narrow header code heap facts n trial unseen k has m o = record {
  formed = record {
    currents = λ e j c. narrow_current facts n trial unseen has j e
        (k.formed.currents e j (sym (currents_same facts (with_unseen facts n trial unseen) e refl refl) ∙ c));
    firsts = narrow_all (λ j t. row_in facts.rows j (first_place t.entry) ≡ Some (first_held t)) facts n trial unseen has k.formed.firsts (λ f. f);
    owned = λ j p h r. let l = k.formed.owned j p h r in omega (arith, l, set_length facts.trials n (narrower trial unseen));
    start = narrow_all (λ j t. t.entry ≡ Start → (t.taken ≡ 0) × (t.under ≡ 0)) facts n trial unseen has k.formed.start (λ f. f);
    whole = narrow_all (λ j t. IsWhole t.entry t.unseen) facts n trial unseen has k.formed.whole (less_whole trial.entry trial.unseen unseen m);
  };
  inside = record {
    rows = k.inside.rows;
    trials = narrow_all (λ j t. TrialIn heap t) facts n trial unseen has k.inside.trials (λ t. record {
      taken = t.taken;
      under = t.under;
      given = t.given;
      unseen_cells = omega (arith, t.unseen_cells, m.cells);
      unseen_under = omega (arith, t.unseen_under, m.under);
      first_cells = (omega (arith, t.first_cells.0, m.cells), t.first_cells.1);
      first_under = (omega (arith, t.first_under.0, m.under), t.first_under.1);
    });
  };
  over = record {
    rows = λ j p h now r e.
        narrow_all (λ j t. row_in facts.rows j p ≡ Some h → IsOver heap t (shape_of heap h)) facts n trial unseen has
        (λ i t e r. k.over.rows i p h t r e) (λ f r. over_narrow heap trial unseen (shape_of heap h) (k.inside.trials n trial has) m (f r)) j now e r;
    givens = narrow_all (λ j t. GivenOver heap t t.given) facts n trial unseen has k.over.givens
        (given_narrow heap trial unseen trial.given (k.inside.trials n trial has) m);
  };
  compares = λ table meets. record {
    by = narrow_all (λ j t. TrialFits table heap (with_unseen facts n trial unseen) j t) facts n trial unseen has
        (λ j t e. same_rows table heap facts (with_unseen facts n trial unseen) j t refl ((k.compares table meets).by j t e))
        (λ g. let f = (k.compares table meets).by n trial has in
        let l = o.by table meets f in
        record { x = f.x; y = f.y; beyond = f.beyond; rows = f.rows; cells = l.0; under = l.1 });
  };
}
