-- The table that was found: each shape without what its trial hasn't looked at.
use Rattle.std.proofs.Common.{◌≡◌, ◌≤◌, ℕ, List, [], length, Option, None, Some, slice_get, sym, subst, ◌∙◌, ap, refl}
use Rattle.std.specs.Option.{option_map, option_and_then}
use Rattle.std.proofs.Math.Path.{fun_ext}
use Rattle.nwq_value.specs.Engine.{EngineTable}
use Rattle.ncs_code.specs.Plain.{PlainOp}
use Rattle.stack_shape.specs.declared.shape.Slot.{Slot}
use Rattle.stack_shape.specs.declared.shape.Entry.{Entry}
use Rattle.stack_shape.specs.declared.shape.Entry.TheVariants.{Start, Called, Stored}
use Rattle.stack_shape.specs.Stored.{TopShape}
use Rattle.stack_shape.specs.Laws.{deeper}
use Rattle.stack_rules.specs.Tables.{Callee, ShapeTable}
use Rattle.stack_rules.specs.Rules.{IsSound}
use Rattle.stack_lists.specs.declared.held.Held.{Held}
use Rattle.stack_lists.specs.declared.held.Heap.{Heap}
use Rattle.stack_check.specs.declared.facts.Trial.{Trial}
use Rattle.stack_check.specs.declared.facts.Facts.{Facts}
use Rattle.stack_lists.specs.Shared.{read}
use Rattle.stack_lists.specs.Held.{HeapGrows, shape_of}
use Rattle.stack_lists.specs.Rows.{row_in}
use Rattle.stack_check.specs.Facts.{current, lowest, unseen_cells, unseen_under, without, cut, cut_for, kept_callee, callee_at, shape_at, trial_table}
use Rattle.stack_check.specs.Inference.{Formed, TrialIn, IsWhole, IsOver, Keeps, RowIs, Sound}
use Rattle.stack_lists.specs.Growth.{still_shape}
use Rattle.stack_check.proofs.Keeping.{cells_still, under_still, over_still}
use Rattle.stack_check.proofs.Windows.{cut_deeper, deeper_none, lowest_none}

some_is : {A : Type 0} (a b : A) → Some a ≡ Some b → a ≡ b
some_is a b h = cc

none_some : {A : Type 0} (P : Type 0) (a : A) → None ≡ Some a → P
none_some P a h = absurd cc

-- the entry of a trial
pub entry_is : (facts : Facts) (n : ℕ) (trial : Trial) (entry : Entry) → Formed facts → slice_get facts.trials n ≡ Some trial → current facts entry ≡ Some n
    → trial.entry ≡ entry
entry_is facts n trial entry formed has c =
    let t = formed.currents entry n c in
    ap (λ (t : Trial). t.entry) (some_is trial t.trial (sym has ∙ t.has)) ∙ t.of

-- ---- the shape above what was not looked at

pub own_is : (heap : Heap) (trial : Trial) (s : TopShape) (a : IsOver heap trial s) (own : TopShape)
    → s ≡ deeper (unseen_cells heap trial) (unseen_under heap trial) own → own ≡ a.own
own_is heap trial s a own e =
    sym (cut_deeper (unseen_cells heap trial) (unseen_under heap trial) own) ∙ ap (cut_for heap trial) (sym e ∙ a.is)
    ∙ cut_deeper (unseen_cells heap trial) (unseen_under heap trial) a.own

-- nothing is unseen of a whole trial
pub none_cells : (heap : Heap) (trial : Trial) → trial.unseen.cells ≡ 0 → unseen_cells heap trial ≡ []
none_cells heap trial e = ap (λ n. lowest n (read heap.slots trial.taken)) e ∙ lowest_none (read heap.slots trial.taken)

pub none_under : (heap : Heap) (trial : Trial) → trial.unseen.under ≡ 0 → unseen_under heap trial ≡ []
none_under heap trial e = ap (λ n. lowest n (read heap.slots trial.under)) e ∙ lowest_none (read heap.slots trial.under)

pub whole_own : (heap : Heap) (trial : Trial) (s : TopShape) (o : IsOver heap trial s) → (trial.unseen.cells ≡ 0) × (trial.unseen.under ≡ 0) → s ≡ o.own
whole_own heap trial s o w =
    o.is ∙ ap (λ x. deeper x (unseen_under heap trial) o.own) (none_cells heap trial w.0) ∙ ap (λ y. deeper [] y o.own) (none_under heap trial w.1)
    ∙ deeper_none o.own

abbrev pub whole_over : (heap : Heap) (trial : Trial) (s : TopShape) → (trial.unseen.cells ≡ 0) × (trial.unseen.under ≡ 0) → IsOver heap trial s
whole_over heap trial s w = record {
  own = s;
  is = sym (ap (λ x. deeper x (unseen_under heap trial) s) (none_cells heap trial w.0) ∙ ap (λ y. deeper [] y s) (none_under heap trial w.1) ∙ deeper_none s);
}

-- ---- the table's shape

whole_at_of : (heap : Heap) (facts : Facts) (c : Option ℕ) (n p : ℕ) (held : Held) → c ≡ Some n → row_in facts.rows n p ≡ Some held
    → option_map (shape_of heap) (option_and_then (λ trial. row_in facts.rows trial p) c) ≡ Some (shape_of heap held)
whole_at_of heap facts c n p held e r =
    ap (λ c. option_map (shape_of heap) (option_and_then (λ trial. row_in facts.rows trial p) c)) e ∙ ap (option_map (shape_of heap)) r

cut_at_of : (heap : Heap) (facts : Facts) (c : Option ℕ) (n p : ℕ) (held : Held) (trial : Trial) → c ≡ Some n → slice_get facts.trials n ≡ Some trial
    → row_in facts.rows n p ≡ Some held
    → option_and_then (λ number. option_and_then (λ trial. option_map (λ held. cut_for heap trial (shape_of heap held)) (row_in facts.rows number p)) (slice_get facts.trials number)) c
    ≡ Some (cut_for heap trial (shape_of heap held))
cut_at_of heap facts c n p held trial e has r =
    ap (λ c. option_and_then (λ number. option_and_then (λ trial. option_map (λ held. cut_for heap trial (shape_of heap held)) (row_in facts.rows number p)) (slice_get facts.trials number)) c) e
    ∙ ap (λ t. option_and_then (λ trial. option_map (λ held. cut_for heap trial (shape_of heap held)) (row_in facts.rows n p)) t) has
    ∙ ap (option_map (λ held. cut_for heap trial (shape_of heap held))) r

at_entry : (heap : Heap) (facts : Facts) (entry : Entry) (n p : ℕ) (held : Held) (trial : Trial) → IsWhole entry trial.unseen → current facts entry ≡ Some n
    → slice_get facts.trials n ≡ Some trial → row_in facts.rows n p ≡ Some held → (o : IsOver heap trial (shape_of heap held)) → shape_at heap facts entry p ≡ Some o.own
at_entry heap facts Start n p held trial w c has r o =
    whole_at_of heap facts (current facts Start) n p held c r ∙ ap Some (whole_own heap trial (shape_of heap held) o w)
at_entry heap facts (Called target) n p held trial w c has r o =
    cut_at_of heap facts (current facts (Called target)) n p held trial c has r
    ∙ ap Some (ap (cut_for heap trial) o.is ∙ cut_deeper (unseen_cells heap trial) (unseen_under heap trial) o.own)
at_entry heap facts (Stored site) n p held trial w c has r o =
    whole_at_of heap facts (current facts (Stored site)) n p held c r ∙ ap Some (whole_own heap trial (shape_of heap held) o w)

pub at_of : (heap : Heap) (facts : Facts) (entry : Entry) (n p : ℕ) (held : Held) (trial : Trial) → Formed facts → current facts entry ≡ Some n
    → slice_get facts.trials n ≡ Some trial → row_in facts.rows n p ≡ Some held → (o : IsOver heap trial (shape_of heap held))
    → (trial_table heap facts).at entry p ≡ Some o.own
at_of heap facts entry n p held trial formed c has r o =
    at_entry heap facts entry n p held trial
    (subst (λ e. IsWhole e trial.unseen) (entry_is facts n trial entry formed has c) (formed.whole n trial has)) c has r o

-- ---- what stands in the table was found

pub record Found (heap : Heap) (facts : Facts) (entry : Entry) (p : ℕ) (shape : TopShape) : Type 0 where
  pub number : ℕ
  pub counts : current facts entry ≡ Some number
  pub held : Held
  pub row : row_in facts.rows number p ≡ Some held

found_number : (heap : Heap) (facts : Facts) (entry : Entry) (p : ℕ) (shape : TopShape) (c : Option ℕ) → current facts entry ≡ c
    → option_map (shape_of heap) (option_and_then (λ trial. row_in facts.rows trial p) c) ≡ Some shape → Found heap facts entry p shape
found_number heap facts entry p shape None e h = none_some (Found heap facts entry p shape) shape h
found_number heap facts entry p shape (Some n) e h = row (row_in facts.rows n p) refl h
  where
    row : (o : Option Held) → row_in facts.rows n p ≡ o → option_map (shape_of heap) o ≡ Some shape → Found heap facts entry p shape
    row None r h = none_some (Found heap facts entry p shape) shape h
    row (Some held) r h = record { number = n; counts = e; held = held; row = r }

found_cut : (heap : Heap) (facts : Facts) (entry : Entry) (p : ℕ) (shape : TopShape) (c : Option ℕ) → current facts entry ≡ c
    → option_and_then (λ number. option_and_then (λ trial. option_map (λ held. cut_for heap trial (shape_of heap held)) (row_in facts.rows number p)) (slice_get facts.trials number)) c
    ≡ Some shape → Found heap facts entry p shape
found_cut heap facts entry p shape None e h = none_some (Found heap facts entry p shape) shape h
found_cut heap facts entry p shape (Some n) e h = trial (slice_get facts.trials n) h
  where
    row : (t : Trial) (o : Option Held) → row_in facts.rows n p ≡ o → option_map (λ held. cut_for heap t (shape_of heap held)) o ≡ Some shape
        → Found heap facts entry p shape
    row t None r h = none_some (Found heap facts entry p shape) shape h
    row t (Some held) r h = record { number = n; counts = e; held = held; row = r }

    trial : (o : Option Trial)
        → option_and_then (λ trial. option_map (λ held. cut_for heap trial (shape_of heap held)) (row_in facts.rows n p)) o ≡ Some shape
        → Found heap facts entry p shape
    trial None h = none_some (Found heap facts entry p shape) shape h
    trial (Some t) h = row t (row_in facts.rows n p) refl h

pub found_in : (heap : Heap) (facts : Facts) (entry : Entry) (p : ℕ) (shape : TopShape) → (trial_table heap facts).at entry p ≡ Some shape → Found heap facts entry p shape
found_in heap facts Start p shape h = found_number heap facts Start p shape (current facts Start) refl h
found_in heap facts (Called target) p shape h = found_cut heap facts (Called target) p shape (current facts (Called target)) refl h
found_in heap facts (Stored site) p shape h = found_number heap facts (Stored site) p shape (current facts (Stored site)) refl h

-- ---- the same table in a larger heap

shape_same : (a b : Heap) (o : Option Held) → ((held : Held) → o ≡ Some held → shape_of b held ≡ shape_of a held) → option_map (shape_of b) o ≡ option_map (shape_of a) o
shape_same a b None h = refl
shape_same a b (Some held) h = ap Some (h held refl)

row_there : (facts : Facts) (c : Option ℕ) (place : ℕ) (held : Held) → option_and_then (λ t. row_in facts.rows t place) c ≡ Some held
    → (n : ℕ) × (row_in facts.rows n place ≡ Some held)
row_there facts None place held h = none_some ((n : ℕ) × (row_in facts.rows n place ≡ Some held)) held h
row_there facts (Some n) place held h = (n, h)

whole_same : (header : EngineTable) (code : List PlainOp) (a b : Heap) (facts : Facts) (c : Option ℕ) (place : ℕ) → Keeps header code a facts → HeapGrows a b
    → option_map (shape_of b) (option_and_then (λ t. row_in facts.rows t place) c) ≡ option_map (shape_of a) (option_and_then (λ t. row_in facts.rows t place) c)
whole_same header code a b facts c place k g = shape_same a b (option_and_then (λ t. row_in facts.rows t place) c)
    (λ held e. let r = row_there facts c place held e in still_shape a b held g (k.inside.rows r.0 place held r.1))

cut_for_same : (a b : Heap) (trial : Trial) (s t : TopShape) → HeapGrows a b → TrialIn a trial → t ≡ s → cut_for b trial t ≡ cut_for a trial s
cut_for_same a b trial s t g i e =
    ap (cut_for b trial) e ∙ ap (λ x. cut x (unseen_under b trial) s) (cells_still a b trial g i)
    ∙ ap (λ y. cut (unseen_cells a trial) y s) (under_still a b trial g i)

row_same : (a b : Heap) (trial : Trial) (o : Option Held) → HeapGrows a b → TrialIn a trial → ((held : Held) → o ≡ Some held → shape_of b held ≡ shape_of a held)
    → option_map (λ held. cut_for b trial (shape_of b held)) o ≡ option_map (λ held. cut_for a trial (shape_of a held)) o
row_same a b trial None g i h = refl
row_same a b trial (Some held) g i h = ap Some (cut_for_same a b trial (shape_of a held) (shape_of b held) g i (h held refl))

trial_same : (header : EngineTable) (code : List PlainOp) (a b : Heap) (facts : Facts) (n place : ℕ) (t : Option Trial) → Keeps header code a facts → HeapGrows a b
    → slice_get facts.trials n ≡ t
    → option_and_then (λ trial. option_map (λ held. cut_for b trial (shape_of b held)) (row_in facts.rows n place)) t
    ≡ option_and_then (λ trial. option_map (λ held. cut_for a trial (shape_of a held)) (row_in facts.rows n place)) t
trial_same header code a b facts n place None k g e = refl
trial_same header code a b facts n place (Some trial) k g e =
    row_same a b trial (row_in facts.rows n place) g (k.inside.trials n trial e) (λ held r. still_shape a b held g (k.inside.rows n place held r))

cut_same : (header : EngineTable) (code : List PlainOp) (a b : Heap) (facts : Facts) (c : Option ℕ) (place : ℕ) → Keeps header code a facts → HeapGrows a b
    → option_and_then (λ number. option_and_then (λ trial. option_map (λ held. cut_for b trial (shape_of b held)) (row_in facts.rows number place)) (slice_get facts.trials number)) c
    ≡ option_and_then (λ number. option_and_then (λ trial. option_map (λ held. cut_for a trial (shape_of a held)) (row_in facts.rows number place)) (slice_get facts.trials number)) c
cut_same header code a b facts None place k g = refl
cut_same header code a b facts (Some n) place k g = trial_same header code a b facts n place (slice_get facts.trials n) k g refl

entry_same : (header : EngineTable) (code : List PlainOp) (a b : Heap) (facts : Facts) (entry : Entry) (place : ℕ) → Keeps header code a facts → HeapGrows a b
    → shape_at b facts entry place ≡ shape_at a facts entry place
entry_same header code a b facts Start place k g = whole_same header code a b facts (current facts Start) place k g
entry_same header code a b facts (Called target) place k g = cut_same header code a b facts (current facts (Called target)) place k g
entry_same header code a b facts (Stored site) place k g = whole_same header code a b facts (current facts (Stored site)) place k g

given_same : (a b : Heap) (trial : Trial) (given : Option ℕ) → HeapGrows a b → TrialIn a trial → Rattle.std.specs.Prelude.IfSome given (λ g. g ≤ length a.slots)
    → option_map (λ g. without (unseen_cells b trial) (read b.slots g)) given ≡ option_map (λ g. without (unseen_cells a trial) (read a.slots g)) given
given_same a b trial None g i h = refl
given_same a b trial (Some n) g i h =
    ap Some (ap (without (unseen_cells b trial)) (g.slots.same n h) ∙ ap (λ x. without x (read a.slots n)) (cells_still a b trial g i))

callee_parts : (taken under taken' under' : List Slot) (given given' : Option (List Slot)) → taken ≡ taken' → under ≡ under' → given ≡ given'
    → (let c : Callee = record { taken = taken; under = under; given = given } in c) ≡ record { taken = taken'; under = under'; given = given' }
callee_parts taken under taken' under' given given' t u g =
    ap (λ t. record { taken = t; under = under; given = given }) t
    ∙ ap (λ u. record { taken = taken'; under = u; given = given }) u
    ∙ ap (λ g. record { taken = taken'; under = under'; given = g }) g

kept_same : (a b : Heap) (trial : Trial) → HeapGrows a b → TrialIn a trial → kept_callee b trial ≡ kept_callee a trial
kept_same a b trial g i = callee_parts _ _ _ _ _ _
    (ap (without (unseen_cells b trial)) (g.slots.same trial.taken i.taken) ∙ ap (λ x. without x (read a.slots trial.taken)) (cells_still a b trial g i))
    (ap (without (unseen_under b trial)) (g.slots.same trial.under i.under) ∙ ap (λ x. without x (read a.slots trial.under)) (under_still a b trial g i))
    (given_same a b trial trial.given g i i.given)

callee_same : (a b : Heap) (o : Option Trial) → ((trial : Trial) → o ≡ Some trial → kept_callee b trial ≡ kept_callee a trial)
    → option_map (kept_callee b) o ≡ option_map (kept_callee a) o
callee_same a b None h = refl
callee_same a b (Some trial) h = ap Some (h trial refl)

trial_has : (facts : Facts) (c : Option ℕ) (trial : Trial) → option_and_then (slice_get facts.trials) c ≡ Some trial
    → (n : ℕ) × (slice_get facts.trials n ≡ Some trial)
trial_has facts None trial h = none_some ((n : ℕ) × (slice_get facts.trials n ≡ Some trial)) trial h
trial_has facts (Some n) trial h = (n, h)

at_same : (header : EngineTable) (code : List PlainOp) (a b : Heap) (facts : Facts) → Keeps header code a facts → HeapGrows a b → shape_at b facts ≡ shape_at a facts
at_same header code a b facts k g = fun_ext (λ entry. fun_ext (λ place. entry_same header code a b facts entry place k g))

called_same : (header : EngineTable) (code : List PlainOp) (a b : Heap) (facts : Facts) → Keeps header code a facts → HeapGrows a b → callee_at b facts ≡ callee_at a facts
called_same header code a b facts k g = fun_ext (λ target.
    callee_same a b (option_and_then (slice_get facts.trials) (current facts (Called target)))
    (λ trial e. let t = trial_has facts (current facts (Called target)) trial e in kept_same a b trial g (k.inside.trials t.0 trial t.1)))

pub table_same : (header : EngineTable) (code : List PlainOp) (a b : Heap) (facts : Facts) → Keeps header code a facts → HeapGrows a b → trial_table b facts ≡ trial_table a facts
table_same header code a b facts k g =
    ap (λ (at : Entry → ℕ → Option TopShape). let t : ShapeTable = record { at = at; called = callee_at b facts } in t) (at_same header code a b facts k g)
    ∙ ap (λ (called : ℕ → Option Callee). let t : ShapeTable = record { at = shape_at a facts; called = called } in t) (called_same header code a b facts k g)

pub sound_before : (header : EngineTable) (code : List PlainOp) (a b : Heap) (facts : Facts) (n p : ℕ) (held : Held) → Keeps header code a facts → HeapGrows a b
    → row_in facts.rows n p ≡ Some held → Sound header code b facts n p held → Sound header code a facts n p held
sound_before header code a b facts n p held k g r s = record {
  by = λ entry c trial has o.
      subst (λ t. IsSound header code t entry p o.own) (table_same header code a b facts k g)
      (s.by entry c trial has (over_still a b trial (shape_of a held) (shape_of b held) g (k.inside.trials n trial has)
      (still_shape a b held g (k.inside.rows n p held r)) o));
}

-- a shape that was found in a larger heap is one of the table before
pub led_at : (header : EngineTable) (code : List PlainOp) (a b : Heap) (facts : Facts) (entry : Entry) (n p : ℕ) (shape own : TopShape) (trial : Trial)
    → Keeps header code a facts → HeapGrows a b → current facts entry ≡ Some n → slice_get facts.trials n ≡ Some trial → RowIs b facts n p shape
    → shape ≡ deeper (unseen_cells a trial) (unseen_under a trial) own → (trial_table a facts).at entry p ≡ Some own
led_at header code a b facts entry n p shape own trial k g c has r e =
    at_of a facts entry n p r.held trial k.formed c has r.row
    (record { own = own; is = sym (still_shape a b r.held g (k.inside.rows n p r.held r.row)) ∙ r.is ∙ e })
