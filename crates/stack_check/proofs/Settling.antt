-- What was looked at stays sound while more is found, but for a call of a routine of which more is known.
use Rattle.std.proofs.Common.{◌≡◌, ◌-◌, ℕ, ℤ, List, [], ◌∷◌, ◌++◌, length, take, Option, None, Some, slice_get, inl, inr, ◌⊎◌, sym, subst, ◌∙◌, ap, refl}
use Rattle.std.specs.Prelude.{Contains}
use Rattle.std.specs.Option.{option_map}
use Rattle.std.proofs.lemmas.List.{append_assoc}
use Rattle.std.proofs.lemmas.List.Elements.{Contains-push, Contains-push_cases}
use Rattle.nwq_value.specs.Engine.{EngineTable}
use Rattle.ncs_code.specs.Plain.{PlainOp}
use Rattle.ncs_code.specs.Plain as ops
use Rattle.ncs_code.specs.File.{jump_place, op_at, resume_place}
use Rattle.machine_rules.specs.Act.{next_place}
use Rattle.stack_shape.specs.declared.shape.Slot.{Slot}
use Rattle.stack_shape.specs.declared.shape.Entry.{Entry}
use Rattle.stack_shape.specs.declared.shape.Entry.TheVariants.{Start, Called, Stored}
use Rattle.stack_shape.specs.Stored.{TopShape, stored_shape}
use Rattle.stack_shape.specs.Laws.{RuleLooksFromTop, StoresLookFromTop, beneath_under, deeper, deeper_saved}
use Rattle.stack_rules.specs.Tables.{Callee, ShapeTable}
use Rattle.stack_rules.specs.Rules.{AsksFurther, Follows, GoesOnBehindCall, IsSound, MayCall, MayReturn, Obeys, Returns}
use Rattle.stack_lists.specs.declared.held.Held.{Held}
use Rattle.stack_lists.specs.declared.held.Heap.{Heap}
use Rattle.stack_lists.specs.declared.todo.Spot.{Spot}
use Rattle.stack_lists.specs.Shared.{read}
use Rattle.stack_lists.specs.Held.{HeapGrows, shape_of}
use Rattle.stack_lists.specs.Rows.{row_in}
use Rattle.stack_lists.specs.Worklist.{SameCalls, Worklist, waiting}
use Rattle.stack_lists.specs.Growth.{still_shape}
use Rattle.stack_check.specs.declared.facts.Trial.{Trial}
use Rattle.stack_check.specs.declared.facts.Facts.{Facts}
use Rattle.stack_check.specs.declared.leads.Kind.{Kind}
use Rattle.stack_check.specs.declared.leads.Kind.TheVariants.{Call, Return, Store, Step}
use Rattle.stack_check.specs.declared.seen.Seen.{Seen}
use Rattle.stack_check.specs.declared.seen.Seen.TheVariants.{Quiet, Changed, Bad}
use Rattle.stack_check.specs.Facts.{current, kept_callee, lowest, trial_table, unseen_cells, unseen_under, without}
use Rattle.stack_check.specs.Inference.{AreSettled, AreSettledBut, CallsWait, GivenOver, Goes, HandedIn, HandsIn, IsCall, IsCallKept, IsKept, IsOver, IsSettled, IsTrialOf, IsWhole, Keeps}
use Rattle.stack_check.specs.Inference.{NothingNew, Sees, Sound, Stays, TrialGrows, TrialIn, TrialStays, Visited, WaitsOrStands, WhereQuiet, kind_of}
use Rattle.stack_check.proofs.Windows.{deeper_then, lowest_fewer, without_on}
use Rattle.stack_check.proofs.Keeping.{cells_still, keeps_grows, under_still}
use Rattle.stack_check.proofs.Tables.{at_of, found_in, own_is, table_same, whole_over}
use Rattle.stack_check.proofs.Steps.{leads_from, leads_led, trial_there}
use Rattle.stack_check.proofs.Calling.{callee_known}
use Rattle.stack_check.proofs.Marking.{marks_same, same_target}

some_is : {A : Type 0} (a b : A) → Some a ≡ Some b → a ≡ b
some_is a b h = cc

none_some : {A : Type 0} (P : Type 0) (a : A) → None ≡ Some a → P
none_some P a h = absurd cc

-- ---- in a larger heap

abbrev over_back : (a b : Heap) (trial : Trial) (s t : TopShape) → HeapGrows a b → TrialIn a trial → t ≡ s → IsOver b trial t → IsOver a trial s
over_back a b trial s t g h e o = record {
  own = o.own;
  is = sym e ∙ o.is ∙ ap (λ x. deeper x (unseen_under b trial) o.own) (cells_still a b trial g h)
      ∙ ap (λ y. deeper (unseen_cells a trial) y o.own) (under_still a b trial g h);
}

sound_after : (header : EngineTable) (code : List PlainOp) (a b : Heap) (facts : Facts) (n p : ℕ) (held : Held) → Keeps header code a facts → HeapGrows a b
    → row_in facts.rows n p ≡ Some held → Sound header code a facts n p held → Sound header code b facts n p held
sound_after header code a b facts n p held k g r s = record {
  by = λ entry c trial has o.
      subst (λ t. IsSound header code t entry p o.own) (sym (table_same header code a b facts k g))
      (s.by entry c trial has (over_back a b trial (shape_of a held) (shape_of b held) g (k.inside.trials n trial has)
      (still_shape a b held g (k.inside.rows n p held r)) o));
}

-- ---- a window that has grown

-- what was looked at since
abbrev since_cells : Heap → Trial → Trial → List Slot
since_cells heap a b = take (a.unseen.cells - b.unseen.cells) (unseen_cells heap a)

abbrev since_under : Heap → Trial → Trial → List Slot
since_under heap a b = take (a.unseen.under - b.unseen.under) (unseen_under heap a)

cells_split : (heap : Heap) (a b : Trial) → TrialIn heap a → TrialGrows a b → unseen_cells heap a ≡ since_cells heap a b ++ unseen_cells heap b
cells_split heap a b i g =
    lowest_fewer b.unseen.cells a.unseen.cells (read heap.slots a.taken) g.unseen_cells i.unseen_cells
    ∙ ap (λ n. since_cells heap a b ++ lowest b.unseen.cells (read heap.slots n)) (sym g.taken)

under_split : (heap : Heap) (a b : Trial) → TrialIn heap a → TrialGrows a b → unseen_under heap a ≡ since_under heap a b ++ unseen_under heap b
under_split heap a b i g =
    lowest_fewer b.unseen.under a.unseen.under (read heap.slots a.under) g.unseen_under i.unseen_under
    ∙ ap (λ n. since_under heap a b ++ lowest b.unseen.under (read heap.slots n)) (sym g.under)

abbrev own_since : Heap → Trial → Trial → TopShape → TopShape
own_since heap a b own = deeper (since_cells heap a b) (since_under heap a b) own

own_split : (heap : Heap) (a b : Trial) (own : TopShape) → TrialIn heap a → TrialGrows a b
    → deeper (unseen_cells heap a) (unseen_under heap a) own ≡ deeper (unseen_cells heap b) (unseen_under heap b) (own_since heap a b own)
own_split heap a b own i g =
    ap (λ x. deeper x (unseen_under heap a) own) (cells_split heap a b i g)
    ∙ ap (λ y. deeper (since_cells heap a b ++ unseen_cells heap b) y own) (under_split heap a b i g)
    ∙ deeper_then (since_cells heap a b) (since_under heap a b) (unseen_cells heap b) (unseen_under heap b) own

abbrev over_since : (heap : Heap) (a b : Trial) (s : TopShape) → TrialIn heap a → TrialGrows a b → IsOver heap a s → IsOver heap b s
over_since heap a b s i g o = record { own = own_since heap a b o.own; is = o.is ∙ own_split heap a b o.own i g }

-- ---- the table

-- the shapes of the trial, with what was looked at since
at_since : (header : EngineTable) (code : List PlainOp) (heap : Heap) (f g : Facts) (w v : Worklist) (entry : Entry) (n : ℕ) (a b : Trial) → Keeps header code heap f
    → Keeps header code heap g → HandsIn code f g w v → current f entry ≡ Some n → current g entry ≡ Some n → slice_get f.trials n ≡ Some a
    → slice_get g.trials n ≡ Some b → TrialGrows a b → (q : ℕ) (s : TopShape) → (trial_table heap f).at entry q ≡ Some s
    → (trial_table heap g).at entry q ≡ Some (own_since heap a b s)
at_since header code heap f g w v entry n a b kf kg h c d has_a has_b grows q s at =
    let x = found_in heap f entry q s at in
    let r : row_in f.rows n q ≡ Some x.held = subst (λ m. row_in f.rows m q ≡ Some x.held) (some_is x.number n (sym x.counts ∙ c)) x.row in
    let o = kf.over.rows n q x.held a r has_a in
    at_of heap g entry n q x.held b kg.formed d has_b (h.grows.rows n q x.held r)
    (over_since heap a b (shape_of heap x.held) (kf.inside.trials n a has_a) grows o)
    ∙ ap (λ s. Some (own_since heap a b s)) (some_is o.own s (sym (at_of heap f entry n q x.held a kf.formed c has_a r o) ∙ at))

stored_since : (header : EngineTable) (code : List PlainOp) (heap : Heap) (f g : Facts) (w v : Worklist) → Keeps header code heap f → Keeps header code heap g
    → HandsIn code f g w v → (site q : ℕ) (s : TopShape) → (trial_table heap f).at (Stored site) q ≡ Some s → (trial_table heap g).at (Stored site) q ≡ Some s
stored_since header code heap f g w v kf kg h site q s at =
    let x = found_in heap f (Stored site) q s at in
    let t : IsTrialOf f x.number (Stored site) = kf.formed.currents (Stored site) x.number x.counts in
    let m : TrialStays g w v x.number t.trial = h.trials x.number t.trial t.has in
    let wf : IsWhole (Stored site) t.trial.unseen = subst (λ e. IsWhole e t.trial.unseen) t.of (kf.formed.whole x.number t.trial t.has) in
    let wg : IsWhole (Stored site) m.now.unseen = subst (λ e. IsWhole e m.now.unseen) (m.grows.entry ∙ t.of) (kg.formed.whole x.number m.now m.has) in
    let of = whole_over heap t.trial (shape_of heap x.held) wf in
    let og = whole_over heap m.now (shape_of heap x.held) wg in
    at_of heap g (Stored site) x.number q x.held m.now kg.formed (h.grows.counts (Stored site) x.number x.counts) m.has
    (h.grows.rows x.number q x.held x.row) og
    ∙ ap Some (some_is (shape_of heap x.held) s (sym (at_of heap f (Stored site) x.number q x.held t.trial kf.formed x.counts t.has x.row of) ∙ at))

-- ---- by instruction

-- The shapes of an entry stand in the other table with further slots beneath, those of stored states as they are.
record Moves (table table' : ShapeTable) (entry : Entry) (x y : List Slot) : Type 0 where
  at : (q : ℕ) (s : TopShape) → table.at entry q ≡ Some s → table'.at entry q ≡ Some (deeper x y s)
  stored : (site q : ℕ) (s : TopShape) → table.at (Stored site) q ≡ Some s → table'.at (Stored site) q ≡ Some s
  returns : (s : TopShape) → Returns table entry s → Returns table' entry (deeper x y s)

further_since : StoresLookFromTop → (table table' : ShapeTable) (entry : Entry) (x y : List Slot) → Moves table table' entry x y → (place : ℕ) (op : PlainOp) (own : TopShape)
    → AsksFurther table place op own → AsksFurther table' place op (deeper x y own)
further_since law table table' entry x y m place (ops.StoreState globals locals) own f = record {
  types = f.types;
  found = law globals locals own.under own.cells x (beneath_under x y own.saved) f.types f.found;
  resumes = m.stored place (resume_place place) (stored_shape f.types) f.resumes;
}
further_since law table table' entry x y m place op own f = tt

follows_since : RuleLooksFromTop → StoresLookFromTop → (header : EngineTable) (table table' : ShapeTable) (entry : Entry) (x y : List Slot) → Moves table table' entry x y
    → (place : ℕ) (op : PlainOp) (own : TopShape) → Follows header table entry place op own → Follows header table' entry place op (deeper x y own)
follows_since law stores header table table' entry x y m place op own f = record {
  after = deeper x y f.after;
  has_rule = law header op own f.after x y f.has_rule;
  leads = leads_from table' entry place op (deeper x y f.after) (λ t led. m.at t f.after (leads_led table entry place op f.after f.leads t led));
  further = further_since stores table table' entry x y m place op own f.further;
}

goes_since : (table table' : ShapeTable) (entry : Entry) (x y : List Slot) → Moves table table' entry x y → (next : ℕ) (own : TopShape) (rest : List Slot)
    → (given : Option (List Slot)) → GoesOnBehindCall table entry next own rest given → GoesOnBehindCall table' entry next (deeper x y own) (rest ++ x) given
goes_since table table' entry x y m next own rest None h = tt
goes_since table table' entry x y m next own rest (Some given) h =
    m.at next (record own { cells = given ++ rest }) h ∙ ap (λ z. Some (record (deeper x y own) { cells = z })) (append_assoc given rest x)

call_since : (table table' : ShapeTable) (entry : Entry) (x y : List Slot) → Moves table table' entry x y → (target next : ℕ) (own : TopShape)
    → ((callee : Callee) → table.called target ≡ Some callee → table'.called target ≡ Some callee) → MayCall table entry target next own
    → MayCall table' entry target next (deeper x y own)
call_since table table' entry x y m target next own same c = record {
  callee = c.callee;
  known = same c.callee c.known;
  rest = c.rest ++ x;
  cells = ap (λ z. z ++ x) c.cells ∙ append_assoc c.callee.taken c.rest x;
  deeper = c.deeper ++ beneath_under x y own.saved;
  under = ap (λ z. z ++ beneath_under x y own.saved) c.under ∙ append_assoc c.callee.under c.deeper (beneath_under x y own.saved);
  goes_on = goes_since table table' entry x y m next own c.rest c.callee.given c.goes_on;
}

-- of the routine that is called nothing more is known
abbrev CalledAlike : ShapeTable → ShapeTable → ℕ → PlainOp → Type 0
CalledAlike table table' place op = (offset : ℤ) → op ≡ ops.Jsr offset → (callee : Callee) → table.called (jump_place place offset) ≡ Some callee
    → table'.called (jump_place place offset) ≡ Some callee

obeys_since : RuleLooksFromTop → StoresLookFromTop → (header : EngineTable) (table table' : ShapeTable) (entry : Entry) (x y : List Slot) → Moves table table' entry x y
    → (place : ℕ) (op : PlainOp) (own : TopShape) → CalledAlike table table' place op → Obeys header table entry place op own
    → Obeys header table' entry place op (deeper x y own)
obeys_since law stores header table table' entry x y m place (ops.Jsr offset) own same h =
    call_since table table' entry x y m (jump_place place offset) (next_place place (ops.Jsr offset)) own (same offset refl) h
obeys_since law stores header table table' entry x y m place ops.Retn own same h = m.returns own h
obeys_since law stores header table table' entry x y m place op own same h = follows_since law stores header table table' entry x y m place op own h

-- ---- RETN

abbrev CutGiven : Heap → Trial → Option ℕ → Option (List Slot)
CutGiven heap trial given = option_map (λ g. without (unseen_cells heap trial) (read heap.slots g)) given

given_there : (heap : Heap) (trial : Trial) (o : Option ℕ) (cells : List Slot) → CutGiven heap trial o ≡ Some cells
    → (given : ℕ) × (o ≡ Some given) × (without (unseen_cells heap trial) (read heap.slots given) ≡ cells)
given_there heap trial None cells h =
    none_some ((given : ℕ) × (None ≡ Some given) × (without (unseen_cells heap trial) (read heap.slots given) ≡ cells)) cells h
given_there heap trial (Some given) cells h = (given, refl, some_is (without (unseen_cells heap trial) (read heap.slots given)) cells h)

-- what a routine gives, with what was looked at since
given_since : (heap : Heap) (a b : Trial) (cells : List Slot) → TrialIn heap a → TrialGrows a b → GivenOver heap a a.given → CutGiven heap a a.given ≡ Some cells
    → CutGiven heap b b.given ≡ Some (cells ++ since_cells heap a b)
given_since heap a b cells i g over h =
    let f = given_there heap a a.given cells h in
    let o : GivenOver heap a (Some f.0) = subst (λ o. GivenOver heap a o) f.1 over in
    let own : o.0 ≡ cells = sym (without_on o.0 (unseen_cells heap a)) ∙ ap (without (unseen_cells heap a)) (sym o.1) ∙ f.2 in
    let is : read heap.slots f.0 ≡ (cells ++ since_cells heap a b) ++ unseen_cells heap b =
    o.1 ∙ ap (λ z. z ++ unseen_cells heap a) own ∙ ap (λ z. cells ++ z) (cells_split heap a b i g)
    ∙ sym (append_assoc cells (since_cells heap a b) (unseen_cells heap b)) in
    ap (CutGiven heap b) (g.given f.0 f.1) ∙ ap (λ z. Some (without (unseen_cells heap b) z)) is
    ∙ ap Some (without_on (cells ++ since_cells heap a b) (unseen_cells heap b))

return_since : (header : EngineTable) (code : List PlainOp) (heap : Heap) (f g : Facts) (entry : Entry) (n : ℕ) (a b : Trial) → Keeps header code heap f
    → current f entry ≡ Some n → current g entry ≡ Some n → slice_get f.trials n ≡ Some a → slice_get g.trials n ≡ Some b → TrialGrows a b → (s : TopShape)
    → Returns (trial_table heap f) entry s → Returns (trial_table heap g) entry (own_since heap a b s)
return_since header code heap f g Start n a b k c d has_a has_b grows s r = tt
return_since header code heap f g (Stored site) n a b k c d has_a has_b grows s r = tt
return_since header code heap f g (Called target) n a b k c d has_a has_b grows s r =
    let is : kept_callee heap a ≡ r.callee = some_is _ _ (sym (callee_known heap f target n a c has_a) ∙ r.known) in
    record {
      callee = kept_callee heap b;
      known = callee_known heap g target n b d has_b;
      given = given_since heap a b s.cells (k.inside.trials n a has_a) grows (k.over.givens n a has_a) (ap (λ (o : Callee). o.given) is ∙ r.given);
      saved = ap (deeper_saved (since_cells heap a b) (since_under heap a b)) r.saved;
      pending = r.pending;
    }

-- ---- a row

abbrev IsJsr : PlainOp → Type 0
IsJsr (ops.Jsr offset) = Unit {0}
IsJsr op = ⊥

jsr_or : (op : PlainOp) → ((offset : ℤ) × (op ≡ ops.Jsr offset)) ⊎ ((offset : ℤ) → op ≡ ops.Jsr offset → ⊥)
jsr_or (ops.Jsr offset) = inl (offset, refl)
jsr_or op = inr (λ offset h. subst IsJsr (sym h) tt)

-- a row that is sound is so when more is known, but of the routine that it calls
sound_since : RuleLooksFromTop → StoresLookFromTop → (header : EngineTable) (code : List PlainOp) (heap : Heap) (f g : Facts) (w v : Worklist) (n p : ℕ) (held : Held)
    → Keeps header code heap f → Keeps header code heap g → HandsIn code f g w v → row_in f.rows n p ≡ Some held
    → ((op : PlainOp) → op_at code p ≡ Some op → CalledAlike (trial_table heap f) (trial_table heap g) p op) → Sound header code heap f n p held
    → Sound header code heap g n p held
sound_since law stores header code heap f g w v n p held kf kg h r same s = record {
  by = λ entry d b has_b over.
      let t = trial_there f.trials n (kf.formed.owned n p held r) in
      let x : TrialStays g w v n t.0 = h.trials n t.0 t.1 in
      let grows : TrialGrows t.0 b = subst (λ now. TrialGrows t.0 now) (some_is x.now b (sym x.has ∙ has_b)) x.grows in
      let c = h.grows.only entry n t.0 t.1 d in
      let i = kf.inside.trials n t.0 t.1 in
      let o = kf.over.rows n p held t.0 r t.1 in
      let old = s.by entry c t.0 t.1 o in
      subst (λ shape. IsSound header code (trial_table heap g) entry p shape)
      (own_is heap b (shape_of heap held) over (own_since heap t.0 b o.own) (o.is ∙ own_split heap t.0 b o.own i grows))
      (record {
        op = old.op;
        stands = old.stands;
        obeys = obeys_since law stores header (trial_table heap f) (trial_table heap g) entry (since_cells heap t.0 b) (since_under heap t.0 b)
            (record {
              at = at_since header code heap f g w v entry n t.0 b kf kg h c d t.1 has_b grows;
              stored = stored_since header code heap f g w v kf kg h;
              returns = return_since header code heap f g entry n t.0 b kf c d t.1 has_b grows;
            }) p old.op o.own (same old.op old.stands) old.obeys;
      });
}

-- The routine has the same trial as before, or its calls wait.
called_since : (header : EngineTable) (code : List PlainOp) (heap : Heap) (f g : Facts) (w v : Worklist) (target : ℕ) → Keeps header code heap f → HandsIn code f g w v
    → ((callee : Callee) → (trial_table heap f).called target ≡ Some callee → (trial_table heap g).called target ≡ Some callee) ⊎ CallsWait w v (Called target)
called_since header code heap f g w v target k h = counts (current f (Called target)) refl
  where
    alike : (m : ℕ) (t : Trial) → current f (Called target) ≡ Some m → slice_get f.trials m ≡ Some t → slice_get g.trials m ≡ Some t → (callee : Callee)
        → (trial_table heap f).called target ≡ Some callee → (trial_table heap g).called target ≡ Some callee
    alike m t c has now callee known = callee_known heap g target m t (h.grows.counts (Called target) m c) now ∙ sym (callee_known heap f target m t c has) ∙ known

    counts : (o : Option ℕ) → current f (Called target) ≡ o
        → ((callee : Callee) → (trial_table heap f).called target ≡ Some callee → (trial_table heap g).called target ≡ Some callee) ⊎ CallsWait w v (Called target)
    counts None e = inl (λ callee known. none_some ((trial_table heap g).called target ≡ Some callee) callee
        (sym (ap (λ c. option_map (kept_callee heap) (Rattle.std.specs.Option.option_and_then (slice_get f.trials) c)) e) ∙ known))
    counts (Some m) e =
        let t : IsTrialOf f m (Called target) = k.formed.currents (Called target) m e in
        let x : TrialStays g w v m t.trial = h.trials m t.trial t.has in
        elim x.known [
          | inl same ↦ inl (alike m t.trial e t.has (x.has ∙ ap Some same))
          | inr wait ↦ inr (subst (λ e. CallsWait w v e) t.of wait)
        ]

kept_stays : (code : List PlainOp) (a b : Worklist) (n p : ℕ) → Stays a b → IsCallKept code a n p → IsCallKept code b n p
kept_stays code a b n p s k = record {
  by = λ target call. s.calls target (record { spot = record { trial = n; place = p }; target = target }) (k.by target call);
}

settled_since : RuleLooksFromTop → StoresLookFromTop → (header : EngineTable) (code : List PlainOp) (heap : Heap) (f g : Facts) (w v : Worklist) (n p : ℕ) (held : Held)
    → Keeps header code heap f → Keeps header code heap g → HandsIn code f g w v → row_in f.rows n p ≡ Some held → IsSettled header code heap f w n p held
    → WaitsOrStands header code heap g v n p held
settled_since law stores header code heap f g w v n p held kf kg h r s = by_op (op_at code p) refl
  where
    stands : ((op : PlainOp) → op_at code p ≡ Some op → CalledAlike (trial_table heap f) (trial_table heap g) p op) → WaitsOrStands header code heap g v n p held
    stands same = inr (record {
      sound = sound_since law stores header code heap f g w v n p held kf kg h r same s.sound;
      kept = kept_stays code w v n p h.stays s.kept;
    })

    jsr_is : (i j : ℤ) → ops.Jsr i ≡ ops.Jsr j → i ≡ j
    jsr_is i j h = cc

    by_jsr : (offset : ℤ) → op_at code p ≡ Some (ops.Jsr offset) → WaitsOrStands header code heap g v n p held
    by_jsr offset e = elim (called_since header code heap f g w v (jump_place p offset) kf h) [
      | inl alike ↦ stands (λ op o other j callee.
          subst (λ offset. (trial_table heap f).called (jump_place p offset) ≡ Some callee → (trial_table heap g).called (jump_place p offset) ≡ Some callee)
          (jsr_is offset other (some_is (ops.Jsr offset) (ops.Jsr other) (sym e ∙ o ∙ ap Some j))) (alike callee))
      | inr wait ↦ inl (wait _ (s.kept.by (jump_place p offset) (record { offset = offset; stands = e; leads = refl })))
    ]

    by_op : (o : Option PlainOp) → op_at code p ≡ o → WaitsOrStands header code heap g v n p held
    by_op None e = stands (λ op o. none_some (CalledAlike (trial_table heap f) (trial_table heap g) p op) op (sym e ∙ o))
    by_op (Some op) e = elim (jsr_or op) [
      | inl j ↦ by_jsr j.0 (e ∙ ap Some j.1)
      | inr ne ↦ stands (λ other o offset j callee known. absurd (ne offset (some_is op other (sym e ∙ o) ∙ j)))
    ]

-- ---- all rows

row_since : RuleLooksFromTop → StoresLookFromTop → (header : EngineTable) (code : List PlainOp) (a b : Heap) (f g : Facts) (w v : Worklist) (n p : ℕ) (held : Held)
    → Keeps header code a f → Keeps header code b g → HeapGrows a b → HandsIn code f g w v → row_in f.rows n p ≡ Some held
    → WaitsOrStands header code a f w n p held → WaitsOrStands header code b g v n p held
row_since law stores header code a b f g w v n p held kf kg grows h r (inl i) = inl (h.stays.spots _ i)
row_since law stores header code a b f g w v n p held kf kg grows h r (inr s) =
    settled_since law stores header code b f g w v n p held (keeps_grows header code a b f grows kf) kg h r
    (record { sound = sound_after header code a b f n p held kf grows r s.sound; kept = s.kept })

row_stays : (header : EngineTable) (code : List PlainOp) (heap : Heap) (facts : Facts) (v w : Worklist) (n p : ℕ) (held : Held) → Stays v w
    → WaitsOrStands header code heap facts v n p held → WaitsOrStands header code heap facts w n p held
row_stays header code heap facts v w n p held s (inl i) = inl (s.spots _ i)
row_stays header code heap facts v w n p held s (inr t) = inr (record { sound = t.sound; kept = kept_stays code v w n p s t.kept })

rows_since : RuleLooksFromTop → StoresLookFromTop → (header : EngineTable) (code : List PlainOp) (a b : Heap) (f g : Facts) (w v end : Worklist) (spot : Spot)
    → Keeps header code a f → Keeps header code b g → HeapGrows a b → HandsIn code f g w v → Stays v end → SameCalls v end
    → AreSettledBut header code a f w spot
    → ((held : Held) → row_in g.rows spot.trial spot.place ≡ Some held → WaitsOrStands header code b g end spot.trial spot.place held)
    → AreSettled header code b g end
rows_since law stores header code a b f g w v end spot kf kg grows h s calls all last = record {
  rows = λ t p held r. elim (h.rows t p held r) [
    | inl old ↦ elim (all.rows t p held old) [
      | inl e ↦ subst (λ (z : Spot). row_in g.rows z.trial z.place ≡ Some held → WaitsOrStands header code b g end z.trial z.place held) (sym e) (last held) r
      | inr x ↦ row_stays header code b g v end t p held s (row_since law stores header code a b f g w v t p held kf kg grows h old x)
    ]
    | inr i ↦ inl (s.spots _ i)
  ];
  marks = marks_same code g.rows v end calls (h.marks all.marks);
}

-- ---- one look

pub settled_look : RuleLooksFromTop → StoresLookFromTop → (header : EngineTable) (code : List PlainOp) (a b : Heap) (f g : Facts) (w v end : Worklist) (spot : Spot)
    (held : Held) (seen : Seen) → Keeps header code a f → row_in f.rows spot.trial spot.place ≡ Some held → AreSettledBut header code a f w spot
    → Sees header code a b f g spot.trial spot.place held seen → HandsIn code f g w v → IsCallKept code v spot.trial spot.place → Stays v end → SameCalls v end
    → HandedIn v end spot seen → Goes seen (AreSettled header code b g end)
settled_look law stores header code a b f g w v end spot held Quiet k r all s h kept stays calls handed =
    rows_since law stores header code a b f g w v end spot k s.keeps s.grows h stays calls all (λ x e. inr (record {
      sound = subst (λ facts. Sound header code b facts spot.trial spot.place x) (sym s.quiet.0)
          (subst (λ x. Sound header code b f spot.trial spot.place x)
          (some_is held x (sym r ∙ ap (λ (facts : Facts). row_in facts.rows spot.trial spot.place) (sym s.quiet.0) ∙ e))
          (sound_after header code a b f spot.trial spot.place held k s.grows r s.quiet.1));
      kept = kept_stays code v end spot.trial spot.place stays kept;
    }))
settled_look law stores header code a b f g w v end spot held Changed k r all s h kept stays calls handed =
    rows_since law stores header code a b f g w v end spot k s.keeps s.grows h stays calls all
    (λ x e. inl (subst (λ z. Contains z spot) (sym handed) (Contains-push (waiting v) spot)))
settled_look law stores header code a b f g w v end spot held Bad k r all s h kept stays calls handed = tt

-- where there is no row
pub settled_none : (header : EngineTable) (code : List PlainOp) (heap : Heap) (facts : Facts) (w : Worklist) (spot : Spot)
    → None ≡ row_in facts.rows spot.trial spot.place → AreSettledBut header code heap facts w spot → AreSettled header code heap facts w
settled_none header code heap facts w spot none all = record {
  rows = λ t p held r. elim (all.rows t p held r) [
    | inl e ↦ none_some (WaitsOrStands header code heap facts w t p held) held (none ∙ ap (λ (z : Spot). row_in facts.rows z.trial z.place) (sym e) ∙ r)
    | inr x ↦ x
  ];
  marks = all.marks;
}

-- the spot is handed out
pub settled_out : (header : EngineTable) (code : List PlainOp) (heap : Heap) (facts : Facts) (now out : Worklist) (spot : Spot)
    → waiting now ≡ waiting out ++ spot ∷ [] → SameCalls now out → AreSettled header code heap facts now → AreSettledBut header code heap facts out spot
settled_out header code heap facts now out spot w calls all = record {
  rows = λ t p held r. elim (all.rows t p held r) [
    | inl i ↦ elim (Contains-push_cases (waiting out) spot (record { trial = t; place = p }) (subst (λ z. Contains z (record { trial = t; place = p })) w i)) [
      | inl j ↦ inr (inl j)
      | inr e ↦ inl (sym e)
    ]
    | inr s ↦ inr (inr (record {
      sound = s.sound;
      kept = record {
        by = λ target call. subst (λ z. Contains z (record { spot = record { trial = t; place = p }; target = target })) (sym (calls.by target))
            (s.kept.by target call);
      };
    }))
  ];
  marks = marks_same code facts.rows now out calls all.marks;
}

pub settled_same : (header : EngineTable) (code : List PlainOp) (heap : Heap) (facts : Facts) (a b : Worklist) → waiting b ≡ waiting a → SameCalls a b
    → AreSettled header code heap facts a → AreSettled header code heap facts b
settled_same header code heap facts a b w calls all = record {
  rows = λ t p held r. row_stays header code heap facts a b t p held
      (record {
        spots = λ spot i. subst (λ z. Contains z spot) (sym w) i;
        calls = λ target call i. subst (λ z. Contains z call) (sym (calls.by target)) i;
      }) (all.rows t p held r);
  marks = marks_same code facts.rows a b calls all.marks;
}

-- ---- the call of a row is kept

pub kept_call : (code : List PlainOp) (w : Worklist) (n p target : ℕ) → IsCall code p target → IsKept w target (record { trial = n; place = p }) → IsCallKept code w n p
kept_call code w n p target call k = record {
  by = λ other c. subst (λ t. IsKept w t (record { trial = n; place = p })) (same_target code p target other call c) k;
}

-- a place where there is no call
kept_none : (code : List PlainOp) (w : Worklist) (n p : ℕ) (op : PlainOp) → op_at code p ≡ Some op → ((offset : ℤ) → op ≡ ops.Jsr offset → ⊥) → IsCallKept code w n p
kept_none code w n p op stands ne = record { by = λ target c. absurd (ne c.offset (some_is op (ops.Jsr c.offset) (sym stands ∙ c.stands))) }

jsr_kind : (p : ℕ) (offset : ℤ) (op : PlainOp) → op ≡ ops.Jsr offset → kind_of p op ≡ Call (jump_place p offset)
unfolding kind_of
jsr_kind p offset op e = ap (kind_of p) e

pub kept_return : (code : List PlainOp) (w : Worklist) (n p : ℕ) (op : PlainOp) (kind : Kind) → op_at code p ≡ Some op → kind ≡ kind_of p op → kind ≡ Return
    → IsCallKept code w n p
kept_return code w n p op kind stands k e = kept_none code w n p op stands (λ offset h. never (jump_place p offset) (sym e ∙ k ∙ jsr_kind p offset op h))
  where
    never : (t : ℕ) → Return ≡ Call t → ⊥
    never t h = absurd cc

pub kept_store : (code : List PlainOp) (w : Worklist) (n p globals locals : ℕ) (op : PlainOp) (kind : Kind) → op_at code p ≡ Some op → kind ≡ kind_of p op
    → kind ≡ Store globals locals → IsCallKept code w n p
kept_store code w n p globals locals op kind stands k e =
    kept_none code w n p op stands (λ offset h. never (jump_place p offset) (sym e ∙ k ∙ jsr_kind p offset op h))
  where
    never : (t : ℕ) → Store globals locals ≡ Call t → ⊥
    never t h = absurd cc

pub kept_step : (code : List PlainOp) (w : Worklist) (n p : ℕ) (op : PlainOp) (kind : Kind) → op_at code p ≡ Some op → kind ≡ kind_of p op → kind ≡ Step
    → IsCallKept code w n p
kept_step code w n p op kind stands k e = kept_none code w n p op stands (λ offset h. never (jump_place p offset) (sym e ∙ k ∙ jsr_kind p offset op h))
  where
    never : (t : ℕ) → Step ≡ Call t → ⊥
    never t h = absurd cc

pub kept_nothing : (code : List PlainOp) (w : Worklist) (n p : ℕ) → None ≡ op_at code p → IsCallKept code w n p
kept_nothing code w n p none = record {
  by = λ target c. none_some (IsKept w target (record { trial = n; place = p })) (ops.Jsr c.offset) (none ∙ c.stands);
}

pub ruleset keeping = (kept_call, kept_return, kept_store, kept_step)
