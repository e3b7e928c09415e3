-- Once each row was looked at without finding anything, the table that was found meets the rules.
use Rattle.std.proofs.Common.{arith, ◌≡◌, ◌<◌, ℕ, List, [], ◌∷◌, ◌++◌, length, map, Option, None, Some, slice_get, inl, inr, sym, subst, ◌∙◌, ap, refl}
use Rattle.std.specs.Option.{option_map, option_and_then}
use Rattle.std.proofs.lemmas.List.{take-append-drop}
use Rattle.nwq_value.specs.Engine.{EngineTable}
use Rattle.ncs_code.specs.Plain.{PlainOp}
use Rattle.stack_shape.specs.declared.shape.Entry.{Entry}
use Rattle.stack_shape.specs.declared.shape.Entry.TheVariants.{Start, Called}
use Rattle.stack_shape.specs.Stored.{TopShape}
use Rattle.stack_rules.specs.Tables.{Callee, first_shape}
use Rattle.stack_rules.specs.Rules.{IsSound, MeetsRules}
use Rattle.stack_lists.specs.declared.held.Held.{Held}
use Rattle.stack_lists.specs.declared.held.Heap.{Heap}
use Rattle.stack_lists.specs.declared.todo.Spot.{Spot}
use Rattle.stack_check.specs.declared.facts.Trial.{Trial}
use Rattle.stack_check.specs.declared.facts.Facts.{Facts}
use Rattle.stack_check.specs.declared.seen.Seen.{Seen}
use Rattle.stack_check.specs.declared.seen.Seen.TheVariants.{Quiet, Changed, Bad}
use Rattle.stack_lists.specs.Shared.{read}
use Rattle.stack_lists.specs.Held.{shape_of}
use Rattle.stack_lists.specs.Rows.{row_in}
use Rattle.stack_lists.specs.Worklist.{Worklist, waiting}
use Rattle.stack_check.specs.Facts.{current, first_place, first_held, kept_callee, trial_table, unseen_cells, unseen_under}
use Rattle.stack_check.specs.Inference.{AreSettled, IsWhole, IsOver, TrialIn, Keeps, WhereQuiet, Sound, Sees, RowSound, SeesRow}
use Rattle.stack_lists.specs.Growth.{same_shape, read_empty}
use Rattle.stack_check.proofs.Calling.{taken_is, under_is}
use Rattle.stack_check.proofs.Settling.{settled_look, settled_none}
use Rattle.stack_check.proofs.Tables.{at_of, entry_is, found_in, whole_over}

some_is : {A : Type 0} (a b : A) → Some a ≡ Some b → a ≡ b
some_is a b h = cc

none_some : {A : Type 0} (P : Type 0) (a : A) → None ≡ Some a → P
none_some P a h = absurd cc

-- ---- one row

pub look_none : (header : EngineTable) (code : List PlainOp) (heap : Heap) (facts : Facts) → Keeps header code heap facts
    → SeesRow header code heap facts facts Quiet
look_none header code heap facts k = record { keeps = k; same = refl; takes = tt }

pub look_sees : (header : EngineTable) (code : List PlainOp) (heap heap' : Heap) (facts facts' : Facts) (number place : ℕ) (held : Held) (seen : Seen)
    → Sees header code heap heap' facts facts' number place held seen → SeesRow header code heap' facts facts' seen
look_sees header code heap heap' facts facts' number place held seen s = record { keeps = s.keeps; same = same seen s.quiet; takes = s.takes }
  where
    same : (seen : Seen) → WhereQuiet seen ((facts' ≡ facts) × Sound header code heap facts number place held) → WhereQuiet seen (facts' ≡ facts)
    same Quiet q = q.0
    same Changed q = tt
    same Bad q = tt

pub ruleset looking = (look_none, look_sees, settled_look, settled_none)

-- ---- the rules

each_sound : (header : EngineTable) (code : List PlainOp) (heap : Heap) (facts : Facts) → Keeps header code heap facts → ((n p : ℕ) → RowSound header code heap facts n p)
    → (entry : Entry) (place : ℕ) (shape : TopShape) → (trial_table heap facts).at entry place ≡ Some shape
    → IsSound header code (trial_table heap facts) entry place shape
each_sound header code heap facts k s entry place shape h =
    let f = found_in heap facts entry place shape h in
    let t = k.formed.currents entry f.number f.counts in
    let o = k.over.rows f.number place f.held t.trial f.row t.has in
    subst (λ shape. IsSound header code (trial_table heap facts) entry place shape)
    (some_is o.own shape (sym (at_of heap facts entry f.number place f.held t.trial k.formed f.counts t.has f.row o) ∙ h))
    (((s f.number place).by f.held f.row).by entry f.counts t.trial t.has o)

-- an entry begins with its trial's first shape
begins_at : (header : EngineTable) (code : List PlainOp) (heap : Heap) (facts : Facts) (entry : Entry) (n : ℕ) (trial : Trial) → Keeps header code heap facts
    → current facts entry ≡ Some n → slice_get facts.trials n ≡ Some trial → (o : IsOver heap trial (shape_of heap (first_held trial)))
    → (trial_table heap facts).at entry (first_place entry) ≡ Some o.own
begins_at header code heap facts entry n trial k c has o =
    at_of heap facts entry n (first_place entry) (first_held trial) trial k.formed c has
    (ap (λ e. row_in facts.rows n (first_place e)) (sym (entry_is facts n trial entry k.formed has c)) ∙ k.formed.firsts n trial has) o

-- what a called routine begins with, above what it hasn't looked at
abbrev first_over : (heap : Heap) (trial : Trial) → TrialIn heap trial → IsOver heap trial (shape_of heap (first_held trial))
first_over heap trial i = record {
  own = first_shape (kept_callee heap trial);
  is = same_shape _ _ _ _ _ _ _ _
      (sym (ap (λ z. z ++ unseen_cells heap trial) (taken_is heap trial i) ∙ take-append-drop _ (read heap.slots trial.taken)))
      (sym (ap (λ z. z ++ unseen_under heap trial) (under_is heap trial i) ∙ take-append-drop _ (read heap.slots trial.under)))
      (ap (map (read heap.slots)) (read_empty heap.saved)) refl;
}

callee_there : (heap : Heap) (facts : Facts) (c : Option ℕ) (callee : Callee) → option_map (kept_callee heap) (option_and_then (slice_get facts.trials) c) ≡ Some callee
    → (n : ℕ) × (trial : Trial) × (c ≡ Some n) × (slice_get facts.trials n ≡ Some trial) × (kept_callee heap trial ≡ callee)
callee_there heap facts None callee h =
    none_some ((n : ℕ) × (trial : Trial) × (None ≡ Some n) × (slice_get facts.trials n ≡ Some trial) × (kept_callee heap trial ≡ callee)) callee h
callee_there heap facts (Some n) callee h = trial_there (slice_get facts.trials n) refl h
  where
    trial_there : (o : Option Trial) → slice_get facts.trials n ≡ o → option_map (kept_callee heap) o ≡ Some callee
        → (m : ℕ) × (trial : Trial) × (Some n ≡ Some m) × (slice_get facts.trials m ≡ Some trial) × (kept_callee heap trial ≡ callee)
    trial_there None e h =
        none_some ((m : ℕ) × (trial : Trial) × (Some n ≡ Some m) × (slice_get facts.trials m ≡ Some trial) × (kept_callee heap trial ≡ callee)) callee h
    trial_there (Some trial) e h = (n, trial, refl, e, some_is (kept_callee heap trial) callee h)

meets : (header : EngineTable) (code : List PlainOp) (heap : Heap) (facts : Facts) → Keeps header code heap facts → ((n p : ℕ) → RowSound header code heap facts n p)
    → MeetsRules header code (trial_table heap facts)
meets header code heap facts k s = record {
  start =
      let t = k.formed.currents Start 0 refl in
      let z = k.formed.start 0 t.trial t.has t.of in
      let whole : IsWhole Start t.trial.unseen = subst (λ e. IsWhole e t.trial.unseen) t.of (k.formed.whole 0 t.trial t.has) in
      let o = whole_over heap t.trial (shape_of heap (first_held t.trial)) whole in
      begins_at header code heap facts Start 0 t.trial k refl t.has o
      ∙ ap Some (same_shape _ _ _ _ _ _ _ _ (ap (read heap.slots) z.0 ∙ read_empty heap.slots) (ap (read heap.slots) z.1 ∙ read_empty heap.slots)
      (ap (map (read heap.slots)) (read_empty heap.saved)) refl);
  entered = λ target callee h.
      let r = callee_there heap facts (current facts (Called target)) callee h in
      begins_at header code heap facts (Called target) r.0 r.1 k r.2 r.3 (first_over heap r.1 (k.inside.trials r.0 r.1 r.3)) ∙ ap (λ c. Some (first_shape c)) r.4;
  each = each_sound header code heap facts k s;
}

-- once nothing waits
pub meets_settled : (header : EngineTable) (code : List PlainOp) (heap : Heap) (facts : Facts) (w : Worklist) → Keeps header code heap facts
    → AreSettled header code heap facts w → waiting w ≡ [] → MeetsRules header code (trial_table heap facts)
meets_settled header code heap facts w k all none = meets header code heap facts k (λ n p. record {
  by = λ held r. elim (all.rows n p held r) [
    | inl i ↦ absurd (let l = i.1 in let z = ap (λ (xs : List Spot). length xs) none in omega (arith, l, z))
    | inr s ↦ s.sound
  ];
})
