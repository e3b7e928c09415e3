-- Stored states.
use Rattle.std.proofs.Common.{arith, ◌≡◌, ◌+◌, ℕ, ℤ, zero, suc, List, [], map, Option, None, Some, slice_get, sym, subst, ◌∙◌, ap, refl}
use Rattle.std.specs.Prelude.{get_or}
use Rattle.nwq_value.specs.Engine.{EngineTable}
use Rattle.ncs_code.specs.Plain.{PlainOp}
use Rattle.ncs_code.specs.Plain as ops
use Rattle.ncs_code.specs.File.{jump_place, op_at, resume_place}
use Rattle.stack_shape.specs.declared.shape.Slot.{Slot}
use Rattle.stack_shape.specs.declared.shape.Entry.TheVariants.{Stored}
use Rattle.stack_shape.specs.declared.store.StoredTypes.{StoredTypes}
use Rattle.stack_shape.specs.Stored.{TopShape, stored_shape, stored_types}
use Rattle.stack_shape.specs.Laws.{deeper, beneath_under, RuleLooksFromTop, StoresLookFromTop}
use Rattle.stack_shape.specs.Rule.{IsOneStep, rule}
use Rattle.stack_rules.specs.Tables.{ShapeTable}
use Rattle.stack_rules.specs.Rules.{AsksFurther}
use Rattle.stack_lists.specs.declared.held.Held.{Held}
use Rattle.stack_lists.specs.declared.held.Heap.{Heap}
use Rattle.stack_check.specs.declared.facts.Trial.{Trial}
use Rattle.stack_check.specs.declared.facts.Facts.{Facts}
use Rattle.stack_check.specs.declared.seen.Seen.{Seen}
use Rattle.stack_check.specs.declared.seen.Seen.TheVariants.{Quiet, Changed, Bad}
use Rattle.stack_check.specs.declared.leads.Kind.{Kind}
use Rattle.stack_check.specs.declared.leads.Kind.TheVariants.{Call, Return, Store, Step}
use Rattle.std.specs.Option.{option_map}
use Rattle.machine_rules.specs.Act.{next_place}
use Rattle.stack_lists.specs.Shared.{read}
use Rattle.stack_lists.specs.Held.{AfterStep, HeapGrows, IsIn, shape_of, stored_of}
use Rattle.stack_lists.specs.Rows.{row_in}
use Rattle.stack_check.specs.Facts.{current, number_in, trial_table, first_held, callee_of}
use Rattle.stack_check.specs.Inference.{IsWhole, TrialIn, Takes, Beyond, RowIs, Keeps, Visited, WhereQuiet, Owed, TrialBegins, Sound, Sees, SeesStep, Resumes, IsStored, Stores, StoresAs, IsPlain}
use Rattle.stack_check.specs.Inference.{IsCall, after_change, kind_of}
use Rattle.stack_lists.specs.Growth.{heap_then, heap_same, same_shape, still_shape}
use Rattle.stack_check.proofs.Windows.{deeper_none}
use Rattle.stack_check.proofs.Tables.{led_at, sound_before, whole_over}
use Rattle.stack_check.proofs.Following.{takes_both}
use Rattle.stack_check.proofs.Steps.{row_trial, table_follows, no_rule, no_op}

some_is : {A : Type 0} (a b : A) → Some a ≡ Some b → a ≡ b
some_is a b h = cc

-- ---- nothing beneath

deeper_empty : (x y : List Slot) (s : TopShape) → x ≡ [] → y ≡ [] → deeper x y s ≡ s
deeper_empty x y s e f = ap (λ x. deeper x y s) e ∙ ap (λ y. deeper [] y s) f ∙ deeper_none s

-- ---- the trial

pub counts_of : (facts : Facts) (site number : ℕ) → number ≡ get_or facts.stored site 0 → (number ≡ 0 → ⊥) → current facts (Stored site) ≡ Some number
counts_of facts site zero e ne = absurd (ne refl)
counts_of facts site (suc n) e ne = ap number_in (sym e)

pub counts_none : (facts : Facts) (site number : ℕ) → number ≡ get_or facts.stored site 0 → number ≡ 0 → current facts (Stored site) ≡ None
counts_none facts site number e z = ap number_in (sym e ∙ z)

pub ruleset counting = (counts_of, counts_none)

first_is : (heap : Heap) (held : Held) (site : ℕ) → (held.saved ≡ 0) × (held.pending ≡ 0)
    → shape_of heap (first_held
    (record {
      entry = Stored site;
      taken = held.cells;
      under = held.under;
      given = None;
      unseen = record { cells = 0; under = 0 };
      at_first = record { cells = 0; under = 0 };
    })) ≡ shape_of heap held
first_is heap held site z = same_shape _ _ _ _ _ _ _ _ refl refl (ap (λ n. map (read heap.slots) (read heap.saved n)) (sym z.0)) (sym z.1)

pub stored_begins : (header : EngineTable) (code : List PlainOp) (heap : Heap) (site : ℕ) (held : Held) → Resumes header code site (shape_of heap held)
    → (held.saved ≡ 0) × (held.pending ≡ 0)
    → TrialBegins header code heap
    (record {
      entry = Stored site;
      taken = held.cells;
      under = held.under;
      given = None;
      unseen = record { cells = 0; under = 0 };
      at_first = record { cells = 0; under = 0 };
    })
stored_begins header code heap site held r z = record {
  by = λ table meets. record {
    x = [];
    y = [];
    beyond = (refl, refl);
    first = record {
      own = shape_of heap held;
      known = r.by table meets;
      is = first_is heap held site z ∙ sym (deeper_none (shape_of heap held));
    };
    cells = omega arith;
    under = omega arith;
  };
  over = whole_over heap _ _ (refl, refl);
  whole = (refl, refl);
  given = refl;
  few = (omega arith, omega arith);
}

pub stored_in : (heap : Heap) (held : Held) (site : ℕ) → IsIn heap held
    → TrialIn heap (record { entry = Stored site; taken = held.cells; under = held.under; given = None; unseen = record { cells = 0; under = 0 }; at_first = record { cells = 0; under = 0 } })
stored_in heap held site i = record {
  taken = i.cells;
  under = i.under;
  given = tt;
  unseen_cells = omega arith;
  unseen_under = omega arith;
  first_cells = (omega arith, omega arith);
  first_under = (omega arith, omega arith);
}

pub stored_owed : (header : EngineTable) (code : List PlainOp) (heap : Heap) (facts : Facts) (site number : ℕ) (held : Held) → Keeps header code heap facts
    → Resumes header code site (shape_of heap held) → current facts (Stored site) ≡ Some number → Owed header code heap facts number (resume_place site) held
stored_owed header code heap facts site number held k r c =
    let t = k.formed.currents (Stored site) number c in
    record {
      trial = t.trial;
      has = t.has;
      by = λ table meets f.
          let none : (f.x ≡ []) × (f.y ≡ []) = subst (λ e. Beyond table e (callee_of heap t.trial) f.x f.y) t.of f.beyond in
          record {
            own = shape_of heap held;
            known = ap (λ e. table.at e (resume_place site)) t.of ∙ r.by table meets;
            is = sym (deeper_empty f.x f.y (shape_of heap held) none.0 none.1);
          };
      over = whole_over heap t.trial (shape_of heap held) (subst (λ e. IsWhole e t.trial.unseen) t.of (k.formed.whole number t.trial t.has));
    }

pub stored_quiet : (heap : Heap) (facts after : Facts) (site number : ℕ) (shape : TopShape) (seen : Seen) → current facts (Stored site) ≡ Some number
    → WhereQuiet seen ((after ≡ facts) × RowIs heap facts number (resume_place site) shape)
    → WhereQuiet seen ((after ≡ facts) × IsStored heap facts site shape)
stored_quiet heap facts after site number shape Quiet c q = (q.0, record { number = number; counts = c; row = q.1 })
stored_quiet heap facts after site number shape Changed c q = tt
stored_quiet heap facts after site number shape Bad c q = tt

pub ruleset resuming = (stored_begins, stored_in, stored_owed, stored_quiet)

-- ---- equal shapes

pub resumes_is : (header : EngineTable) (code : List PlainOp) (site : ℕ) (a b : TopShape) → b ≡ a → Resumes header code site a → Resumes header code site b
resumes_is header code site a b e r = record { by = λ table meets. r.by table meets ∙ ap Some (sym e) }

pub stored_is : (heap : Heap) (facts after : Facts) (site : ℕ) (a b : TopShape) (seen : Seen) → b ≡ a → WhereQuiet seen ((after ≡ facts) × IsStored heap facts site b)
    → WhereQuiet seen ((after ≡ facts) × IsStored heap facts site a)
stored_is heap facts after site a b seen e q = subst (λ s. WhereQuiet seen ((after ≡ facts) × IsStored heap facts site s)) e q

-- ---- STORE_STATE

stores_fit : (op : PlainOp) (shape own : TopShape) (types : StoredTypes) (table : ShapeTable) (site : ℕ) (x y : List Slot) → StoresLookFromTop → shape ≡ deeper x y own
    → Stores op shape types → AsksFurther table site op own → table.at (Stored site) (resume_place site) ≡ Some (stored_shape types)
stores_fit (ops.StoreState globals locals) shape own types table site x y law e s m =
    let found = law globals locals own.under own.cells x (beneath_under x y own.saved) m.types m.found in
    m.resumes ∙ ap (λ t. Some (stored_shape t)) (some_is m.types types
    (sym found ∙ ap (λ (s : TopShape). stored_types globals locals s.under s.cells) (sym e) ∙ s))
stores_fit op shape own types table site x y law e s m = absurd s

stores_one : (op : PlainOp) (shape : TopShape) (types : StoredTypes) → Stores op shape types → IsOneStep op
stores_one (ops.StoreState globals locals) shape types s = tt
stores_one op shape types s = absurd s

pub stored_resumes : StoresLookFromTop → (header : EngineTable) (code : List PlainOp) (heap : Heap) (facts : Facts) (n p : ℕ) (held : Held) (op : PlainOp)
    (types : StoredTypes) → Keeps header code heap facts → row_in facts.rows n p ≡ Some held → op_at code p ≡ Some op → Stores op (shape_of heap held) types
    → Resumes header code p (stored_shape types)
stored_resumes law header code heap facts n p held op types k r stands s = record {
  by = λ table meets.
      let i = row_trial header code heap facts n p held k r in
      let f = (k.compares table meets).by n i.0 i.1 in
      let a = f.rows p held r in
      let t = table_follows header code table i.0.entry p op a.own meets stands (stores_one op (shape_of heap held) types s) a.known in
      stores_fit op (shape_of heap held) a.own types table p f.x f.y law a.is s t.further;
}

-- where the rule is there the types are, and they are those of the deeper shape
stored_own : (globals locals : ℕ) (own after : TopShape) (o : Option StoredTypes) → stored_types globals locals own.under own.cells ≡ o
    → option_map (λ t. record own { pending = own.pending + 1 }) o ≡ Some after → (t : StoredTypes) × (stored_types globals locals own.under own.cells ≡ Some t)
stored_own globals locals own after None e h = absurd cc
stored_own globals locals own after (Some t) e h = (t, e)

-- what it asks for besides is there
further_stored : StoresLookFromTop → (header : EngineTable) (op : PlainOp) (shape own after : TopShape) (x y : List Slot) (types : StoredTypes) (table : ShapeTable)
    (site : ℕ) → Stores op shape types → shape ≡ deeper x y own → rule header op own ≡ Some after
    → table.at (Stored site) (resume_place site) ≡ Some (stored_shape types) → AsksFurther table site op own
unfolding rule
further_stored law header (ops.StoreState globals locals) shape own after x y types table site s is has e =
    let t = stored_own globals locals own after (stored_types globals locals own.under own.cells) refl has in
    let found = law globals locals own.under own.cells x (beneath_under x y own.saved) t.0 t.1 in
    let same = some_is t.0 types (sym found ∙ ap (λ (s : TopShape). stored_types globals locals s.under s.cells) (sym is) ∙ s) in
    record { types = t.0; found = t.1; resumes = e ∙ ap (λ t. Some (stored_shape t)) (sym same) }
further_stored law header op shape own after x y types table site s is has e = absurd s

-- the shape with which it resumes is the table's
resumes_at : (header : EngineTable) (code : List PlainOp) (a b : Heap) (facts : Facts) (site n : ℕ) (shape : TopShape) → Keeps header code a facts → HeapGrows a b
    → current facts (Stored site) ≡ Some n → RowIs b facts n (resume_place site) shape → (trial_table a facts).at (Stored site) (resume_place site) ≡ Some shape
resumes_at header code a b facts site n shape k g c r =
    let t = k.formed.currents (Stored site) n c in
    let w = whole_over a t.trial shape (subst (λ e. IsWhole e t.trial.unseen) t.of (k.formed.whole n t.trial t.has)) in
    led_at header code a b facts (Stored site) n (resume_place site) shape w.own t.trial k g c t.has r w.is

pub store_bad : (header : EngineTable) (code : List PlainOp) (a b : Heap) (facts facts' : Facts) (n p : ℕ) (held : Held) (op : PlainOp)
    → SeesStep header code a b facts facts' n p held op Bad → Sees header code a b facts facts' n p held Bad
store_bad header code a b facts facts' n p held op s = record { grows = s.grows; keeps = s.keeps; quiet = tt; takes = tt }

pub store_quiet : StoresLookFromTop → (header : EngineTable) (code : List PlainOp) (a b c : Heap) (facts mid facts' : Facts) (n p : ℕ) (held : Held) (op : PlainOp)
    (types : StoredTypes) (seen : Seen) → Keeps header code a facts → Stores op (shape_of a held) types → SeesStep header code a b facts mid n p held op Quiet
    → HeapGrows b c → Visited header code c facts' seen → WhereQuiet seen ((facts' ≡ mid) × IsStored c mid p (stored_shape types)) → Takes mid facts' seen
    → Sees header code a c facts facts' n p held seen
store_quiet law header code a b c facts mid facts' n p held op types seen k s first g v q t =
    record { grows = heap_then a b c first.grows g; keeps = v; quiet = quiet seen q; takes = subst (λ f. Takes f facts' seen) first.quiet.0 t }
  where
    quiet : (seen : Seen) → WhereQuiet seen ((facts' ≡ mid) × IsStored c mid p (stored_shape types)) → WhereQuiet seen ((facts' ≡ facts) × Sound header code a facts n p held)
    quiet Quiet q =
        let i : IsStored c facts p (stored_shape types) = subst (λ f. IsStored c f p (stored_shape types)) first.quiet.0 q.1 in (
          q.0 ∙ first.quiet.0,
          first.quiet.1 (λ trial h over after has. further_stored law header op (shape_of a held) over.own after _ _ types (trial_table a facts) p s over.is has
              (resumes_at header code a c facts p i.number (stored_shape types) k (heap_then a b c first.grows g) i.counts i.row)),
        )
    quiet Changed q = tt
    quiet Bad q = tt

pub store_changed : (header : EngineTable) (code : List PlainOp) (a b c : Heap) (facts mid facts' : Facts) (n p : ℕ) (held : Held) (op : PlainOp) (P : Type 0)
    (seen now : Seen) → SeesStep header code a b facts mid n p held op Changed → HeapGrows b c → Visited header code c facts' seen
    → WhereQuiet seen ((facts' ≡ mid) × P) → Takes mid facts' seen → now ≡ after_change seen → Sees header code a c facts facts' n p held now
store_changed header code a b c facts mid facts' n p held op P seen now first g v q t e =
    subst (λ s. Sees header code a c facts facts' n p held s) (sym e) (at seen v (takes_both P facts mid facts' seen (after_change seen) first.takes t q refl))
  where
    at : (seen : Seen) → Visited header code c facts' seen → Takes facts facts' (after_change seen) → Sees header code a c facts facts' n p held (after_change seen)
    at Quiet v t = record { grows = heap_then a b c first.grows g; keeps = v; quiet = tt; takes = t }
    at Changed v t = record { grows = heap_then a b c first.grows g; keeps = v; quiet = tt; takes = t }
    at Bad v t = record { grows = heap_then a b c first.grows g; keeps = v; quiet = tt; takes = tt }

-- with the shape that was made before the step
pub store_held : StoresLookFromTop → (header : EngineTable) (code : List PlainOp) (a b : Heap) (facts mid facts' : Facts) (n p : ℕ) (held stored : Held)
    (op : PlainOp) (seen : Seen) → Keeps header code a facts → StoresAs op (shape_of a held) (shape_of a stored) → IsIn a stored
    → SeesStep header code a b facts mid n p held op Quiet → Visited header code b facts' seen
    → WhereQuiet seen ((facts' ≡ mid) × IsStored b mid p (shape_of b stored)) → Takes mid facts' seen → Sees header code a b facts facts' n p held seen
store_held law header code a b facts mid facts' n p held stored op seen k s i first v q t =
    store_quiet law header code a b b facts mid facts' n p held op s.types seen k s.stores first (heap_same b) v
    (stored_is b mid facts' p (stored_shape s.types) (shape_of b stored) seen (still_shape a b stored first.grows i ∙ s.is) q) t

pub held_resumes : StoresLookFromTop → (header : EngineTable) (code : List PlainOp) (a b : Heap) (facts : Facts) (n p : ℕ) (held stored : Held) (op : PlainOp)
    → Keeps header code a facts → row_in facts.rows n p ≡ Some held → op_at code p ≡ Some op → StoresAs op (shape_of a held) (shape_of a stored)
    → IsIn a stored → HeapGrows a b → Resumes header code p (shape_of b stored)
held_resumes law header code a b facts n p held stored op k r stands s i g =
    resumes_is header code p (stored_shape s.types) (shape_of b stored) (still_shape a b stored g i ∙ s.is)
    (stored_resumes law header code a facts n p held op s.types k r stands s.stores)

pub ruleset storing = (store_bad, store_changed)

stored_none : (header : EngineTable) (op : PlainOp) (globals locals : ℕ) (s : TopShape) → op ≡ ops.StoreState globals locals
    → None ≡ stored_types globals locals s.under s.cells → rule header op s ≡ None
unfolding rule
stored_none header op globals locals s e h = ap (λ o. rule header o s) e ∙ ap (option_map (λ t. record s { pending = s.pending + 1 })) (sym h)

no_types : (o : Option StoredTypes) → option_map stored_shape o ≡ None → None ≡ o
no_types None h = refl
no_types (Some t) h = absurd cc

pub stores_none : RuleLooksFromTop → (header : EngineTable) (code : List PlainOp) (a b : Heap) (facts : Facts) (n p : ℕ) (held : Held) (op : PlainOp)
    (globals locals : ℕ) → Keeps header code a facts → row_in facts.rows n p ≡ Some held → op_at code p ≡ Some op → op ≡ ops.StoreState globals locals
    → HeapGrows a b × (option_map stored_shape (stored_of globals locals (shape_of a held)) ≡ None) → Sees header code a b facts facts n p held Bad
stores_none law header code a b facts n p held op globals locals k r stands e h = record {
  grows = h.0;
  keeps = no_rule law header code a facts n p held op k r stands (subst (λ o. IsOneStep o) (sym e) tt)
      (stored_none header op globals locals (shape_of a held) e (no_types (stored_of globals locals (shape_of a held)) h.1));
  quiet = tt;
  takes = tt;
}

stores_types : (o : Option StoredTypes) (resumed : TopShape) → option_map stored_shape o ≡ Some resumed → (t : StoredTypes) × (o ≡ Some t) × (resumed ≡ stored_shape t)
stores_types None resumed h = absurd cc
stores_types (Some t) resumed h = (t, refl, sym (some_is (stored_shape t) resumed h))

pub stores_as : (a b : Heap) (held stored : Held) (op : PlainOp) (globals locals : ℕ) → IsIn a held → op ≡ ops.StoreState globals locals
    → AfterStep a b (Some stored) (option_map stored_shape (stored_of globals locals (shape_of a held)))
    → StoresAs op (shape_of b held) (shape_of b stored)
stores_as a b held stored op globals locals i e h =
    let t = stores_types (stored_of globals locals (shape_of a held)) (shape_of b stored) h.2 in
    record {
      types = t.0;
      stores = subst (λ o. Stores o (shape_of b held) t.0) (sym e) (ap (stored_of globals locals) (still_shape a b held h.0 i) ∙ t.1);
      is = t.2;
    }

pub sees_before : (header : EngineTable) (code : List PlainOp) (a b c : Heap) (facts facts' : Facts) (n p : ℕ) (held : Held) (seen : Seen)
    → Keeps header code a facts → row_in facts.rows n p ≡ Some held → HeapGrows a b → Sees header code b c facts facts' n p held seen
    → Sees header code a c facts facts' n p held seen
sees_before header code a b c facts facts' n p held seen k r g s =
    record { grows = heap_then a b c g s.grows; keeps = s.keeps; quiet = quiet seen s.quiet; takes = s.takes }
  where
    quiet : (seen : Seen) → WhereQuiet seen ((facts' ≡ facts) × Sound header code b facts n p held)
        → WhereQuiet seen ((facts' ≡ facts) × Sound header code a facts n p held)
    quiet Quiet q = (q.0, sound_before header code a b facts n p held k g r q.1)
    quiet Changed q = tt
    quiet Bad q = tt

pub trial_none : (header : EngineTable) (code : List PlainOp) (heap : Heap) (facts : Facts) (n p : ℕ) (held : Held) → Keeps header code heap facts
    → row_in facts.rows n p ≡ Some held → None ≡ slice_get facts.trials n → ⊥
trial_none header code heap facts n p held k r none = let t = row_trial header code heap facts n p held k r in nothing t.0 (none ∙ t.1)
  where
    nothing : (t : Trial) → None ≡ Some t → ⊥
    nothing t h = absurd cc

-- ---- kinds

call_op : (place : ℕ) (op : PlainOp) (target : ℕ) → kind_of place op ≡ Call target → (offset : ℤ) × (op ≡ ops.Jsr offset) × (jump_place place offset ≡ target)
unfolding kind_of
call_op place (ops.Jsr o) target h = (o, refl, same (jump_place place o) target h)
  where
    same : (a b : ℕ) → Call a ≡ Call b → a ≡ b
    same a b h = cc
call_op place ops.Retn target h = absurd cc
call_op place (ops.StoreState g l) target h = absurd cc
call_op place op target h = absurd cc

pub call_stands : (code : List PlainOp) (place : ℕ) (op : PlainOp) (target : ℕ) (kind : Kind) → kind ≡ kind_of place op → kind ≡ Call target
    → op_at code place ≡ Some op → IsCall code place target
call_stands code place op target kind e c h =
    let o = call_op place op target (sym e ∙ c) in record { offset = o.0; stands = h ∙ ap Some o.1; leads = o.2 }

pub call_next : (place next : ℕ) (op : PlainOp) (target : ℕ) (kind : Kind) → kind ≡ kind_of place op → kind ≡ Call target → next ≡ next_place place op
    → next ≡ place + 6
call_next place next op target kind e c h = let o = call_op place op target (sym e ∙ c) in h ∙ ap (next_place place) o.1

return_op : (place : ℕ) (op : PlainOp) → kind_of place op ≡ Return → op ≡ ops.Retn
unfolding kind_of
return_op place (ops.Jsr o) h = absurd cc
return_op place ops.Retn h = refl
return_op place (ops.StoreState g l) h = absurd cc
return_op place op h = absurd cc

pub return_stands : (code : List PlainOp) (place : ℕ) (op : PlainOp) (kind : Kind) → kind ≡ kind_of place op → kind ≡ Return → op_at code place ≡ Some op
    → op_at code place ≡ Some ops.Retn
return_stands code place op kind e c h = h ∙ ap Some (return_op place op (sym e ∙ c))

pub store_op : (place : ℕ) (op : PlainOp) (globals locals : ℕ) (kind : Kind) → kind ≡ kind_of place op → kind ≡ Store globals locals → op ≡ ops.StoreState globals locals
unfolding kind_of
store_op place (ops.Jsr o) globals locals kind e h = absurd (no_call (jump_place place o) globals locals (sym e ∙ h))
  where
    no_call : (o g l : ℕ) → Call o ≡ Store g l → ⊥
    no_call o g l h = absurd cc
store_op place ops.Retn globals locals kind e h = absurd (no_return globals locals (sym e ∙ h))
  where
    no_return : (g l : ℕ) → Return ≡ Store g l → ⊥
    no_return g l h = absurd cc
store_op place (ops.StoreState g l) globals locals kind e h = same g l globals locals (sym e ∙ h)
  where
    same : (g l a b : ℕ) → Store g l ≡ Store a b → ops.StoreState g l ≡ ops.StoreState a b
    same g l a b h = ap (λ x. ops.StoreState x l) (first g l a b h) ∙ ap (ops.StoreState a) (second g l a b h)
      where
        first : (g l a b : ℕ) → Store g l ≡ Store a b → g ≡ a
        first g l a b h = cc

        second : (g l a b : ℕ) → Store g l ≡ Store a b → l ≡ b
        second g l a b h = cc
store_op place op globals locals kind e h = absurd (no_step globals locals (sym e ∙ h))
  where
    no_step : (g l : ℕ) → Step ≡ Store g l → ⊥
    no_step g l h = absurd cc

step_op : (place : ℕ) (op : PlainOp) → kind_of place op ≡ Step → IsOneStep op × IsPlain op
unfolding kind_of
step_op place (ops.Jsr o) h = absurd cc
step_op place ops.Retn h = absurd cc
step_op place (ops.StoreState g l) h = absurd cc
step_op place op h = (tt, tt)

pub step_one : (place : ℕ) (op : PlainOp) (kind : Kind) → kind ≡ kind_of place op → kind ≡ Step → IsOneStep op
step_one place op kind e h = (step_op place op (sym e ∙ h)).0

pub step_plain : (place : ℕ) (op : PlainOp) (kind : Kind) → kind ≡ kind_of place op → kind ≡ Step → IsPlain op
step_plain place op kind e h = (step_op place op (sym e ∙ h)).1

pub ruleset kinds = (call_stands, call_next, return_stands, store_op, step_one, step_plain)

pub no_op_bad : (header : EngineTable) (code : List PlainOp) (heap : Heap) (facts : Facts) (n p : ℕ) (held : Held) → Keeps header code heap facts
    → row_in facts.rows n p ≡ Some held → op_at code p ≡ None → Sees header code heap heap facts facts n p held Bad
no_op_bad header code heap facts n p held k r none =
    record { grows = heap_same heap; keeps = no_op header code heap facts n p held k r none; quiet = tt; takes = tt }
