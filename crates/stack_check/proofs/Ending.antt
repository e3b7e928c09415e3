-- The start and the end of the inference.
use Rattle.std.proofs.Common.{arith, ◌≡◌, ◌<◌, ◌≤◌, ◌+◌, ◌^◌, ℕ, zero, suc, List, [], ◌∷◌, ◌++◌, length, map, None, Some, slice_get, inl, inr, sym, subst, ◌∙◌, ap, refl}
use Rattle.std.specs.Prelude.{get_or}
use Rattle.nwq_value.specs.Engine.{EngineTable}
use Rattle.ncs_code.specs.Plain.{PlainOp}
use Rattle.stack_shape.specs.declared.shape.Entry.{Entry}
use Rattle.stack_shape.specs.declared.shape.Entry.TheVariants.{Start, Called, Stored}
use Rattle.stack_shape.specs.Laws.{deeper}
use Rattle.stack_rules.specs.Tables.{ShapeTable, empty_shape}
use Rattle.stack_rules.specs.Rules.{MeetsRules, WellStacked}
use Rattle.stack_lists.specs.declared.held.Held.{Held}
use Rattle.stack_lists.specs.declared.held.Heap.{Heap}
use Rattle.stack_lists.specs.declared.rows.ShapeRow.{ShapeRow}
use Rattle.stack_check.specs.declared.facts.Trial.{Trial}
use Rattle.stack_check.specs.declared.facts.Facts.{Facts}
use Rattle.stack_check.specs.declared.seen.Seen.{Seen}
use Rattle.stack_check.specs.declared.seen.Seen.TheVariants.{Quiet, Changed, Bad}
use Rattle.stack_lists.specs.Shared.{read}
use Rattle.stack_lists.specs.Held.{AllAtMost, IsIn, shape_of}
use Rattle.stack_lists.specs.Rows.{RowAdded, row_in}
use Rattle.stack_check.specs.Facts.{FindsMore, current, found, left, seen_of, number_in, first_place, first_held, callee_of, trial_table}
use Rattle.stack_check.specs.Checked.{CheckedCode, StoredStand, found_of, kept_table, most_turns}
use Rattle.stack_lists.specs.declared.todo.Spot.{Spot}
use Rattle.stack_lists.specs.Worklist.{SameCalls, Worklist, waiting}
use Rattle.std.proofs.lemmas.List.{length-append}
use Rattle.std.proofs.lemmas.List.Elements.{Contains-push}
use Rattle.std.specs.Prelude.{Contains}
use Rattle.stack_check.specs.Inference.{AreSettled, Goes, NothingNew, IsTrialOf, IsWhole, TrialIn, IsOver, GivenOver, Beyond, RowFits, TrialFits, Keeps, Visited, WhereQuiet}
use Rattle.stack_check.specs.Inference.{IsFound, SeesRow, SeesTurn, Takes}
use Rattle.stack_lists.specs.Growth.{same_shape, read_empty}
use Rattle.stack_check.proofs.Marking.{calls_few, marks_begin, marks_same}
use Rattle.stack_check.proofs.Meeting.{meets_settled}
use Rattle.stack_check.proofs.Settling.{settled_out, settled_same}
use Rattle.stack_check.proofs.Left.{total_under}
use Rattle.stack_check.proofs.Windows.{deeper_none}
use Rattle.stack_check.proofs.Tables.{at_of, found_in, whole_over, whole_own}

some_is : {A : Type 0} (a b : A) → Some a ≡ Some b → a ≡ b
some_is a b h = cc

none_some : {A : Type 0} (P : Type 0) (a : A) → None ≡ Some a → P
none_some P a h = absurd cc

-- ---- one turn

pub record DrainedSoFar (header : EngineTable) (code : List PlainOp) (heap : Heap) (before facts : Facts) (w : Worklist) : Type 0 where
  pub same : facts ≡ before
  pub keeps : Keeps header code heap facts
  pub settled : AreSettled header code heap facts w

pub drain_begin : (header : EngineTable) (code : List PlainOp) (heap : Heap) (facts : Facts) (w : Worklist) → Keeps header code heap facts
    → AreSettled header code heap facts w → DrainedSoFar header code heap facts facts w
drain_begin header code heap facts w k s = record { same = refl; keeps = k; settled = s }

pub drain_step : (header : EngineTable) (code : List PlainOp) (now next : Heap) (before facts after : Facts) (w v : Worklist) (seen : Seen)
    → DrainedSoFar header code now before facts w → SeesRow header code next facts after seen → Goes seen (AreSettled header code next after v) → seen ≡ Quiet
    → DrainedSoFar header code next before after v
drain_step header code now next before facts after w v seen s l g e = record {
  same = subst (λ s. WhereQuiet s (after ≡ facts)) e l.same ∙ s.same;
  keeps = subst (λ s. Visited header code next after s) e l.keeps;
  settled = subst (λ s. Goes s (AreSettled header code next after v)) e g;
}

pub drain_changed : (header : EngineTable) (code : List PlainOp) (now next : Heap) (before facts after : Facts) (w v : Worklist) (seen : Seen)
    → DrainedSoFar header code now before facts w → SeesRow header code next facts after seen → Goes seen (AreSettled header code next after v)
    → seen ≡ Changed → SeesTurn header code next before after v Changed
drain_changed header code now next before facts after w v seen s l g e = record {
  keeps = subst (λ s. Visited header code next after s) e l.keeps;
  settled = subst (λ s. Goes s (AreSettled header code next after v)) e g;
  quiet = tt;
  takes = subst (λ f. FindsMore f after) s.same (subst (λ s. Takes facts after s) e l.takes);
}

pub drain_bad : (header : EngineTable) (code : List PlainOp) (next : Heap) (before facts after : Facts) (v : Worklist) (seen : Seen)
    → SeesRow header code next facts after seen → seen ≡ Bad → SeesTurn header code next before after v Bad
drain_bad header code next before facts after v seen l e =
    record { keeps = subst (λ s. Visited header code next after s) e l.keeps; settled = tt; quiet = tt; takes = tt }

-- nothing waits
pub drain_done : (header : EngineTable) (code : List PlainOp) (heap : Heap) (before facts : Facts) (now out : Worklist)
    → DrainedSoFar header code heap before facts now → (waiting now ≡ []) × (waiting out ≡ []) → SameCalls now out
    → SeesTurn header code heap before facts out Quiet
drain_done header code heap before facts now out s e calls = record {
  keeps = s.keeps;
  settled = settled_same header code heap facts now out (e.1 ∙ sym e.0) calls s.settled;
  quiet = (s.same, meets_settled header code heap facts now s.keeps s.settled e.0);
  takes = tt;
}

-- what was handed out is waiting no more
pub drain_less : (a b c : Worklist) (spot : Spot) (seen : Seen) → waiting a ≡ waiting b ++ spot ∷ [] → NothingNew b c seen → seen ≡ Quiet
    → length (waiting c) < length (waiting a)
drain_less a b c spot seen h k e =
    let same : waiting c ≡ waiting b = subst (λ s. NothingNew b c s) e k in
    let x = ap (λ (z : List Spot). length z) same in
    let y = ap (λ (z : List Spot). length z) h ∙ length-append (waiting b) (spot ∷ []) in
    omega (arith, x, y)

pub ruleset draining = (drain_begin, drain_step, drain_changed, drain_bad, drain_done, drain_less, settled_out)

-- ---- the start

abbrev first_trial : Trial
first_trial = record { entry = Start; taken = 0; under = 0; given = None; unseen = record { cells = 0; under = 0 }; at_first = record { cells = 0; under = 0 } }

abbrev nothing_held : Held
nothing_held = record { cells = 0; under = 0; saved = 0; pending = 0 }

none_there : (k : ℕ) → get_or (let xs : List ℕ = [] in xs) k 0 ≡ 0
none_there zero = refl
none_there (suc k) = refl

no_row : (t p : ℕ) (h : Held) → row_in [] t p ≡ Some h → ⊥
unfolding row_in
no_row t p h r = none_some ⊥ h r

one_trial : (n : ℕ) (trial : Trial) → slice_get (first_trial ∷ []) n ≡ Some trial → (n ≡ 0) × (trial ≡ first_trial)
one_trial zero trial h = (refl, sym (some_is first_trial trial h))
one_trial (suc n) trial h = none_some ((suc n ≡ 0) × (trial ≡ first_trial)) trial h

first_shape_is : (heap : Heap) → shape_of heap nothing_held ≡ empty_shape
first_shape_is heap = same_shape _ _ _ _ _ _ _ _ (read_empty heap.slots) (read_empty heap.slots) (ap (map (read heap.slots)) (read_empty heap.saved)) refl

first_row : (rows : List ShapeRow) (t p : ℕ) (h : Held) → RowAdded [] rows 0 13 nothing_held → row_in rows t p ≡ Some h
    → (t ≡ 0) × (p ≡ 13) × (h ≡ nothing_held)
first_row rows t p h a r = elim (a.only t p h r) [
  | inl old ↦ absurd (no_row t p h old)
  | inr is ↦ is
]

start_in : (heap : Heap) → IsIn heap nothing_held
start_in heap = record {
  cells = omega arith;
  under = omega arith;
  saved = omega arith;
  each = subst (λ ns. AllAtMost (length heap.slots) ns) (sym (read_empty heap.saved)) tt;
}

start_current : (rows : List ShapeRow) (e : Entry) (n : ℕ) → current (record { trials = first_trial ∷ []; called = []; stored = []; rows = rows }) e ≡ Some n
    → IsTrialOf (record { trials = first_trial ∷ []; called = []; stored = []; rows = rows }) n e
start_current rows Start n c = subst (λ n. IsTrialOf (record { trials = first_trial ∷ []; called = []; stored = []; rows = rows }) n Start) (some_is 0 n c)
    (record { trial = first_trial; has = refl; of = refl })
start_current rows (Called t) n c =
    none_some (IsTrialOf (record { trials = first_trial ∷ []; called = []; stored = []; rows = rows }) n (Called t)) n (ap number_in (sym (none_there t)) ∙ c)
start_current rows (Stored t) n c =
    none_some (IsTrialOf (record { trials = first_trial ∷ []; called = []; stored = []; rows = rows }) n (Stored t)) n (ap number_in (sym (none_there t)) ∙ c)

start_fits : (header : EngineTable) (code : List PlainOp) (heap : Heap) (rows : List ShapeRow) (table : ShapeTable) → RowAdded [] rows 0 13 nothing_held
    → MeetsRules header code table → TrialFits table heap (record { trials = first_trial ∷ []; called = []; stored = []; rows = rows }) 0 first_trial
start_fits header code heap rows table a meets = record {
  x = [];
  y = [];
  beyond = (refl, refl);
  rows = λ p held r.
      let is = first_row rows 0 p held a r in
      subst (λ h. RowFits table Start p (shape_of heap h) [] []) (sym is.2)
      (subst (λ p. RowFits table Start p (shape_of heap nothing_held) [] []) (sym is.1)
      (record { own = empty_shape; known = meets.start; is = first_shape_is heap }));
  cells = omega arith;
  under = omega arith;
}

start_keeps : (header : EngineTable) (code : List PlainOp) (heap : Heap) (rows : List ShapeRow) → RowAdded [] rows 0 13 nothing_held
    → Keeps header code heap (record { trials = first_trial ∷ []; called = []; stored = []; rows = rows })
start_keeps header code heap rows a = record {
  formed = record {
    currents = λ e n c. start_current rows e n c;
    firsts = λ n trial h.
        let is = one_trial n trial h in
        subst (λ (t : Trial). row_in rows n (first_place t.entry) ≡ Some (first_held t)) (sym is.1)
        (subst (λ n. row_in rows n 13 ≡ Some nothing_held) (sym is.0) a.here);
    owned = λ n p h r. let is = first_row rows n p h a r in omega (arith, is.0);
    start = λ n trial h e. let is = one_trial n trial h in (ap (λ (t : Trial). t.taken) is.1, ap (λ (t : Trial). t.under) is.1);
    whole = λ n trial h. let is = one_trial n trial h in subst (λ (t : Trial). IsWhole t.entry t.unseen) (sym is.1) (refl, refl);
  };
  inside = record {
    rows = λ n p h r. let is = first_row rows n p h a r in subst (λ h. IsIn heap h) (sym is.2) (start_in heap);
    trials = λ n trial h. let is = one_trial n trial h in
        subst (λ t. TrialIn heap t) (sym is.1)
        (record {
          taken = omega arith;
          under = omega arith;
          given = tt;
          unseen_cells = omega arith;
          unseen_under = omega arith;
          first_cells = (omega arith, omega arith);
          first_under = (omega arith, omega arith);
        });
  };
  over = record {
    rows = λ n p h trial r e.
        let is = one_trial n trial e in
        subst (λ (t : Trial). IsOver heap t (shape_of heap h)) (sym is.1) (whole_over heap first_trial (shape_of heap h) (refl, refl));
    givens = λ n trial e. let is = one_trial n trial e in subst (λ (t : Trial). GivenOver heap t t.given) (sym is.1) tt;
  };
  compares = λ table meets. record {
    by = λ n trial h.
        let is = one_trial n trial h in
        subst (λ t. TrialFits table heap (record { trials = first_trial ∷ []; called = []; stored = []; rows = rows }) n t) (sym is.1)
        (subst (λ n. TrialFits table heap (record { trials = first_trial ∷ []; called = []; stored = []; rows = rows }) n first_trial) (sym is.0)
        (start_fits header code heap rows table a meets));
  };
}

pub starts : (header : EngineTable) (code : List PlainOp) (heap : Heap) (empty rows : List ShapeRow) (trials : List Trial) (called stored : List ℕ)
    → empty ≡ [] → RowAdded empty rows 0 13 nothing_held → trials ≡ [] ++ first_trial ∷ [] → called ≡ [] → stored ≡ []
    → Keeps header code heap (record { trials = trials; called = called; stored = stored; rows = rows })
starts header code heap empty rows trials called stored e a t c s =
    subst (λ ts. Keeps header code heap (record { trials = ts; called = called; stored = stored; rows = rows })) (sym t)
    (subst (λ ns. Keeps header code heap (record { trials = first_trial ∷ []; called = ns; stored = stored; rows = rows })) (sym c)
    (subst (λ ns. Keeps header code heap (record { trials = first_trial ∷ []; called = []; stored = ns; rows = rows })) (sym s)
    (start_keeps header code heap rows (subst (λ r. RowAdded r rows 0 13 nothing_held) e a))))

-- its first row waits
pub starts_settled : (header : EngineTable) (code : List PlainOp) (heap : Heap) (empty : List ShapeRow) (facts : Facts) (w v : Worklist) → empty ≡ []
    → RowAdded empty facts.rows 0 13 nothing_held → waiting v ≡ waiting w ++ record { trial = 0; place = 13 } ∷ [] → SameCalls w v
    → (w.calls ≡ []) × (w.marks ≡ []) → AreSettled header code heap facts v
starts_settled header code heap empty facts w v e a i calls none = record {
  rows = λ t p held r.
      let is = first_row facts.rows t p held (subst (λ rows. RowAdded rows facts.rows 0 13 nothing_held) e a) r in
      inl (subst (λ z. Contains z (record { trial = t; place = p })) (sym i)
      (subst (λ t. Contains (waiting w ++ record { trial = 0; place = 13 } ∷ []) (record { trial = t; place = p })) (sym is.0)
      (subst (λ p. Contains (waiting w ++ record { trial = 0; place = 13 } ∷ []) (record { trial = 0; place = p })) (sym is.1)
      (Contains-push (waiting w) (record { trial = 0; place = 13 })))));
  marks = marks_same code facts.rows w v calls (marks_begin code facts.rows w none.0 none.1);
}

pub one_waits : (w v : Worklist) (spot : Spot) → waiting v ≡ waiting w ++ spot ∷ [] → length (waiting v) ≡ length (waiting w) + 1
one_waits w v spot e = ap (λ (z : List Spot). length z) e ∙ length-append (waiting w) (spot ∷ [])

pub ruleset starting = (starts, starts_settled, one_waits)

-- ---- the end

pub ends_found : (header : EngineTable) (code : List PlainOp) (heap : Heap) (before facts : Facts) (w : Worklist) (seen : Seen)
    → SeesTurn header code heap before facts w seen → seen ≡ Quiet → IsFound header code heap facts
ends_found header code heap before facts w seen s e =
    record { keeps = subst (λ s. Visited header code heap facts s) e s.keeps; meets = (subst (λ s. WhereQuiet s ((facts ≡ before) × MeetsRules header code (trial_table heap facts))) e s.quiet).1 }

pub ends_none : (header : EngineTable) (code : List PlainOp) (heap : Heap) (before facts : Facts) (w : Worklist) (seen : Seen)
    → SeesTurn header code heap before facts w seen → seen ≡ Bad → WellStacked header code → ⊥
ends_none header code heap before facts w seen s e = subst (λ s. Visited header code heap facts s) e s.keeps

pub ends_few : (header : EngineTable) (code : List PlainOp) (heap : Heap) (before facts : Facts) (w : Worklist) (seen : Seen)
    → SeesTurn header code heap before facts w seen → seen ≡ Quiet → length w.calls ≤ length facts.rows
ends_few header code heap before facts w seen s e =
    let all : AreSettled header code heap facts w = subst (λ s. Goes s (AreSettled header code heap facts w)) e s.settled in calls_few code facts.rows w all.marks

pub goes_on : (header : EngineTable) (code : List PlainOp) (heap : Heap) (before facts : Facts) (w : Worklist) (seen : Seen)
    → SeesTurn header code heap before facts w seen → seen ≡ Changed → Keeps header code heap facts
goes_on header code heap before facts w seen s e = subst (λ s. Visited header code heap facts s) e s.keeps

pub goes_settled : (header : EngineTable) (code : List PlainOp) (heap : Heap) (before facts : Facts) (w : Worklist) (seen : Seen)
    → SeesTurn header code heap before facts w seen → seen ≡ Changed → AreSettled header code heap facts w
goes_settled header code heap before facts w seen s e = subst (λ s. Goes s (AreSettled header code heap facts w)) e s.settled

pub goes_down : (header : EngineTable) (code : List PlainOp) (heap : Heap) (before facts : Facts) (w : Worklist) (seen : Seen)
    → SeesTurn header code heap before facts w seen → seen ≡ Changed → FindsMore before facts
goes_down header code heap before facts w seen s e = subst (λ s. Takes before facts s) e s.takes

pub ruleset ending = (ends_found, ends_none, ends_few, goes_on, goes_settled, goes_down)

-- ---- turns

-- so many turns were taken, and each found something
pub record TurnedSoFar (begun : ℕ) (first : Facts) (turns : ℕ) (facts : Facts) : Type 0 where
  pub left : turns + left facts ≤ begun + left first
  pub found : turns + found first ≤ begun + found facts

pub turn_few : (begun : ℕ) (first : Facts) (turns : ℕ) (facts : Facts) → TurnedSoFar begun first turns facts → begun + left first < 2 ^ 63 → turns < 2 ^ 63
turn_few begun first turns facts s h = omega (arith, s.left, h)

-- ---- what was found at first

pub start_found : (rows : List ShapeRow) → length rows ≡ 1
    → (let f : Facts = record { trials = first_trial ∷ []; called = []; stored = []; rows = rows } in (found f ≡ 1) × (left f < 2 ^ 62))
unfolding found left
start_found rows e = (omega (arith, e), omega (arith, e))

pub starts_found : (empty rows : List ShapeRow) (trials : List Trial) (called stored : List ℕ) → empty ≡ [] → RowAdded empty rows 0 13 nothing_held
    → trials ≡ [] ++ first_trial ∷ [] → called ≡ [] → stored ≡ []
    → (let f : Facts = record { trials = trials; called = called; stored = stored; rows = rows } in (found f ≡ 1) × (left f < 2 ^ 62))
starts_found empty rows trials called stored e a t c s =
    let one : length rows ≡ 1 = (let l = ap (λ (rs : List ShapeRow). length rs) e in let m = a.more in omega (arith, l, m)) in
    subst (λ (f : Facts). (found f ≡ 1) × (left f < 2 ^ 62)) (sym (
    ap (λ ts. record { trials = ts; called = called; stored = stored; rows = rows }) t
    ∙ ap (λ ns. record { trials = first_trial ∷ []; called = ns; stored = stored; rows = rows }) c
    ∙ ap (λ ns. record { trials = first_trial ∷ []; called = []; stored = ns; rows = rows }) s)) (start_found rows one)

-- ---- no more than its rows and windows

seen_under : (heap : Heap) (trial : Trial) → TrialIn heap trial → seen_of trial ≤ found_of heap trial
seen_under heap trial i = omega (arith, i.first_cells.0, i.first_cells.1, i.first_under.0, i.first_under.1)

pub turns_under : (header : EngineTable) (code : List PlainOp) (c : CheckedCode) (turns : ℕ) → IsFound header code c.heap c.facts → turns ≤ found c.facts
    → turns ≤ most_turns c
unfolding found
turns_under header code c turns f h =
    let t = total_under seen_of (found_of c.heap) c.facts.trials (λ n t e. seen_under c.heap t (f.keeps.inside.trials n t e)) in omega (arith, h, t)

-- ---- what is kept

stored_stands : (header : EngineTable) (code : List PlainOp) (heap : Heap) (facts : Facts) (other : ShapeTable) → Keeps header code heap facts
    → MeetsRules header code other → StoredStand (trial_table heap facts) other
stored_stands header code heap facts other k meets = record {
  by = λ site place shape h.
      let r = found_in heap facts (Stored site) place shape h in
      let t = k.formed.currents (Stored site) r.number r.counts in
      let o = k.over.rows r.number place r.held t.trial r.row t.has in
      let shape_is : shape_of heap r.held ≡ shape =
      whole_own heap t.trial (shape_of heap r.held) o (subst (λ e. IsWhole e t.trial.unseen) t.of (k.formed.whole r.number t.trial t.has))
      ∙ some_is o.own shape (sym (at_of heap facts (Stored site) r.number place r.held t.trial k.formed r.counts t.has r.row o) ∙ h) in
      let f = (k.compares other meets).by r.number t.trial t.has in
      let a = f.rows place r.held r.row in
      let none : (f.x ≡ []) × (f.y ≡ []) = subst (λ e. Beyond other e (callee_of heap t.trial) f.x f.y) t.of f.beyond in
      ap (λ e. other.at e place) (sym t.of) ∙ a.known
      ∙ ap Some (sym (sym shape_is ∙ a.is ∙ ap (λ x. deeper x f.y a.own) none.0 ∙ ap (λ y. deeper [] y a.own) none.1 ∙ deeper_none a.own));
}

pub kept_stands : (header : EngineTable) (code : List PlainOp) (c : CheckedCode) (other : ShapeTable) → IsFound header code c.heap c.facts
    → MeetsRules header code other → StoredStand (kept_table c) other
unfolding kept_table
kept_stands header code c other f meets = stored_stands header code c.heap c.facts other f.keeps meets

pub kept_meets : (header : EngineTable) (code : List PlainOp) (c : CheckedCode) → IsFound header code c.heap c.facts → MeetsRules header code (kept_table c)
unfolding kept_table
kept_meets header code c f = f.meets

pub ruleset checking = (kept_stands, kept_meets)

pub empty_row : (rows : List ShapeRow) (t p : ℕ) → rows ≡ [] → row_in rows t p ≡ None
unfolding row_in
empty_row rows t p e = ap (λ rs. row_in rs t p) e
