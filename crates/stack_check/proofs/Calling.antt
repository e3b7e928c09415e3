-- Calls and returns, in what was found and in every table.
use Rattle.std.proofs.Common.{arith, ◌≡◌, ◌≤◌, ◌+◌, ℕ, ℤ, List, [], ◌∷◌, ◌++◌, length, map, Option, None, Some, slice_get, take, drop, ◌-◌, sym, subst, ◌∙◌, ap, refl}
use Rattle.std.specs.Option.{option_map, option_and_then}
use Rattle.std.proofs.lemmas.List.{append_assoc, append_cancel_right, drop-append-le, length-append, length-take, take-append-drop, take-append-le}
use Rattle.nwq_value.specs.Engine.{EngineTable}
use Rattle.ncs_code.specs.Plain.{PlainOp}
use Rattle.ncs_code.specs.Plain as ops
use Rattle.ncs_code.specs.File.{jump_place, op_at}
use Rattle.stack_shape.specs.declared.shape.Slot.{Slot}
use Rattle.stack_shape.specs.declared.shape.Entry.{Entry}
use Rattle.stack_shape.specs.declared.shape.Entry.TheVariants.{Called}
use Rattle.stack_shape.specs.Stored.{TopShape}
use Rattle.stack_shape.specs.Laws.{deeper, deeper_saved, beneath_under}
use Rattle.machine_rules.specs.Act.{next_place}
use Rattle.stack_rules.specs.Tables.{Callee, ShapeTable, first_shape}
use Rattle.stack_rules.specs.Rules.{GoesOnBehindCall, MayCall, MayReturn, Returns, Obeys, MeetsRules, WellStacked}
use Rattle.stack_lists.specs.declared.held.Held.{Held}
use Rattle.stack_lists.specs.declared.held.Heap.{Heap}
use Rattle.stack_check.specs.declared.facts.Trial.{Trial}
use Rattle.stack_check.specs.declared.facts.Facts.{Facts}
use Rattle.stack_lists.specs.Shared.{read}
use Rattle.stack_lists.specs.Held.{HeapGrows, shape_of}
use Rattle.stack_lists.specs.Rows.{row_in}
use Rattle.stack_check.specs.declared.facts.Unseen.{Unseen}
use Rattle.stack_check.specs.Facts.{current, callee_of, callee_at, first_held, kept_callee, lowest, trial_table, unseen_cells, unseen_under, without}
use Rattle.stack_check.specs.Inference.{BeginsAlike, GivenFits, GivenOver, IsLonger, IsOver, IsThere, LooksOwed, TrialIn, Within, Beyond, RowFits, TrialFits, Keeps, Owed, RowIs, FirstFits}
use Rattle.stack_check.specs.Inference.{TrialBegins, GivenOwed, Sound, window}
use Rattle.stack_lists.specs.Growth.{same_shape, read_empty}
use Rattle.stack_check.proofs.Steps.{row_trial}
use Rattle.stack_check.proofs.Tables.{entry_is, led_at, own_is}
use Rattle.stack_check.proofs.Windows.{lowest_length, without_on}

some_is : {A : Type 0} (a b : A) → Some a ≡ Some b → a ≡ b
some_is a b h = cc

none_some : {A : Type 0} (a : A) → None ≡ Some a → ⊥
none_some a h = absurd cc

-- ---- what a table says of a call

-- The caller's shape, in a table: what the routine takes there is on top of it, with these slots
-- beneath.
pub record CallFits (table : ShapeTable) (entry : Entry) (target next : ℕ) (shape : TopShape) (x y : List Slot) : Type 0 where
  pub own : TopShape
  pub is : shape ≡ deeper x y own
  pub callee : Callee
  pub known : table.called target ≡ Some callee
  pub rest : List Slot
  pub own_cells : own.cells ≡ callee.taken ++ rest
  pub beneath : List Slot
  pub cells : shape.cells ≡ callee.taken ++ (rest ++ x)
  pub under : shape.under ≡ callee.under ++ beneath
  pub goes_on : GoesOnBehindCall table entry next own rest callee.given

call_fits : (header : EngineTable) (code : List PlainOp) (table : ShapeTable) (entry : Entry) (place : ℕ) (offset : ℤ) (shape : TopShape)
    (x y : List Slot) → MeetsRules header code table → op_at code place ≡ Some (ops.Jsr offset) → RowFits table entry place shape x y
    → CallFits table entry (jump_place place offset) (next_place place (ops.Jsr offset)) shape x y
call_fits header code table entry place offset shape x y meets stands f =
    let s = meets.each entry place f.own f.known in
    let c : MayCall table entry (jump_place place offset) (next_place place (ops.Jsr offset)) f.own =
    subst (λ o. Obeys header table entry place o f.own) (some_is s.op (ops.Jsr offset) (sym s.stands ∙ stands)) s.obeys in
    record {
      own = f.own;
      is = f.is;
      callee = c.callee;
      known = c.known;
      rest = c.rest;
      own_cells = c.cells;
      beneath = c.deeper ++ beneath_under x y f.own.saved;
      cells = ap (λ (s : TopShape). s.cells) f.is ∙ ap (λ z. z ++ x) c.cells ∙ append_assoc c.callee.taken c.rest x;
      under = ap (λ (s : TopShape). s.under) f.is ∙ ap (λ z. z ++ beneath_under x y f.own.saved) c.under
          ∙ append_assoc c.callee.under c.deeper (beneath_under x y f.own.saved);
      goes_on = c.goes_on;
    }

-- ---- a routine's first shape

-- a trial that has looked at nothing yet
abbrev new_trial : Heap → ℕ → ℕ → ℕ → Unseen → Trial
new_trial heap target taken under unseen = record { entry = Called target; taken = taken; under = under; given = None; unseen = unseen; at_first = unseen }

-- a trial whose lists begin with what a table's routine takes
first_fits : (header : EngineTable) (code : List PlainOp) (table : ShapeTable) (heap : Heap) (target taken under : ℕ) (unseen : Unseen) (callee : Callee) (x y : List Slot)
    → MeetsRules header code table → table.called target ≡ Some callee → read heap.slots taken ≡ callee.taken ++ x → read heap.slots under ≡ callee.under ++ y
    → unseen.cells ≡ length (read heap.slots taken) → unseen.under ≡ length (read heap.slots under)
    → FirstFits table heap (new_trial heap target taken under unseen)
first_fits header code table heap target taken under unseen callee x y meets known c u uc uu = record {
  x = x;
  y = y;
  beyond = record { own = callee; known = known; taken = c; under = u; given = tt };
  first = record {
    own = first_shape callee;
    known = meets.entered target callee known;
    is = same_shape _ _ _ _ _ _ _ _ c u (ap (map (read heap.slots)) (read_empty heap.saved)) refl;
  };
  cells = let l = ap (λ (z : List Slot). length z) c ∙ length-append callee.taken x in omega (arith, l, uc);
  under = let l = ap (λ (z : List Slot). length z) u ∙ length-append callee.under y in omega (arith, l, uu);
}

lowest_all : (n : ℕ) (l : List Slot) → n ≡ length l → lowest n l ≡ l
lowest_all n l e = ap (λ k. drop k l) (let f : length l - n ≡ 0 = omega (arith, e) in f)

first_over : (heap : Heap) (target taken under : ℕ) (unseen : Unseen) → unseen.cells ≡ length (read heap.slots taken)
    → unseen.under ≡ length (read heap.slots under)
    → IsOver heap (new_trial heap target taken under unseen) (shape_of heap (first_held (new_trial heap target taken under unseen)))
first_over heap target taken under unseen uc uu = record {
  own = record { cells = []; under = []; saved = []; pending = 0 };
  is = same_shape _ _ _ _ _ _ _ _ (sym (lowest_all unseen.cells (read heap.slots taken) uc)) (sym (lowest_all unseen.under (read heap.slots under) uu))
      (ap (map (read heap.slots)) (read_empty heap.saved)) refl;
}

-- the first call of a routine
pub call_begins : (header : EngineTable) (code : List PlainOp) (heap : Heap) (facts : Facts) (n p : ℕ) (offset : ℤ) (held : Held) (unseen : Unseen)
    → Keeps header code heap facts → row_in facts.rows n p ≡ Some held → op_at code p ≡ Some (ops.Jsr offset)
    → unseen.cells ≡ length (read heap.slots held.cells) → unseen.under ≡ length (read heap.slots held.under) → unseen.cells ≤ 33554432 → unseen.under ≤ 33554432
    → TrialBegins header code heap (new_trial heap (jump_place p offset) held.cells held.under unseen)
call_begins header code heap facts n p offset held unseen k r stands uc uu fc fu = record {
  by = λ table meets.
      let i = row_trial header code heap facts n p held k r in
      let f = (k.compares table meets).by n i.0 i.1 in
      let c = call_fits header code table i.0.entry p offset (shape_of heap held) f.x f.y meets stands (f.rows p held r) in
      first_fits header code table heap (jump_place p offset) held.cells held.under unseen c.callee (c.rest ++ f.x) c.beneath meets c.known c.cells c.under uc uu;
  over = first_over heap (jump_place p offset) held.cells held.under unseen uc uu;
  whole = tt;
  given = refl;
  few = (fc, fu);
}

-- ---- what was looked at of a called routine's lists

-- In every table the routine takes all that was looked at.
pub record CalleeFits (table : ShapeTable) (heap : Heap) (target : ℕ) (trial : Trial) (callee : Callee) : Type 0 where
  pub x : List Slot
  pub y : List Slot
  pub taken : read heap.slots trial.taken ≡ callee.taken ++ x
  pub under : read heap.slots trial.under ≡ callee.under ++ y
  pub given : GivenFits (option_map (read heap.slots) trial.given) callee.given x
  pub cells_seen : (window heap trial).cells ≤ length callee.taken
  pub under_seen : (window heap trial).under ≤ length callee.under

callee_fits : (header : EngineTable) (code : List PlainOp) (heap : Heap) (facts : Facts) (m target : ℕ) (trial : Trial) (callee : Callee) → Keeps header code heap facts
    → slice_get facts.trials m ≡ Some trial → trial.entry ≡ Called target → (table : ShapeTable) → MeetsRules header code table → table.called target ≡ Some callee
    → CalleeFits table heap target trial callee
callee_fits header code heap facts m target trial callee k has e table meets known =
    let f = (k.compares table meets).by m trial has in
    let l : IsLonger table target (callee_of heap trial) f.x f.y = subst (λ e. Beyond table e (callee_of heap trial) f.x f.y) e f.beyond in
    let same = some_is l.own callee (sym l.known ∙ known) in
    let t = l.taken ∙ ap (λ (o : Callee). o.taken ++ f.x) same in
    let u = l.under ∙ ap (λ (o : Callee). o.under ++ f.y) same in
    record {
      x = f.x;
      y = f.y;
      taken = t;
      under = u;
      given = subst (λ (o : Callee). GivenFits (option_map (read heap.slots) trial.given) o.given f.x) same l.given;
      cells_seen = let n = ap (λ (z : List Slot). length z) t ∙ length-append callee.taken f.x in omega (arith, n, f.cells);
      under_seen = let n = ap (λ (z : List Slot). length z) u ∙ length-append callee.under f.y in omega (arith, n, f.under);
    }

-- both lists begin with what the table's routine takes
alike : (n : ℕ) (own a b x y : List Slot) → a ≡ own ++ x → b ≡ own ++ y → n ≤ length own → take n a ≡ take n b
alike n own a b x y e f h =
    ap (take n) e ∙ take-append-le n own x h ∙ sym (take-append-le n own y h) ∙ ap (take n) (sym f)

-- A call on a stack that doesn't begin with what was looked at: no table has it.
pub never_begins : (header : EngineTable) (code : List PlainOp) (heap : Heap) (facts : Facts) (n p : ℕ) (offset : ℤ) (held : Held) (m : ℕ) (trial : Trial)
    → Keeps header code heap facts → row_in facts.rows n p ≡ Some held → op_at code p ≡ Some (ops.Jsr offset) → slice_get facts.trials m ≡ Some trial
    → trial.entry ≡ Called (jump_place p offset) → (BeginsAlike heap held trial → ⊥) → WellStacked header code → ⊥
never_begins header code heap facts n p offset held m trial k r stands has e ne w =
    let i = row_trial header code heap facts n p held k r in
    let f = (k.compares w.0 w.1).by n i.0 i.1 in
    let c = call_fits header code w.0 i.0.entry p offset (shape_of heap held) f.x f.y w.1 stands (f.rows p held r) in
    let l = callee_fits header code heap facts m (jump_place p offset) trial c.callee k has e w.0 w.1 c.known in
    ne (record {
      cells = alike (window heap trial).cells c.callee.taken _ _ (c.rest ++ f.x) l.x c.cells l.taken l.cells_seen;
      under = alike (window heap trial).under c.callee.under _ _ c.beneath l.y c.under l.under l.under_seen;
    })

-- the called routine looks at slots that are there, in every table's own shape
pub call_looks : (header : EngineTable) (code : List PlainOp) (heap : Heap) (facts : Facts) (n p : ℕ) (offset : ℤ) (m : ℕ) (trial : Trial)
    → Keeps header code heap facts → op_at code p ≡ Some (ops.Jsr offset) → slice_get facts.trials m ≡ Some trial
    → trial.entry ≡ Called (jump_place p offset) → LooksOwed header code heap facts n p (window heap trial)
call_looks header code heap facts n p offset m trial k stands has e = record {
  by = λ table meets caller h own known.
      let s = meets.each caller.entry p own known in
      let c : MayCall table caller.entry (jump_place p offset) (next_place p (ops.Jsr offset)) own =
      subst (λ o. Obeys header table caller.entry p o own) (some_is s.op (ops.Jsr offset) (sym s.stands ∙ stands)) s.obeys in
      let l = callee_fits header code heap facts m (jump_place p offset) trial c.callee k has e table meets c.known in
      record {
        cells = let z = ap (λ (z : List Slot). length z) c.cells ∙ length-append c.callee.taken c.rest in omega (arith, z, l.cells_seen);
        under = let z = ap (λ (z : List Slot). length z) c.under ∙ length-append c.callee.under c.deeper in omega (arith, z, l.under_seen);
      };
}

take_there : (n : ℕ) (a b : List Slot) → take n a ≡ take n b → n ≤ length b → n ≤ length a
take_there n a b e h =
    let l = length-take n a in
    let m = length-take n b in
    let z = ap (λ (z : List Slot). length z) e in grind (arith, l, m, z, h)

pub call_there : (heap : Heap) (held : Held) (trial : Trial) → BeginsAlike heap held trial → IsThere (shape_of heap held) (window heap trial)
call_there heap held trial b = record {
  cells = take_there (window heap trial).cells _ (read heap.slots trial.taken) b.cells (omega arith);
  under = take_there (window heap trial).under _ (read heap.slots trial.under) b.under (omega arith);
}

-- ---- behind a call

-- what a routine gives, in a table
abbrev GivenHere : Option (List Slot) → List Slot → List Slot → Type 0
GivenHere own given x = (o : List Slot) × (own ≡ Some o) × (given ≡ o ++ x)

given_here : (own : Option (List Slot)) (given x : List Slot) → GivenFits (Some given) own x → GivenHere own given x
given_here None given x f = absurd f
given_here (Some o) given x f = (o, refl, f)

goes_on_given : (table : ShapeTable) (entry : Entry) (next : ℕ) (own : TopShape) (rest : List Slot) (given : Option (List Slot)) (o : List Slot) → given ≡ Some o
    → GoesOnBehindCall table entry next own rest given → table.at entry next ≡ Some (record own { cells = o ++ rest })
goes_on_given table entry next own rest given o e h = subst (λ g. GoesOnBehindCall table entry next own rest g) e h

-- so many slots of what was found to be given, over what lies beneath what was looked at
abbrev pub behind : Heap → Held → Trial → ℕ → List Slot
behind heap held trial given =
    take (length (read heap.slots given) - trial.unseen.cells) (read heap.slots given) ++ drop (window heap trial).cells (read heap.slots held.cells)

over_top : (g own x : List Slot) (n : ℕ) → g ≡ own ++ x → length x ≡ n → take (length g - n) g ≡ own
over_top g own x n e l =
    ap (λ z. take (length z - n) z) e
    ∙ ap (λ k. take k (own ++ x)) (let f : length (own ++ x) - n ≡ length (own ++ x) - length x = ap (λ n. length (own ++ x) - n) (sym l) in f) ∙ without_on own x

-- what a table says is given, in two parts
given_parts : (g own_table lx upper taken full : List Slot) (w : ℕ) → g ≡ own_table ++ lx → full ≡ taken ++ lx → w ≤ length taken → g ≡ upper ++ drop w full
    → own_table ≡ upper ++ drop w taken
given_parts g own_table lx upper taken full w e f h over =
    append_cancel_right own_table (upper ++ drop w taken) lx
    (sym e ∙ over ∙ ap (λ z. upper ++ drop w z) f ∙ ap (λ z. upper ++ z) (drop-append-le w taken lx h) ∙ sym (append_assoc upper (drop w taken) lx))

behind_is : (upper taken rest x cells own_table : List Slot) (w : ℕ) → cells ≡ taken ++ (rest ++ x) → w ≤ length taken → own_table ≡ upper ++ drop w taken
    → upper ++ drop w cells ≡ (own_table ++ rest) ++ x
behind_is upper taken rest x cells own_table w c h o =
    ap (λ z. upper ++ drop w z) c ∙ ap (λ z. upper ++ z) (drop-append-le w taken (rest ++ x) h) ∙ sym (append_assoc upper (drop w taken) (rest ++ x))
    ∙ ap (λ z. z ++ (rest ++ x)) (sym o) ∙ sym (append_assoc own_table rest x)

-- what was not looked at is what lies beneath what was
unseen_is : (heap : Heap) (trial : Trial) → unseen_cells heap trial ≡ drop (window heap trial).cells (read heap.slots trial.taken)
unseen_is heap trial = refl

-- every table has the shape behind a call of a routine of which it is known what it gives
behind_fits : (header : EngineTable) (code : List PlainOp) (heap : Heap) (facts : Facts) (table : ShapeTable) (entry : Entry) (target next : ℕ) (held : Held) (now : TopShape)
    (x y : List Slot) (trial : Trial) (given : ℕ) (c : CallFits table entry target next (shape_of heap held) x y) → CalleeFits table heap target trial c.callee
    → TrialIn heap trial → trial.given ≡ Some given → GivenOver heap trial (Some given)
    → now ≡ record (shape_of heap held) { cells = behind heap held trial given } → RowFits table entry next now x y
behind_fits header code heap facts table entry target next held now x y trial given c l i g over is =
    let h = given_here c.callee.given (read heap.slots given) l.x (subst (λ o. GivenFits (option_map (read heap.slots) o) c.callee.given l.x) g l.given) in
    let there = goes_on_given table entry next c.own c.rest c.callee.given h.0 h.1 c.goes_on in
    let upper = take (length (read heap.slots given) - trial.unseen.cells) (read heap.slots given) in
    let top = over_top (read heap.slots given) over.0 (unseen_cells heap trial) trial.unseen.cells over.1 (lowest_length trial.unseen.cells (read heap.slots trial.taken) i.unseen_cells) in
    let parts = given_parts (read heap.slots given) h.0 l.x upper c.callee.taken (read heap.slots trial.taken) (window heap trial).cells h.2 l.taken l.cells_seen
    (over.1 ∙ ap (λ z. z ++ unseen_cells heap trial) (sym top)) in
    let cells = behind_is upper c.callee.taken c.rest x (read heap.slots held.cells) h.0 (window heap trial).cells c.cells l.cells_seen parts in
    record {
      own = record c.own { cells = h.0 ++ c.rest };
      known = there;
      is = is ∙ ap (λ (s : TopShape). record s { cells = behind heap held trial given }) c.is ∙ ap (λ z. record (deeper x y c.own) { cells = z }) cells;
    }

-- ---- a call, on the shape above what the caller hasn't looked at

front_of : (w : ℕ) (own x s full : List Slot) → s ≡ own ++ x → take w s ≡ take w full → w ≤ length own → own ≡ take w full ++ drop w own
front_of w own x s full e f h =
    sym (take-append-drop w own) ∙ ap (λ z. z ++ drop w own) (sym (take-append-le w own x h) ∙ ap (take w) (sym e) ∙ f)

-- what a routine takes is what was looked at
pub taken_is : (heap : Heap) (trial : Trial) → TrialIn heap trial
    → (kept_callee heap trial).taken ≡ take (window heap trial).cells (read heap.slots trial.taken)
taken_is heap trial i =
    ap (λ n. take (length (read heap.slots trial.taken) - n) (read heap.slots trial.taken))
    (lowest_length trial.unseen.cells (read heap.slots trial.taken) i.unseen_cells)

pub under_is : (heap : Heap) (trial : Trial) → TrialIn heap trial
    → (kept_callee heap trial).under ≡ take (window heap trial).under (read heap.slots trial.under)
under_is heap trial i =
    ap (λ n. take (length (read heap.slots trial.under) - n) (read heap.slots trial.under))
    (lowest_length trial.unseen.under (read heap.slots trial.under) i.unseen_under)

given_cut : (heap : Heap) (trial : Trial) (given : ℕ) → TrialIn heap trial
    → without (unseen_cells heap trial) (read heap.slots given) ≡ take (length (read heap.slots given) - trial.unseen.cells) (read heap.slots given)
given_cut heap trial given i =
    ap (λ n. take (length (read heap.slots given) - n) (read heap.slots given))
    (lowest_length trial.unseen.cells (read heap.slots trial.taken) i.unseen_cells)

-- the shape behind the call, above what the caller hasn't looked at
pub behind_over : (heap : Heap) (held : Held) (caller trial : Trial) (given : ℕ) (own : TopShape)
    → shape_of heap held ≡ deeper (unseen_cells heap caller) (unseen_under heap caller) own → (window heap trial).cells ≤ length own.cells
    → record (shape_of heap held) { cells = behind heap held trial given } ≡ deeper (unseen_cells heap caller) (unseen_under heap caller)
    (record own { cells = take (length (read heap.slots given) - trial.unseen.cells) (read heap.slots given) ++ drop (window heap trial).cells own.cells })
behind_over heap held caller trial given own e h =
    let upper = take (length (read heap.slots given) - trial.unseen.cells) (read heap.slots given) in
    let w = (window heap trial).cells in
    ap (λ (s : TopShape). record s { cells = upper ++ drop w s.cells }) e
    ∙ ap (λ z. record (deeper (unseen_cells heap caller) (unseen_under heap caller) own) { cells = z })
    (ap (λ z. upper ++ z) (drop-append-le w own.cells (unseen_cells heap caller) h) ∙ sym (append_assoc upper (drop w own.cells) (unseen_cells heap caller)))

pub call_owed : (header : EngineTable) (code : List PlainOp) (heap : Heap) (facts : Facts) (n p : ℕ) (offset : ℤ) (held : Held) (m : ℕ)
    (trial : Trial) (given next : ℕ) (now : Held) → Keeps header code heap facts → row_in facts.rows n p ≡ Some held
    → op_at code p ≡ Some (ops.Jsr offset) → slice_get facts.trials m ≡ Some trial → trial.entry ≡ Called (jump_place p offset) → trial.given ≡ Some given
    → Within heap facts n (shape_of heap held) (window heap trial) → next ≡ next_place p (ops.Jsr offset)
    → shape_of heap now ≡ record (shape_of heap held) { cells = behind heap held trial given } → Owed header code heap facts n next now
call_owed header code heap facts n p offset held m trial given next now k r stands has e gives w at is = record {
  trial = w.trial;
  has = w.has;
  by = λ table meets f.
      let c = call_fits header code table w.trial.entry p offset (shape_of heap held) f.x f.y meets stands (f.rows p held r) in
      let l = callee_fits header code heap facts m (jump_place p offset) trial c.callee k has e table meets c.known in
      subst (λ q. RowFits table w.trial.entry q (shape_of heap now) f.x f.y) (sym at)
      (behind_fits header code heap facts table w.trial.entry (jump_place p offset) (next_place p (ops.Jsr offset)) held (shape_of heap now) f.x f.y trial given c l
      (k.inside.trials m trial has) gives (subst (λ o. GivenOver heap trial o) gives (k.over.givens m trial has)) is);
  over = record { own = _; is = is ∙ behind_over heap held w.trial trial given w.own w.is w.there.cells };
}

-- the caller's shape begins with what the routine takes
record CallParts (heap : Heap) (trial : Trial) (own : TopShape) : Type 0 where
  deeper : List Slot
  cells : own.cells ≡ (kept_callee heap trial).taken ++ drop (window heap trial).cells own.cells
  under : own.under ≡ (kept_callee heap trial).under ++ deeper

call_parts : (heap : Heap) (facts : Facts) (n : ℕ) (held : Held) (caller trial : Trial) (over : IsOver heap caller (shape_of heap held)) → TrialIn heap trial
    → slice_get facts.trials n ≡ Some caller → BeginsAlike heap held trial → Within heap facts n (shape_of heap held) (window heap trial)
    → IsThere over.own (window heap trial) × CallParts heap trial over.own
call_parts heap facts n held caller trial over i has b w =
    let same = some_is w.trial caller (sym w.has ∙ has) in
    let own = own_is heap caller (shape_of heap held) over w.own (w.is ∙ ap (λ t. Rattle.stack_shape.specs.Laws.deeper (unseen_cells heap t) (unseen_under heap t) w.own) same) in
    let t = subst (λ s. IsThere s (window heap trial)) own w.there in (
      t,
      record {
        deeper = drop (window heap trial).under over.own.under;
        cells = front_of (window heap trial).cells over.own.cells (unseen_cells heap caller) (read heap.slots held.cells) (read heap.slots trial.taken)
            (ap (λ (s : TopShape). s.cells) over.is) b.cells t.cells
            ∙ ap (λ z. z ++ drop (window heap trial).cells over.own.cells) (sym (taken_is heap trial i));
        under = front_of (window heap trial).under over.own.under (beneath_under (unseen_cells heap caller) (unseen_under heap caller) over.own.saved)
            (read heap.slots held.under) (read heap.slots trial.under) (ap (λ (s : TopShape). s.under) over.is) b.under t.under
            ∙ ap (λ z. z ++ drop (window heap trial).under over.own.under) (sym (under_is heap trial i));
      },
    )

pub callee_known : (heap : Heap) (facts : Facts) (target m : ℕ) (trial : Trial) → current facts (Called target) ≡ Some m → slice_get facts.trials m ≡ Some trial
    → callee_at heap facts target ≡ Some (kept_callee heap trial)
callee_known heap facts target m trial c has =
    ap (λ o. option_map (kept_callee heap) (option_and_then (slice_get facts.trials) o)) c ∙ ap (option_map (kept_callee heap)) has

abbrev CutGiven : Heap → Trial → Option ℕ → Option (List Slot)
CutGiven heap trial given = option_map (λ g. without (unseen_cells heap trial) (read heap.slots g)) given

pub call_sound_none : (header : EngineTable) (code : List PlainOp) (heap : Heap) (facts : Facts) (n p : ℕ) (offset : ℤ) (held : Held) (m : ℕ)
    (trial : Trial) → Keeps header code heap facts → op_at code p ≡ Some (ops.Jsr offset) → current facts (Called (jump_place p offset)) ≡ Some m
    → slice_get facts.trials m ≡ Some trial → trial.given ≡ None → BeginsAlike heap held trial
    → Within heap facts n (shape_of heap held) (window heap trial) → Sound header code heap facts n p held
call_sound_none header code heap facts n p offset held m trial k stands c has none b w = record {
  by = λ entry cur caller h over.
      let parts = (call_parts heap facts n held caller trial over (k.inside.trials m trial has) h b w).1 in
      record {
        op = ops.Jsr offset;
        stands = stands;
        obeys = record {
          callee = kept_callee heap trial;
          known = callee_known heap facts (jump_place p offset) m trial c has;
          rest = drop (window heap trial).cells over.own.cells;
          cells = parts.cells;
          deeper = parts.deeper;
          under = parts.under;
          goes_on = subst (λ g. GoesOnBehindCall (trial_table heap facts) entry (next_place p (ops.Jsr offset)) over.own (drop (window heap trial).cells over.own.cells) (CutGiven heap trial g))
              (sym none) tt;
        };
      };
}

-- and where it is
pub call_sound : (header : EngineTable) (code : List PlainOp) (heap heap' : Heap) (facts : Facts) (n p : ℕ) (offset : ℤ) (held : Held) (m : ℕ)
    (trial : Trial) (given next : ℕ) (shape : TopShape) → Keeps header code heap facts → HeapGrows heap heap'
    → op_at code p ≡ Some (ops.Jsr offset) → current facts (Called (jump_place p offset)) ≡ Some m
    → slice_get facts.trials m ≡ Some trial → trial.given ≡ Some given → BeginsAlike heap held trial
    → Within heap facts n (shape_of heap held) (window heap trial) → next ≡ next_place p (ops.Jsr offset)
    → RowIs heap' facts n next shape → shape ≡ record (shape_of heap held) { cells = behind heap held trial given }
    → Sound header code heap facts n p held
call_sound header code heap heap' facts n p offset held m trial given next shape k g stands c has gives b w at row is = record {
  by = λ entry cur caller h over.
      let i = k.inside.trials m trial has in
      let parts = call_parts heap facts n held caller trial over i h b w in
      let rest = drop (window heap trial).cells over.own.cells in
      record {
        op = ops.Jsr offset;
        stands = stands;
        obeys = record {
          callee = kept_callee heap trial;
          known = callee_known heap facts (jump_place p offset) m trial c has;
          rest = rest;
          cells = parts.1.cells;
          deeper = parts.1.deeper;
          under = parts.1.under;
          goes_on = subst (λ g. GoesOnBehindCall (trial_table heap facts) entry (next_place p (ops.Jsr offset)) over.own rest (CutGiven heap trial g)) (sym gives)
              (subst (λ q. (trial_table heap facts).at entry q ≡ Some (record over.own { cells = without (unseen_cells heap trial) (read heap.slots given) ++ rest })) at
              (led_at header code heap heap' facts entry n next shape _ caller k g cur h row
              (is ∙ behind_over heap held caller trial given over.own over.is parts.0.cells)
              ∙ ap (λ z. Some (record over.own { cells = z ++ rest })) (sym (given_cut heap trial given i))));
        };
      };
}

-- ---- RETN

-- what a table says of a RETN of a called routine
pub record ReturnFits (table : ShapeTable) (target : ℕ) (shape : TopShape) (x : List Slot) : Type 0 where
  pub callee : Callee
  pub known : table.called target ≡ Some callee
  pub own : List Slot
  pub gives : callee.given ≡ Some own
  pub cells : shape.cells ≡ own ++ x
  pub saved : shape.saved ≡ []
  pub pending : shape.pending ≡ 0

return_fits : (header : EngineTable) (code : List PlainOp) (table : ShapeTable) (entry : Entry) (target place : ℕ) (shape : TopShape) (x y : List Slot)
    → MeetsRules header code table → op_at code place ≡ Some ops.Retn → entry ≡ Called target → RowFits table entry place shape x y
    → ReturnFits table target shape x
return_fits header code table entry target place shape x y meets stands e f =
    let s = meets.each entry place f.own f.known in
    let m : MayReturn table target f.own =
    subst (λ e. Returns table e f.own) e (subst (λ o. Obeys header table entry place o f.own) (some_is s.op ops.Retn (sym s.stands ∙ stands)) s.obeys) in
    record {
      callee = m.callee;
      known = m.known;
      own = f.own.cells;
      gives = m.given;
      cells = ap (λ (s : TopShape). s.cells) f.is;
      saved = ap (λ (s : TopShape). s.saved) f.is ∙ ap (deeper_saved x y) m.saved;
      pending = ap (λ (s : TopShape). s.pending) f.is ∙ m.pending;
    }

in_table : (header : EngineTable) (code : List PlainOp) (heap : Heap) (facts : Facts) (n p target : ℕ) (held : Held) (trial : Trial) (table : ShapeTable)
    (f : TrialFits table heap facts n trial) → MeetsRules header code table → row_in facts.rows n p ≡ Some held → op_at code p ≡ Some ops.Retn
    → trial.entry ≡ Called target → ReturnFits table target (shape_of heap held) f.x
in_table header code heap facts n p target held trial table f meets r stands e =
    return_fits header code table trial.entry target p (shape_of heap held) f.x f.y meets stands e (f.rows p held r)

-- no table lets a called routine return with something saved or pending
pub never_saved : (header : EngineTable) (code : List PlainOp) (heap : Heap) (facts : Facts) (n p target : ℕ) (held : Held) (trial : Trial) (top : ℕ) (rest : List ℕ)
    → Keeps header code heap facts → row_in facts.rows n p ≡ Some held → op_at code p ≡ Some ops.Retn → slice_get facts.trials n ≡ Some trial
    → trial.entry ≡ Called target → read heap.saved held.saved ≡ top ∷ rest → WellStacked header code → ⊥
never_saved header code heap facts n p target held trial top rest k r stands has e saved w =
    let f = (k.compares w.0 w.1).by n trial has in
    let t = in_table header code heap facts n p target held trial w.0 f w.1 r stands e in
    nothing (read heap.slots top) (map (read heap.slots) rest) (sym (ap (map (read heap.slots)) saved) ∙ t.saved)
  where
    nothing : (a : List Slot) (b : List (List Slot)) → (Rattle.std.proofs.Common.◌∷◌ a b) ≡ [] → ⊥
    nothing a b h = absurd cc

pub never_pending : (header : EngineTable) (code : List PlainOp) (heap : Heap) (facts : Facts) (n p target : ℕ) (held : Held) (trial : Trial)
    → Keeps header code heap facts → row_in facts.rows n p ≡ Some held → op_at code p ≡ Some ops.Retn → slice_get facts.trials n ≡ Some trial
    → trial.entry ≡ Called target → (held.pending ≡ 0 → ⊥) → WellStacked header code → ⊥
never_pending header code heap facts n p target held trial k r stands has e ne w =
    ne (in_table header code heap facts n p target held trial w.0 ((k.compares w.0 w.1).by n trial has) w.1 r stands e).pending

given_beyond : (table : ShapeTable) (entry : Entry) (target : ℕ) (callee : Callee) (cells x y : List Slot) → entry ≡ Called target → Beyond table entry callee x y
    → (t : (own : List Slot) × (cells ≡ own ++ x) × ((c : Callee) → table.called target ≡ Some c → c.given ≡ Some own))
    → Beyond table entry (record callee { given = Some cells }) x y
given_beyond table entry target callee cells x y e b t =
    let l : IsLonger table target callee x y = subst (λ e. Beyond table e callee x y) e b in
    subst (λ e. Beyond table e (record callee { given = Some cells }) x y) (sym e) (record {
      own = l.own;
      known = l.known;
      taken = l.taken;
      under = l.under;
      given = subst (λ g. GivenFits (Some cells) g x) (sym (t.2 l.own l.known)) t.1;
    })

-- every table says that the routine gives the cells of a RETN
pub return_owed : (header : EngineTable) (code : List PlainOp) (heap : Heap) (facts : Facts) (n p target : ℕ) (held : Held) (trial : Trial)
    → Keeps header code heap facts → row_in facts.rows n p ≡ Some held → op_at code p ≡ Some ops.Retn → slice_get facts.trials n ≡ Some trial
    → trial.entry ≡ Called target → trial.given ≡ None → GivenOwed header code heap facts n held.cells
return_owed header code heap facts n p target held trial k r stands has e none = record {
  trial = trial;
  has = has;
  by = λ table meets f.
      let t = in_table header code heap facts n p target held trial table f meets r stands e in
      given_beyond table trial.entry target (callee_of heap trial) (read heap.slots held.cells) f.x f.y e f.beyond
      (t.own, t.cells, λ c known. ap (λ (o : Callee). o.given) (some_is c t.callee (sym known ∙ t.known)) ∙ t.gives);
  over = let o = k.over.rows n p held trial r has in (o.own.cells, ap (λ (s : TopShape). s.cells) o.is);
  new = none;
}

-- no table gives other cells at two places
pub never_gives : (header : EngineTable) (code : List PlainOp) (heap : Heap) (facts : Facts) (n p target : ℕ) (held : Held) (trial : Trial) (given : ℕ)
    → Keeps header code heap facts → row_in facts.rows n p ≡ Some held → op_at code p ≡ Some ops.Retn → slice_get facts.trials n ≡ Some trial
    → trial.entry ≡ Called target → trial.given ≡ Some given → (read heap.slots given ≡ read heap.slots held.cells → ⊥) → WellStacked header code → ⊥
never_gives header code heap facts n p target held trial given k r stands has e gives ne w =
    let f = (k.compares w.0 w.1).by n trial has in
    let t = in_table header code heap facts n p target held trial w.0 f w.1 r stands e in
    let l : IsLonger w.0 target (callee_of heap trial) f.x f.y = subst (λ e. Beyond w.0 e (callee_of heap trial) f.x f.y) e f.beyond in
    let h = given_here l.own.given (read heap.slots given) f.x (subst (λ o. GivenFits (option_map (read heap.slots) o) l.own.given f.x) gives l.given) in
    let same = some_is h.0 t.own (sym h.1 ∙ ap (λ (o : Callee). o.given) (some_is l.own t.callee (sym l.known ∙ t.known)) ∙ t.gives) in
    ne (h.2 ∙ ap (λ z. z ++ f.x) same ∙ sym t.cells)

pub saved_nil : (x y : List Slot) (us : List (List Slot)) → deeper_saved x y us ≡ [] → us ≡ []
saved_nil x y [] h = refl
saved_nil x y (u ∷ us) h = absurd cc

-- a RETN of a called routine obeys the rules of the table that was found
pub return_sound : (header : EngineTable) (code : List PlainOp) (heap : Heap) (facts : Facts) (n p target : ℕ) (held : Held) (trial : Trial) (given : ℕ)
    → Keeps header code heap facts → op_at code p ≡ Some ops.Retn → slice_get facts.trials n ≡ Some trial → trial.entry ≡ Called target → trial.given ≡ Some given
    → read heap.slots given ≡ read heap.slots held.cells → read heap.saved held.saved ≡ [] → held.pending ≡ 0 → Sound header code heap facts n p held
return_sound header code heap facts n p target held trial given k stands has e gives same saved pending = record {
  by = λ entry c caller h over.
      let is : Called target ≡ entry = sym e ∙ entry_is facts n trial entry k.formed has c in
      let me = some_is trial caller (sym has ∙ h) in
      record {
        op = ops.Retn;
        stands = stands;
        obeys = subst (λ e. Returns (trial_table heap facts) e over.own) is (record {
          callee = kept_callee heap caller;
          known = callee_known heap facts target n caller (ap (current facts) is ∙ c) h;
          given = ap (λ (t : Trial). option_map (λ g. without (unseen_cells heap caller) (read heap.slots g)) t.given) (sym me)
              ∙ ap (option_map (λ g. without (unseen_cells heap caller) (read heap.slots g))) gives
              ∙ ap (λ z. Some (without (unseen_cells heap caller) z)) (same ∙ ap (λ (s : TopShape). s.cells) over.is)
              ∙ ap Some (without_on over.own.cells (unseen_cells heap caller));
          saved = saved_nil (unseen_cells heap caller) (unseen_under heap caller) over.own.saved
              (sym (ap (λ (s : TopShape). s.saved) over.is) ∙ ap (map (read heap.slots)) saved);
          pending = sym (ap (λ (s : TopShape). s.pending) over.is) ∙ pending;
        });
      };
}

-- elsewhere it ends the script
pub end_sound : (header : EngineTable) (code : List PlainOp) (heap : Heap) (facts : Facts) (n p : ℕ) (held : Held) (trial : Trial) → Keeps header code heap facts
    → op_at code p ≡ Some ops.Retn → slice_get facts.trials n ≡ Some trial
    → ((table : ShapeTable) (shape : TopShape) → Returns table trial.entry shape) → Sound header code heap facts n p held
end_sound header code heap facts n p held trial k stands has ends = record {
  by = λ entry c caller h over. record {
    op = ops.Retn;
    stands = stands;
    obeys = subst (λ e. Returns (trial_table heap facts) e over.own) (entry_is facts n trial entry k.formed has c) (ends (trial_table heap facts) over.own);
  };
}
