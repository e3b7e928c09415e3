-- What the functions on calls and returns owe.
use Rattle.std.proofs.Common.{arith, ◌≡◌, ◌≤◌, ◌-◌, ◌+◌, ℕ, zero, suc, ℤ, List, ◌++◌, length, take, drop, None, Some, slice_get, sym, subst, ◌∙◌, ap, refl}
use Rattle.std.specs.Prelude.{IfSome, get_or}
use Rattle.nwq_value.specs.Engine.{EngineTable}
use Rattle.ncs_code.specs.Plain.{PlainOp}
use Rattle.ncs_code.specs.Plain as ops
use Rattle.ncs_code.specs.File.{jump_place, op_at}
use Rattle.stack_shape.specs.declared.shape.Slot.{Slot}
use Rattle.stack_shape.specs.declared.shape.Entry.TheVariants.{Called}
use Rattle.stack_shape.specs.Stored.{TopShape}
use Rattle.machine_rules.specs.Act.{next_place}
use Rattle.stack_lists.specs.declared.held.Held.{Held}
use Rattle.stack_lists.specs.declared.held.Heap.{Heap}
use Rattle.stack_check.specs.declared.facts.Trial.{Trial}
use Rattle.stack_check.specs.declared.facts.Facts.{Facts}
use Rattle.stack_check.specs.declared.seen.Seen.{Seen}
use Rattle.stack_check.specs.declared.seen.Seen.TheVariants.{Quiet, Changed, Bad}
use Rattle.stack_lists.specs.Shared.{read}
use Rattle.stack_check.specs.declared.facts.Unseen.{Unseen}
use Rattle.stack_lists.specs.Held.{HeapGrows, Holds, IsIn, shape_of}
use Rattle.stack_lists.specs.Rows.{row_in}
use Rattle.stack_check.specs.Facts.{FindsMore, current}
use Rattle.stack_check.specs.Inference.{BeginsAlike, Formed, TrialIn, RowIs, Keeps, LooksOwed, Visited, WhereQuiet, Takes, Owed, Sound, Sees, Calls, Within, window}
use Rattle.stack_lists.specs.Growth.{heap_same, still_shape, same_shape}
use Rattle.stack_check.proofs.Keeping.{keeps_grows}
use Rattle.stack_check.proofs.Calling.{behind, call_begins, call_looks, call_owed, call_sound, call_sound_none, never_begins}

-- the entry of a trial that counts
callee_entry : (facts : Facts) (target : ℕ) (callee : Trial) → Formed facts → (c : Calls facts target callee) → callee.entry ≡ Called target
callee_entry facts target callee formed c =
    let t = formed.currents (Called target) c.number c.counts in
    ap (λ (t : Trial). t.entry) (some_is callee t.trial (sym c.has ∙ t.has)) ∙ t.of
  where
    some_is : (a b : Trial) → Some a ≡ Some b → a ≡ b
    some_is a b h = cc

pub first_in : (heap : Heap) (facts : Facts) (n p : ℕ) (held : Held) (header : EngineTable) (code : List PlainOp) (trial : Trial) → Keeps header code heap facts
    → row_in facts.rows n p ≡ Some held → trial.taken ≡ held.cells → trial.under ≡ held.under → trial.given ≡ None
    → trial.unseen.cells ≡ length (read heap.slots held.cells) → trial.unseen.under ≡ length (read heap.slots held.under) → trial.at_first ≡ trial.unseen → TrialIn heap trial
first_in heap facts n p held header code trial k r t u g uc uu a =
    let i = k.inside.rows n p held r in
    record {
      taken = subst (λ n. n ≤ length heap.slots) (sym t) i.cells;
      under = subst (λ n. n ≤ length heap.slots) (sym u) i.under;
      given = subst (λ o. IfSome o (λ given. given ≤ length heap.slots)) (sym g) tt;
      unseen_cells = let e = ap (λ n. length (read heap.slots n)) t in omega (arith, uc, e);
      unseen_under = let e = ap (λ n. length (read heap.slots n)) u in omega (arith, uu, e);
      first_cells =
          let e = ap (λ n. length (read heap.slots n)) t in
          let f = ap (λ (u : Unseen). u.cells) a in (omega (arith, f), omega (arith, uc, e, f));
      first_under =
          let e = ap (λ n. length (read heap.slots n)) u in
          let f = ap (λ (u : Unseen). u.under) a in (omega (arith, f), omega (arith, uu, e, f));
    }

pub ruleset first = (first_in, call_begins)

pub callee_in : (header : EngineTable) (code : List PlainOp) (heap : Heap) (facts : Facts) (target : ℕ) (callee : Trial) → Keeps header code heap facts
    → Calls facts target callee → TrialIn heap callee
callee_in header code heap facts target callee k c = k.inside.trials c.number callee c.has

pub given_in : (header : EngineTable) (code : List PlainOp) (heap : Heap) (facts : Facts) (target : ℕ) (callee : Trial) (given : ℕ) → Keeps header code heap facts
    → Calls facts target callee → callee.given ≡ Some given → given ≤ length heap.slots
given_in header code heap facts target callee given k c e =
    subst (λ o. IfSome o (λ given. given ≤ length heap.slots)) e (callee_in header code heap facts target callee k c).given

-- what is given ends with what was not looked at
pub given_long : (header : EngineTable) (code : List PlainOp) (heap : Heap) (facts : Facts) (target : ℕ) (callee : Trial) (given : ℕ) → Keeps header code heap facts
    → Calls facts target callee → callee.given ≡ Some given → callee.unseen.cells ≤ length (read heap.slots given)
given_long header code heap facts target callee given k c e =
    let o = subst (λ o. Rattle.stack_check.specs.Inference.GivenOver heap callee o) e (k.over.givens c.number callee c.has) in
    let i = callee_in header code heap facts target callee k c in
    let l = ap (λ (z : List Slot). length z) o.1 ∙ Rattle.std.proofs.lemmas.List.length-append o.0 (Rattle.stack_check.specs.Facts.unseen_cells heap callee) in
    let m = Rattle.stack_check.proofs.Windows.lowest_length callee.unseen.cells (read heap.slots callee.taken) i.unseen_cells in
    omega (arith, l, m)

pub sees_changed : (header : EngineTable) (code : List PlainOp) (a b : Heap) (facts after : Facts) (n p : ℕ) (held : Held) → HeapGrows a b
    → Keeps header code b after → FindsMore facts after → Sees header code a b facts after n p held Changed
sees_changed header code a b facts after n p held g k l = record { grows = g; keeps = k; quiet = tt; takes = l }

-- a call on a stack that doesn't begin as its routine takes it
pub sees_other : (header : EngineTable) (code : List PlainOp) (heap : Heap) (facts : Facts) (n p : ℕ) (offset : ℤ) (held : Held) (callee : Trial)
    → Keeps header code heap facts → row_in facts.rows n p ≡ Some held → op_at code p ≡ Some (ops.Jsr offset) → Calls facts (jump_place p offset) callee
    → (BeginsAlike heap held callee → ⊥) → Sees header code heap heap facts facts n p held Bad
sees_other header code heap facts n p offset held callee k r stands c ne = record {
  grows = heap_same heap;
  keeps = never_begins header code heap facts n p offset held c.number callee k r stands c.has (callee_entry facts (jump_place p offset) callee k.formed c) ne;
  quiet = tt;
  takes = tt;
}

pub looks_there : (header : EngineTable) (code : List PlainOp) (heap : Heap) (facts : Facts) (n p : ℕ) (offset : ℤ) (callee : Trial)
    → Keeps header code heap facts → op_at code p ≡ Some (ops.Jsr offset) → Calls facts (jump_place p offset) callee
    → LooksOwed header code heap facts n p (window heap callee)
looks_there header code heap facts n p offset callee k stands c =
    call_looks header code heap facts n p offset c.number callee k stands c.has (callee_entry facts (jump_place p offset) callee k.formed c)

-- a call of a routine of which it isn't known what it gives
pub sees_none : (header : EngineTable) (code : List PlainOp) (heap : Heap) (facts : Facts) (n p : ℕ) (offset : ℤ) (held : Held) (callee : Trial)
    → Keeps header code heap facts → op_at code p ≡ Some (ops.Jsr offset) → Calls facts (jump_place p offset) callee → callee.given ≡ None
    → BeginsAlike heap held callee → Within heap facts n (shape_of heap held) (window heap callee) → Sees header code heap heap facts facts n p held Quiet
sees_none header code heap facts n p offset held callee k stands c none b w = record {
  grows = heap_same heap;
  keeps = k;
  quiet = (refl, call_sound_none header code heap facts n p offset held c.number callee k stands c.counts c.has none b w);
  takes = tt;
}

-- in a larger heap
within_still : (header : EngineTable) (code : List PlainOp) (a b : Heap) (facts : Facts) (n p : ℕ) (held : Held) (callee : Trial) → HeapGrows a b
    → Keeps header code a facts → row_in facts.rows n p ≡ Some held → TrialIn a callee → Within a facts n (shape_of a held) (window a callee)
    → Within b facts n (shape_of b held) (window b callee)
within_still header code a b facts n p held callee g k r i w =
    let over = Rattle.stack_check.proofs.Keeping.over_still a b w.trial (shape_of a held) (shape_of b held) g (k.inside.trials n w.trial w.has)
    (still_shape a b held g (k.inside.rows n p held r)) (record { own = w.own; is = w.is }) in
    record { trial = w.trial; has = w.has; own = over.own; is = over.is; there = subst (λ r. Rattle.stack_check.specs.Inference.IsThere w.own r) (sym (window_still a b callee g i)) w.there }
  where
    window_still : (a b : Heap) (trial : Trial) → HeapGrows a b → TrialIn a trial → window b trial ≡ window a trial
    window_still a b trial g i =
        ap (λ (z : List Slot). let r : Rattle.stack_shape.specs.declared.reach.Reach.Reach =
        record { cells = length z - trial.unseen.cells; under = length (read b.slots trial.under) - trial.unseen.under } in r) (g.slots.same trial.taken i.taken)
        ∙ ap (λ (z : List Slot). let r : Rattle.stack_shape.specs.declared.reach.Reach.Reach = record {
          cells = length
              (read a.slots trial.taken) - trial.unseen.cells;
          under = length z - trial.unseen.under;
        } in r)
        (g.slots.same trial.under i.under)

-- what lies behind, in a larger heap
behind_still : (a b : Heap) (held : Held) (callee : Trial) (given : ℕ) → HeapGrows a b → IsIn a held → TrialIn a callee → given ≤ length a.slots
    → behind b held callee given ≡ behind a held callee given
behind_still a b held callee given g h i j =
    ap (λ (z : List Slot). take (length z - callee.unseen.cells) z ++ drop (length (read b.slots callee.taken) - callee.unseen.cells) (read b.slots held.cells)) (g.slots.same given j)
    ∙ ap (λ (z : List Slot). take (length (read a.slots given) - callee.unseen.cells) (read a.slots given)
    ++ drop (length z - callee.unseen.cells) (read b.slots held.cells)) (g.slots.same callee.taken i.taken)
    ∙ ap (λ (z : List Slot). take (length (read a.slots given) - callee.unseen.cells) (read a.slots given)
    ++ drop (length (read a.slots callee.taken) - callee.unseen.cells) z) (g.slots.same held.cells h.cells)

-- the shape behind a call
pub behind_shape : (heap : Heap) (held : Held) (callee : Trial) (given rest count : ℕ) (shape : TopShape) → count ≡ length (read heap.slots given) - callee.unseen.cells
    → read heap.slots rest ≡ drop (window heap callee).cells (read heap.slots held.cells)
    → shape ≡ record (shape_of heap held) { cells = take count (read heap.slots given) ++ read heap.slots rest }
    → shape ≡ record (shape_of heap held) { cells = behind heap held callee given }
behind_shape heap held callee given rest count shape n r e =
    e ∙ ap (λ z. record (shape_of heap held) { cells = z })
    (ap (λ k. take k (read heap.slots given) ++ read heap.slots rest) n ∙ ap (λ z. take (length (read heap.slots given) - callee.unseen.cells) (read heap.slots given) ++ z) r)

pub given_owed : (header : EngineTable) (code : List PlainOp) (a b : Heap) (facts : Facts) (n p : ℕ) (offset : ℤ) (held now : Held) (callee : Trial)
    (given next : ℕ) → Keeps header code a facts → row_in facts.rows n p ≡ Some held → op_at code p ≡ Some (ops.Jsr offset)
    → Calls facts (jump_place p offset) callee → callee.given ≡ Some given → next ≡ next_place p (ops.Jsr offset)
    → Within a facts n (shape_of a held) (window a callee)
    → Holds a b now (record (shape_of a held) { cells = behind a held callee given }) → Owed header code b facts n next now
given_owed header code a b facts n p offset held now callee given next k r stands c gives at w h =
    let g = h.grows in
    let i = k.inside.rows n p held r in
    let t = callee_in header code a facts (jump_place p offset) callee k c in
    call_owed header code b facts n p offset held c.number callee given next now (keeps_grows header code a b facts g k) r stands c.has
    (callee_entry facts (jump_place p offset) callee k.formed c) gives (within_still header code a b facts n p held callee g k r t w) at
    (h.is ∙ ap (λ (s : TopShape). record s { cells = behind a held callee given }) (sym (still_shape a b held g i))
    ∙ ap (λ z. record (shape_of b held) { cells = z })
    (sym (behind_still a b held callee given g i t (given_in header code a facts (jump_place p offset) callee given k c gives))))

pub given_sees : (header : EngineTable) (code : List PlainOp) (a b : Heap) (facts after : Facts) (n p : ℕ) (offset : ℤ) (held now : Held) (callee : Trial)
    (given next : ℕ) (seen : Seen) → Keeps header code a facts → op_at code p ≡ Some (ops.Jsr offset)
    → Calls facts (jump_place p offset) callee → callee.given ≡ Some given → next ≡ next_place p (ops.Jsr offset) → BeginsAlike a held callee
    → Within a facts n (shape_of a held) (window a callee)
    → Holds a b now (record (shape_of a held) { cells = behind a held callee given }) → Visited header code b after seen
    → WhereQuiet seen ((after ≡ facts) × RowIs b facts n next (shape_of b now)) → Takes facts after seen → Sees header code a b facts after n p held seen
given_sees header code a b facts after n p offset held now callee given next seen k stands c gives at begins w h v q t =
    record { grows = h.grows; keeps = v; quiet = quiet seen q; takes = t }
  where
    quiet : (seen : Seen) → WhereQuiet seen ((after ≡ facts) × RowIs b facts n next (shape_of b now))
        → WhereQuiet seen ((after ≡ facts) × Sound header code a facts n p held)
    quiet Quiet q = (
      q.0,
      call_sound header code a b facts n p offset held c.number callee given next (shape_of b now) k h.grows stands c.counts c.has gives begins w at q.1 h.is,
    )
    quiet Changed q = tt
    quiet Bad q = tt

-- the shape behind the call is there already
pub given_there : (header : EngineTable) (code : List PlainOp) (heap : Heap) (facts : Facts) (n p : ℕ) (offset : ℤ) (held : Held) (callee : Trial)
    (given next : ℕ) (shape : TopShape) → Keeps header code heap facts → op_at code p ≡ Some (ops.Jsr offset)
    → Calls facts (jump_place p offset) callee → callee.given ≡ Some given → next ≡ next_place p (ops.Jsr offset) → BeginsAlike heap held callee
    → Within heap facts n (shape_of heap held) (window heap callee) → RowIs heap facts n next shape
    → shape ≡ record (shape_of heap held) { cells = behind heap held callee given } → Sees header code heap heap facts facts n p held Quiet
given_there header code heap facts n p offset held callee given next shape k stands c gives at begins w r is = record {
  grows = heap_same heap;
  keeps = k;
  quiet = (
    refl,
    call_sound header code heap heap facts n p offset held c.number callee given next shape k (heap_same heap) stands c.counts c.has gives begins w at r is,
  );
  takes = tt;
}

pub holds_behind : (a b : Heap) (held now : Held) (callee : Trial) (given rest count : ℕ) → count ≡ length (read a.slots given) - callee.unseen.cells
    → read a.slots rest ≡ drop (window a callee).cells (read a.slots held.cells)
    → Holds a b now (record (shape_of a held) { cells = take count (read a.slots given) ++ read a.slots rest })
    → Holds a b now (record (shape_of a held) { cells = behind a held callee given })
holds_behind a b held now callee given rest count n r h =
    record { grows = h.grows; inside = h.inside; is = behind_shape a held callee given rest count (shape_of b now) n r h.is }

-- ---- what a routine takes

pub begins_both : (heap : Heap) (held : Held) (callee : Trial) (cells under : ℕ) → cells ≡ (window heap callee).cells → under ≡ (window heap callee).under
    → take cells (read heap.slots held.cells) ≡ take cells (read heap.slots callee.taken)
    → take under (read heap.slots held.under) ≡ take under (read heap.slots callee.under) → BeginsAlike heap held callee
begins_both heap held callee cells under c u e f = record {
  cells = subst (λ n. take n (read heap.slots held.cells) ≡ take n (read heap.slots callee.taken)) c e;
  under = subst (λ n. take n (read heap.slots held.under) ≡ take n (read heap.slots callee.under)) u f;
}

pub ruleset beginning = (begins_both)

-- the parts of a shape behind a call
pub parts_behind : (heap : Heap) (found held : Held) (cells : List Slot) → found.under ≡ held.under → found.saved ≡ held.saved → found.pending ≡ held.pending
    → read heap.slots found.cells ≡ cells → shape_of heap found ≡ record (shape_of heap held) { cells = cells }
parts_behind heap found held cells u s p c =
    same_shape _ _ _ _ _ _ _ _ c (ap (read heap.slots) u) (ap (λ n. Rattle.std.proofs.Common.map (read heap.slots) (read heap.saved n)) s) p

pub cells_behind : (found given rest : List Slot) (count : ℕ) → drop count found ≡ rest → take count found ≡ take count given → found ≡ take count given ++ rest
cells_behind found given rest count d t =
    sym (Rattle.std.proofs.lemmas.List.take-append-drop count found) ∙ ap (λ z. z ++ drop count found) t ∙ ap (λ z. take count given ++ z) d

pub ruleset behind_parts = (parts_behind, cells_behind)

pub calls_of : (facts : Facts) (target number : ℕ) (callee : Trial) → number ≡ get_or facts.called target 0 → (number ≡ 0 → ⊥)
    → Some callee ≡ slice_get facts.trials number → Calls facts target callee
calls_of facts target number callee e ne h = record { number = number; counts = counts number e ne; has = sym h }
  where
    counts : (number : ℕ) → number ≡ get_or facts.called target 0 → (number ≡ 0 → ⊥) → current facts (Called target) ≡ Some number
    counts zero e ne = absurd (ne refl)
    counts (suc n) e ne = ap Rattle.stack_check.specs.Facts.number_in (sym e)

pub calls_none : (facts : Facts) (target number : ℕ) → number ≡ get_or facts.called target 0 → number ≡ 0 → current facts (Called target) ≡ None
calls_none facts target number e z = ap Rattle.stack_check.specs.Facts.number_in (sym e ∙ z)

-- what counts is there
pub calls_there : (facts : Facts) (target number : ℕ) → Formed facts → number ≡ get_or facts.called target 0 → (number ≡ 0 → ⊥)
    → None ≡ slice_get facts.trials number → current facts (Called target) ≡ None
calls_there facts target zero formed e ne none = absurd (ne refl)
calls_there facts target (suc n) formed e ne none =
    let t = formed.currents (Called target) (suc n) (ap Rattle.stack_check.specs.Facts.number_in (sym e)) in absurd (nothing t.trial (none ∙ t.has))
  where
    nothing : (t : Trial) → None ≡ Some t → ⊥
    nothing t h = absurd cc

pub ruleset counting = (calls_of, calls_none, calls_there)
