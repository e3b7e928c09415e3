-- What lies beneath a table's own slots, along calls.
use Rattle.std.proofs.Common.{arith, ◌≡◌, ◌≤◌, ◌<◌, ◌+◌, ℕ, zero, suc, List, [], ◌∷◌, length, map, Some, slice_get, sym, subst, ◌∙◌, ap, refl}
use Rattle.std.specs.Prelude.{get_or}
use Rattle.std.proofs.lemmas.List.{length-append}
use Rattle.nwq_value.specs.Engine.{EngineTable}
use Rattle.ncs_code.specs.Plain.{PlainOp}
use Rattle.ncs_code.specs.Plain as ops
use Rattle.ncs_code.specs.File.{jump_place}
use Rattle.stack_shape.specs.declared.shape.Slot.{Slot}
use Rattle.stack_shape.specs.declared.shape.Entry.{Entry}
use Rattle.stack_shape.specs.declared.shape.Entry.TheVariants.{Start, Called, Stored}
use Rattle.stack_shape.specs.Stored.{TopShape}
use Rattle.stack_shape.specs.Laws.{deeper, beneath_under, deeper_saved}
use Rattle.machine_rules.specs.Act.{next_place}
use Rattle.stack_rules.specs.Tables.{Callee, ShapeTable}
use Rattle.stack_rules.specs.Rules.{MayCall, Obeys, MeetsRules, WellStacked}
use Rattle.stack_lists.specs.declared.held.Held.{Held}
use Rattle.stack_lists.specs.declared.held.Heap.{Heap}
use Rattle.stack_lists.specs.declared.todo.Side.{Side}
use Rattle.stack_lists.specs.declared.todo.Side.TheVariants.{Cells, Under}
use Rattle.stack_lists.specs.Shared.{read}
use Rattle.stack_lists.specs.Held.{HeapGrows, shape_of}
use Rattle.stack_lists.specs.Growth.{heap_same}
use Rattle.stack_lists.specs.Rows.{row_in}
use Rattle.stack_check.specs.declared.facts.Trial.{Trial}
use Rattle.stack_check.specs.declared.facts.Facts.{Facts}
use Rattle.stack_check.specs.declared.rings.Edge.{Edge}
use Rattle.stack_check.specs.declared.rings.Way.{Way}
use Rattle.stack_check.specs.declared.rings.Window.{Window}
use Rattle.stack_check.specs.declared.seen.Seen.TheVariants.{Changed, Bad}
use Rattle.stack_check.specs.Facts.{FindsMore, callee_of, current, number_in}
use Rattle.stack_check.specs.Inference.{Beyond, IsCall, IsLonger, Keeps, RowFits, Sees, TrialFits}
use Rattle.stack_check.specs.Rings.{LiesOn, IsEdge, IsEdgeFrom, IsCalledAt, IsWay, beneath, first_length, held_length}
use Rattle.stack_check.proofs.Windows.{deeper_cells, under_length}
use Rattle.stack_check.proofs.Calling.{saved_nil}

some_is : {A : Type 0} (a b : A) → Some a ≡ Some b → a ≡ b
some_is a b h = cc

-- ---- one call

-- what a table says of a call: the lists of the caller's own shape, and those of the routine
pub record CallLengths (shape : TopShape) (x y x' y' : List Slot) (taken under : ℕ) : Type 0 where
  pub own : TopShape
  pub is : shape ≡ deeper x y own
  pub cells : length x + taken ≤ length shape.cells + length x'
  pub beneath : length (beneath_under x y own.saved) + under ≤ length shape.under + length y'

call_lengths : (header : EngineTable) (code : List PlainOp) (table : ShapeTable) (heap : Heap) (entry : Entry) (place target : ℕ) (shape : TopShape)
    (x y x' y' : List Slot) (callee : Trial) → MeetsRules header code table → IsCall code place target → RowFits table entry place shape x y
    → IsLonger table target (callee_of heap callee) x' y'
    → CallLengths shape x y x' y' (length (read heap.slots callee.taken)) (length (read heap.slots callee.under))
call_lengths header code table heap entry place target shape x y x' y' callee meets call f l =
    let s = meets.each entry place f.own f.known in
    let c : MayCall table entry (jump_place place call.offset) (next_place place (ops.Jsr call.offset)) f.own =
    subst (λ o. Obeys header table entry place o f.own) (some_is s.op (ops.Jsr call.offset) (sym s.stands ∙ call.stands)) s.obeys in
    let same : l.own ≡ c.callee = some_is l.own c.callee (sym l.known ∙ ap table.called (sym call.leads) ∙ c.known) in
    let taken : length (read heap.slots callee.taken) ≡ length c.callee.taken + length x' =
    ap (λ (z : List Slot). length z) l.taken ∙ length-append l.own.taken x' ∙ ap (λ (o : Callee). length o.taken + length x') same in
    let under : length (read heap.slots callee.under) ≡ length c.callee.under + length y' =
    ap (λ (z : List Slot). length z) l.under ∙ length-append l.own.under y' ∙ ap (λ (o : Callee). length o.under + length y') same in
    let cells = deeper_cells x y shape f.own f.is in
    let own_cells = ap (λ (z : List Slot). length z) c.cells ∙ length-append c.callee.taken c.rest in
    let unders = under_length x y shape f.own f.is in
    let own_under = ap (λ (z : List Slot). length z) c.under ∙ length-append c.callee.under c.deeper in
    record {
      own = f.own;
      is = f.is;
      cells = omega (arith, taken, cells, own_cells);
      beneath = omega (arith, under, unders, own_under);
    }

under_first : (x y : List Slot) (us : List (List Slot)) → us ≡ [] → beneath_under x y us ≡ y
under_first x y us e = ap (beneath_under x y) e

under_saved : (x y : List Slot) (us : List (List Slot)) → (us ≡ [] → ⊥) → beneath_under x y us ≡ x
under_saved x y [] ne = absurd (ne refl)
under_saved x y (u ∷ us) ne = refl

map_nil : (heap : Heap) (ns : List ℕ) → ns ≡ [] → map (read heap.slots) ns ≡ []
map_nil heap ns e = ap (λ ns. map (read heap.slots) ns) e

nil_map : (heap : Heap) (ns : List ℕ) → map (read heap.slots) ns ≡ [] → ns ≡ []
nil_map heap [] e = refl
nil_map heap (n ∷ ns) e = absurd cc

none_saved : (x y : List Slot) (us : List (List Slot)) → us ≡ [] → deeper_saved x y us ≡ []
none_saved x y us e = ap (deeper_saved x y) e

edge_at : (heap : Heap) (held : Held) (callee : Trial) (x y x' y' : List Slot) (side side' : Side) → LiesOn heap held side side'
    → CallLengths (shape_of heap held) x y x' y' (length (read heap.slots callee.taken)) (length (read heap.slots callee.under))
    → beneath x y side + first_length heap callee side' ≤ held_length heap held side' + beneath x' y' side'
edge_at heap held callee x y x' y' Cells Cells lies c = c.cells
edge_at heap held callee x y x' y' Cells Under lies c =
    let some : c.own.saved ≡ [] → ⊥ = λ e. lies (nil_map heap (read heap.saved held.saved) (ap (λ (s : TopShape). s.saved) c.is ∙ none_saved x y c.own.saved e)) in
    let same = ap (λ (z : List Slot). length z) (under_saved x y c.own.saved some) in omega (arith, same, c.beneath)
edge_at heap held callee x y x' y' Under Cells lies c = absurd lies
edge_at heap held callee x y x' y' Under Under lies c =
    let none : c.own.saved ≡ [] = saved_nil x y c.own.saved (ap (λ (s : TopShape). s.saved) (sym c.is) ∙ map_nil heap (read heap.saved held.saved) lies) in
    let same = ap (λ (z : List Slot). length z) (under_first x y c.own.saved none) in omega (arith, same, c.beneath)

edge_fits : (header : EngineTable) (code : List PlainOp) (table : ShapeTable) (heap : Heap) (facts : Facts) (n p m target : ℕ) (held : Held) (caller callee : Trial)
    (side : Side) (edge : Edge) → MeetsRules header code table → row_in facts.rows n p ≡ Some held → IsCall code p target → callee.entry ≡ Called target
    → IsEdgeFrom heap held callee side edge → (f : TrialFits table heap facts n caller) → (g : TrialFits table heap facts m callee)
    → beneath f.x f.y side + edge.down ≤ edge.up + beneath g.x g.y edge.side
edge_fits header code table heap facts n p m target held caller callee side edge meets r call e is f g =
    let l : IsLonger table target (callee_of heap callee) g.x g.y = subst (λ e. Beyond table e (callee_of heap callee) g.x g.y) e g.beyond in
    let c = call_lengths header code table heap caller.entry p target (shape_of heap held) f.x f.y g.x g.y callee meets call (f.rows p held r) l in
    let h = edge_at heap held callee f.x f.y g.x g.y side edge.side is.lies c in
    let u = is.is.up in let d = is.is.down in omega (arith, h, u, d)

-- ---- a way

-- what lies beneath is the same, however a trial compares with the table
same_beneath : (table : ShapeTable) (entry : Entry) (callee : Callee) (x y x' y' : List Slot) (side : Side) → Beyond table entry callee x y
    → Beyond table entry callee x' y' → beneath x y side ≡ beneath x' y' side
same_beneath table Start callee x y x' y' Cells b c = ap (λ (z : List Slot). length z) (b.0 ∙ sym c.0)
same_beneath table Start callee x y x' y' Under b c = ap (λ (z : List Slot). length z) (b.1 ∙ sym c.1)
same_beneath table (Stored site) callee x y x' y' Cells b c = ap (λ (z : List Slot). length z) (b.0 ∙ sym c.0)
same_beneath table (Stored site) callee x y x' y' Under b c = ap (λ (z : List Slot). length z) (b.1 ∙ sym c.1)
same_beneath table (Called target) callee x y x' y' Cells b c =
    let same = some_is b.own c.own (sym b.known ∙ c.known) in
    let l = ap (λ (z : List Slot). length z) b.taken ∙ length-append b.own.taken x ∙ ap (λ (o : Callee). length o.taken + length x) same in
    let m = ap (λ (z : List Slot). length z) c.taken ∙ length-append c.own.taken x' in omega (arith, l, m)
same_beneath table (Called target) callee x y x' y' Under b c =
    let same = some_is b.own c.own (sym b.known ∙ c.known) in
    let l = ap (λ (z : List Slot). length z) b.under ∙ length-append b.own.under y ∙ ap (λ (o : Callee). length o.under + length y) same in
    let m = ap (λ (z : List Slot). length z) c.under ∙ length-append c.own.under y' in omega (arith, l, m)

pub way_none : (header : EngineTable) (code : List PlainOp) (heap : Heap) (facts : Facts) (at : Window) (trial : Trial) → Some trial ≡ slice_get facts.trials at.trial
    → IsWay header code heap facts (record { from = at; to = at; up = 0; down = 0 })
way_none header code heap facts at trial has = record {
  first = trial;
  has_first = sym has;
  last = trial;
  has_last = sym has;
  by = λ table meets f g.
      let same = same_beneath table trial.entry (callee_of heap trial) f.x f.y g.x g.y at.side f.beyond g.beyond in omega (arith, same);
}

pub way_then : (header : EngineTable) (code : List PlainOp) (heap : Heap) (facts : Facts) (way next : Way) (p m : ℕ) (held : Held) (callee : Trial) (edge : Edge)
    → Keeps header code heap facts → IsWay header code heap facts way → Some held ≡ row_in facts.rows way.to.trial p → IsCalledAt code facts p m
    → Some callee ≡ slice_get facts.trials m → IsEdgeFrom heap held callee way.to.side edge → next.from ≡ way.from
    → next.to ≡ record { trial = m; side = edge.side } → next.up ≡ way.up + edge.up → next.down ≡ way.down + edge.down
    → IsWay header code heap facts next
way_then header code heap facts way next p m held callee edge k w r call has is from to up down =
    subst (λ (n : Way). IsWay header code heap facts n) (sym next_is)
    (record {
      first = w.first;
      has_first = w.has_first;
      last = callee;
      has_last = sym has;
      by = λ table meets f h.
          let g = (k.compares table meets).by way.to.trial w.last w.has_last in
          let a = w.by table meets f g in
          let b = edge_fits header code table heap facts way.to.trial p m call.target held w.last callee way.to.side edge meets (sym r) call.call
          entry is g h in
          omega (arith, a, b);
    })
  where
    entry : callee.entry ≡ Called call.target
    entry = let t = k.formed.currents (Called call.target) m call.counts in
        ap (λ (t : Trial). t.entry) (some_is callee t.trial (has ∙ t.has)) ∙ t.of

    way_is : (a b c d : Window) (u v s t : ℕ) → a ≡ c → b ≡ d → u ≡ s → v ≡ t
        → (let w : Way = record { from = a; to = b; up = u; down = v } in w) ≡ record { from = c; to = d; up = s; down = t }
    way_is a b c d u v s t e f g h = cc

    next_is : next ≡ record { from = way.from; to = record { trial = m; side = edge.side }; up = way.up + edge.up; down = way.down + edge.down }
    next_is = way_is next.from next.to way.from (record { trial = m; side = edge.side }) next.up next.down (way.up + edge.up) (way.down + edge.down) from to up down

-- A way back to where it began, on which more lies beneath: no table has it.
pub ring_never : (header : EngineTable) (code : List PlainOp) (heap : Heap) (facts : Facts) (way : Way) → Keeps header code heap facts → IsWay header code heap facts way
    → way.from ≡ way.to → way.up < way.down → WellStacked header code → ⊥
ring_never header code heap facts way k w same less stacked =
    let f = (k.compares stacked.0 stacked.1).by way.from.trial w.first w.has_first in
    let one : w.first ≡ w.last = some_is w.first w.last (sym w.has_first ∙ ap (λ (n : Window). slice_get facts.trials n.trial) same ∙ w.has_last) in
    let g = subst (λ (t : Trial). TrialFits stacked.0 heap facts way.to.trial t) one
    (subst (λ (n : Window). TrialFits stacked.0 heap facts n.trial w.first) same f) in
    let h = w.by stacked.0 stacked.1 f g in
    let i = same_beneath stacked.0 w.last.entry (callee_of heap w.last) f.x f.y g.x g.y way.to.side
    (subst (λ (t : Trial). Beyond stacked.0 t.entry (callee_of heap t) f.x f.y) one f.beyond) g.beyond in
    let j : beneath f.x f.y way.from.side ≡ beneath f.x f.y way.to.side = ap (λ (n : Window). beneath f.x f.y n.side) same in
    omega (arith, h, i, j, less)

pub calls_at : (code : List PlainOp) (facts : Facts) (place target number : ℕ) → IsCall code place target → number ≡ get_or facts.called target 0 → (number ≡ 0 → ⊥)
    → IsCalledAt code facts place number
calls_at code facts place target number call e ne = record { target = target; call = call; counts = counts number e ne }
  where
    counts : (number : ℕ) → number ≡ get_or facts.called target 0 → (number ≡ 0 → ⊥) → current facts (Called target) ≡ Some number
    counts zero e ne = absurd (ne refl)
    counts (suc n) e ne = ap number_in (sym e)

pub is_edge_from : (heap : Heap) (held : Held) (callee : Trial) (side side' : Side) (edge : Edge) → LiesOn heap held side side' → IsEdge heap held callee side' edge
    → IsEdgeFrom heap held callee side edge
is_edge_from heap held callee side side' edge lies is = record {
  lies = subst (λ s. LiesOn heap held side s) (sym is.of) lies;
  is = subst (λ s. IsEdge heap held callee s edge) (sym is.of) is;
}

-- a call that made a window grow: it was found to grow, or to grow for ever
pub sees_grown : (header : EngineTable) (code : List PlainOp) (a b : Heap) (facts after : Facts) (n p : ℕ) (held : Held) → b ≡ a → Keeps header code b after
    → FindsMore facts after → Sees header code a b facts after n p held Changed
sees_grown header code a b facts after n p held e k more =
    record { grows = subst (λ (h : Heap). HeapGrows a h) (sym e) (heap_same a); keeps = k; quiet = tt; takes = more }

pub sees_never : (header : EngineTable) (code : List PlainOp) (a b : Heap) (facts after : Facts) (n p : ℕ) (held : Held) → b ≡ a → (WellStacked header code → ⊥)
    → Sees header code a b facts after n p held Bad
sees_never header code a b facts after n p held e never =
    record { grows = subst (λ (h : Heap). HeapGrows a h) (sym e) (heap_same a); keeps = never; quiet = tt; takes = tt }

pub ruleset growing = (sees_grown, sees_never)

pub ruleset following = (way_then)

pub ruleset turning = (way_none, ring_never)

pub ruleset calling = (calls_at)
