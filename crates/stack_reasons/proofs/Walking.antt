-- What the walk's functions owe.
use Rattle.std.proofs.Common.{arith, ◌≡◌, ◌≢◌, ◌+◌, ◌<◌, ℕ, ℤ, zero, suc, List, [], ◌∷◌, ◌++◌, length, map, reverse, Option, None, Some, Bool, true, false, IsTrue, ◌↔◌, slice_get, inl, inr, ◌⊎◌}
use Rattle.std.proofs.Common.{sym, subst, ◌∙◌, ap, refl}
use Rattle.std.proofs.lemmas.List.{append-nil, reverse-append, reverse-reverse}
use Rattle.std.specs.Prelude.{IfSome, get_or, take}
use Rattle.nwq_value.specs.declared.value.Ty.{Ty}
use Rattle.std.specs.Option.{option_map}
use Rattle.nwq_value.specs.Engine.{EngineTable}
use Rattle.ncs_code.specs.Plain.{PlainOp}
use Rattle.ncs_code.specs.Plain as ops
use Rattle.ncs_code.specs.File.{header_size, jump_place, op_at}
use Rattle.machine_rules.specs.Act.{next_place}
use Rattle.stack_shape.specs.declared.shape.Slot.{Slot}
use Rattle.stack_shape.specs.declared.shape.Shape.{Shape}
use Rattle.stack_shape.specs.declared.shape.Entry.{Entry}
use Rattle.stack_shape.specs.declared.shape.Entry.TheVariants.{Start, Called, Stored}
use Rattle.stack_shape.specs.declared.shape.Slot.TheVariants.{Of, Base}
use Rattle.stack_shape.specs.declared.store.StoredTypes.{StoredTypes}
use Rattle.stack_shape.specs.Stored.{TopShape, stored_shape, stored_types}
use Rattle.stack_shape.specs.Rule.{IsOneStep, rule, top_first}
use Rattle.stack_rules.specs.Tables.{empty_shape}
use Rattle.stack_rules.specs.Rules.{WellStacked}
use Rattle.stack_reasons.specs.declared.home.Home.{Home}
use Rattle.stack_reasons.specs.declared.home.Spot.{Spot}
use Rattle.stack_reasons.specs.declared.trail.Trail.{Trail}
use Rattle.stack_reasons.specs.declared.leads.Lead.{Lead}
use Rattle.stack_reasons.specs.declared.leads.Lead.TheVariants.{One, Two}
use Rattle.stack_reasons.specs.declared.reason.Reason.{Reason}
use Rattle.stack_reasons.specs.declared.reason.Trouble.{Trouble}
use Rattle.stack_reasons.specs.declared.reason.Trouble.TheVariants.{NothingThere, NoRule, NotEnded, OtherCells, OtherResult}
use Rattle.stack_reasons.specs.Ways.{LeadsTo, first_place, entered, left_by, IsEnded, Way, Begins, Steps, Returns, Comes, Starts, Calls, Stores}
use Rattle.stack_reasons.specs.Reasons.{HasNoRule, IsCalled, IsReturn, IsLeft, ComesOtherwise, LeavesOtherwise, IsTrouble, IsReason, ReasonsRefute}
use Rattle.stack_reasons.specs.Walks.{IsLead, IsCall, IsHome, IsThere, AllThere, AreThere, IsLast, IsLastOf, GoesInto, Enters, IsWrong, TrailFits}

some_is : {A : Type 0} (a b : A) → Some a ≡ Some b → a ≡ b
some_is a b h = cc

none_some : {A : Type 0} (a : A) → None ≡ Some a → ⊥
none_some a h = absurd cc

-- ---- lists of places

all_put : (header : EngineTable) (code : List PlainOp) (home : Home) (spots : List Spot) (spot : Spot) → AllThere header code home spots
    → IsThere header code home spot → AllThere header code home (spots ++ spot ∷ [])
all_put header code home [] spot all there = (there, tt)
all_put header code home (s ∷ spots) spot all there = (all.0, all_put header code home spots spot all.1 there)

pub are_put : (header : EngineTable) (code : List PlainOp) (home : Home) (before after : List Spot) (spot : Spot) → AreThere header code home before
    → IsThere header code home spot → after ≡ before ++ spot ∷ [] → AreThere header code home after
are_put header code home before after spot all there e =
    subst (λ s. AreThere header code home s) (sym e) (record { all = all_put header code home before spot all.all there })

all_taken : (header : EngineTable) (code : List PlainOp) (home : Home) (spots : List Spot) (spot : Spot) → AllThere header code home (spots ++ spot ∷ [])
    → AllThere header code home spots × IsThere header code home spot
all_taken header code home [] spot all = (tt, all.0)
all_taken header code home (s ∷ spots) spot all = let r = all_taken header code home spots spot all.1 in ((all.0, r.0), r.1)

pub are_rest : (header : EngineTable) (code : List PlainOp) (home : Home) (before after : List Spot) (spot : Spot) → AreThere header code home before
    → before ≡ after ++ spot ∷ [] → AreThere header code home after
are_rest header code home before after spot all e =
    record { all = (all_taken header code home after spot (subst (λ s. AllThere header code home s) e all.all)).0 }

pub is_taken : (header : EngineTable) (code : List PlainOp) (home : Home) (before after : List Spot) (spot : Spot) → AreThere header code home before
    → before ≡ after ++ spot ∷ [] → IsThere header code home spot
is_taken header code home before after spot all e =
    (all_taken header code home after spot (subst (λ s. AllThere header code home s) e all.all)).1

all_at : (header : EngineTable) (code : List PlainOp) (home : Home) (spots : List Spot) (k : ℕ) (spot : Spot) → AllThere header code home spots
    → slice_get spots k ≡ Some spot → IsThere header code home spot
all_at header code home [] k spot all e = absurd (none_some spot e)
all_at header code home (s ∷ spots) zero spot all e = subst (λ s. IsThere header code home s) (some_is s spot e) all.0
all_at header code home (s ∷ spots) (suc k) spot all e = all_at header code home spots k spot all.1 e

pub is_at : (header : EngineTable) (code : List PlainOp) (home : Home) (spots : List Spot) (k : ℕ) (spot : Spot) → AreThere header code home spots
    → slice_get spots k ≡ Some spot → IsThere header code home spot
is_at header code home spots k spot all e = all_at header code home spots k spot all.all e

pub are_none : (header : EngineTable) (code : List PlainOp) (home : Home) → AreThere header code home []
are_none header code home = record { all = tt }

pub ruleset putting = (are_put)

pub ruleset knowing = (is_at)

-- ---- the first place

pub first_there : (header : EngineTable) (code : List PlainOp) (home : Home) (shape : Shape) → IsHome header code home → top_first shape ≡ top_first home.first
    → IsThere header code home (record { place = home.at; shape = shape })
first_there header code home shape h e = record {
  way = subst (λ s. Way header code home.entry (top_first home.first) home.at s) (sym e)
      (subst (λ p. Way header code home.entry (top_first home.first) p (top_first home.first)) (sym h.at) (Begins home.entry (top_first home.first)));
}

pub ruleset beginning = (first_there, are_put, are_none)

-- the start
pub start_home : (header : EngineTable) (code : List PlainOp) (home : Home) → home.entry ≡ Start → home.called_at ≡ None → home.at ≡ 13
    → top_first home.first ≡ empty_shape → IsHome header code home
start_home header code home e c a f = record {
  comes = subst (λ e. Comes header code e home.called_at (top_first home.first)) (sym e)
      (subst (λ c. Comes header code Start c (top_first home.first)) (sym c) (subst (λ f. Comes header code Start None f) (sym f) Starts));
  at = a ∙ ap first_place (sym e);
}

pub ruleset starting = (start_home)

-- ---- steps

pub step_there : (header : EngineTable) (code : List PlainOp) (home : Home) (spot : Spot) (op : PlainOp) (after : Shape) (next : ℕ)
    → IsThere header code home spot → op_at code spot.place ≡ Some op → IsOneStep op → rule header op (top_first spot.shape) ≡ Some (top_first after)
    → LeadsTo spot.place op next → IsThere header code home (record { place = next; shape = after })
step_there header code home spot op after next t stands one h leads = record {
  way = Steps home.entry (top_first home.first) spot.place (top_first spot.shape) op (top_first after) next t.way stands one h leads;
}

pub copy_step : (header : EngineTable) (code : List PlainOp) (home : Home) (spot : Spot) (op : PlainOp) (after copy : Shape) (next : ℕ)
    → IsThere header code home spot → op_at code spot.place ≡ Some op → IsOneStep op → rule header op (top_first spot.shape) ≡ Some (top_first after)
    → LeadsTo spot.place op next → top_first copy ≡ top_first after → IsThere header code home (record { place = next; shape = copy })
copy_step header code home spot op after copy next t stands one h leads e =
    step_there header code home spot op copy next t stands one (h ∙ ap Some (sym e)) leads

pub rule_some : (header : EngineTable) (op : PlainOp) (shape : TopShape) (after : Shape) → option_map top_first (Some after) ≡ rule header op shape
    → rule header op shape ≡ Some (top_first after)
rule_some header op shape after e = sym e

pub no_rule : (header : EngineTable) (code : List PlainOp) (home : Home) (spot : Spot) (op : PlainOp) → op_at code spot.place ≡ Some op → IsOneStep op
    → None ≡ rule header op (top_first spot.shape) → IsWrong header code home spot NoRule
no_rule header code home spot op stands one e = record { op = op; stands = stands; one = one; none = sym e }

pub ruleset stepping = (step_there, copy_step, rule_some, no_rule)

-- ---- returns

cons_none : {A : Type 0} (x : A) (xs : List A) → x ∷ xs ≡ [] → ⊥
cons_none x xs h = absurd cc

map_none : {A : Type 0} {B : Type 0} (f : A → B) (xs : List A) → map f xs ≡ [] → xs ≡ []
map_none f [] e = refl
map_none f (x ∷ xs) e = absurd (cons_none (f x) (map f xs) e)

saved_none : (saved : List (List Slot)) → map reverse (reverse saved) ≡ [] → saved ≡ []
saved_none saved e = sym (reverse-reverse saved) ∙ ap reverse (map_none reverse (reverse saved) e)

pub ended_of : (shape : Shape) → shape.saved ≡ [] → shape.pending ≡ 0 → IsEnded (top_first shape)
ended_of shape s p = record { saved = ap (λ (saved : List (List Slot)). map reverse (reverse saved)) s; pending = p }

pub ended_saved : (shape : Shape) → IsEnded (top_first shape) → shape.saved ≡ []
ended_saved shape e = saved_none shape.saved e.saved

pub ended_pending : (shape : Shape) → IsEnded (top_first shape) → shape.pending ≡ 0
ended_pending shape e = e.pending

pub ruleset ending = (ended_of, ended_saved, ended_pending)

called_is : (entry : Entry) (target : ℕ) → entry ≡ Called target → IsCalled entry
called_is entry target e = subst IsCalled (sym e) tt

pub last_of : (header : EngineTable) (code : List PlainOp) (home : Home) (spot : Spot) (target : ℕ) → IsThere header code home spot
    → op_at code spot.place ≡ Some ops.Retn → home.entry ≡ Called target → IsEnded (top_first spot.shape) → IsLast header code home spot
last_of header code home spot target t stands e ended =
    record { there = t; return = record { called = called_is home.entry target e; stands = stands }; ended = ended }

pub left_of : (header : EngineTable) (code : List PlainOp) (home : Home) (spot : Spot) (target : ℕ) → op_at code spot.place ≡ Some ops.Retn
    → home.entry ≡ Called target → (IsEnded (top_first spot.shape) → ⊥) → IsWrong header code home spot NotEnded
left_of header code home spot target stands e left =
    record { return = record { called = called_is home.entry target e; stands = stands }; left = left }

pub ruleset returning = (last_of, left_of)

-- ---- calls

pub call_of : (code : List PlainOp) (place : ℕ) (op : PlainOp) (target next : ℕ) → op_at code place ≡ Some op → IsCall place op target
    → next ≡ next_place place op → GoesInto code place target next
call_of code place op target next stands c n =
    record { offset = c.offset; stands = stands ∙ ap Some c.is; leads = c.leads; behind = n ∙ ap (next_place place) c.is }

pub return_of : (code : List PlainOp) (place : ℕ) (op : PlainOp) → op_at code place ≡ Some op → op ≡ ops.Retn → op_at code place ≡ Some ops.Retn
return_of code place op stands e = stands ∙ ap Some e

pub ruleset visiting = (call_of, return_of)

pub callee_home : (header : EngineTable) (code : List PlainOp) (home : Home) (spot : Spot) (target next : ℕ) (callee : Home) → IsHome header code home
    → IsThere header code home spot → GoesInto code spot.place target next → callee.entry ≡ Called target → callee.called_at ≡ Some spot.place
    → callee.at ≡ target → top_first callee.first ≡ entered (top_first spot.shape) → IsHome header code callee
callee_home header code home spot target next callee h t g e c a f = record {
  comes = subst (λ e. Comes header code e callee.called_at (top_first callee.first)) (sym (e ∙ ap Called g.leads))
      (subst (λ c. Comes header code (Called (jump_place spot.place g.offset)) c (top_first callee.first)) (sym c)
      (subst (λ f. Comes header code (Called (jump_place spot.place g.offset)) (Some spot.place) f) (sym f)
      (Calls home.entry home.called_at (top_first home.first) spot.place (top_first spot.shape) g.offset h.comes t.way g.stands)));
  at = a ∙ ap first_place (sym e);
}

pub callee_enters : (code : List PlainOp) (spot : Spot) (target next : ℕ) (callee : Home) → GoesInto code spot.place target next
    → callee.entry ≡ Called target → top_first callee.first ≡ entered (top_first spot.shape) → Enters code spot callee next
callee_enters code spot target next callee g e f =
    record { offset = g.offset; stands = g.stands; entry = e ∙ ap Called g.leads; first = f; behind = g.behind }

pub left_there : (header : EngineTable) (code : List PlainOp) (home : Home) (spot : Spot) (callee : Home) (last : Spot) (next : ℕ) (after : Shape)
    → IsThere header code home spot → Enters code spot callee next → IsLast header code callee last
    → top_first after ≡ left_by (top_first last.shape) (top_first spot.shape) → IsThere header code home (record { place = next; shape = after })
left_there header code home spot callee last next after t n l e =
    let inner : Way header code (Called (jump_place spot.place n.offset)) (entered (top_first spot.shape)) last.place (top_first last.shape) =
    subst (λ f. Way header code (Called (jump_place spot.place n.offset)) f last.place (top_first last.shape)) n.first
    (subst (λ e. Way header code e (top_first callee.first) last.place (top_first last.shape)) n.entry l.there.way) in
    record {
      way = subst (λ s. Way header code home.entry (top_first home.first) next s) (sym e)
          (subst (λ p. Way header code home.entry (top_first home.first) p (left_by (top_first last.shape) (top_first spot.shape))) (sym n.behind)
          (Returns home.entry (top_first home.first) spot.place (top_first spot.shape) n.offset last.place (top_first last.shape) t.way n.stands inner
          l.return.stands l.ended));
    }

pub ruleset calling = (callee_home, callee_enters, left_there)

-- ---- stored states

pub stored_home : (header : EngineTable) (code : List PlainOp) (home : Home) (spot : Spot) (globals locals : ℕ) (types : StoredTypes) (first : Shape)
    → IsHome header code home → IsThere header code home spot → op_at code spot.place ≡ Some (ops.StoreState globals locals)
    → Some types ≡ stored_types globals locals (reverse spot.shape.under) (reverse spot.shape.cells) → top_first first ≡ stored_shape types
    → IsHome header code (record { entry = Stored spot.place; called_at = None; at = spot.place + 16; first = first })
stored_home header code home spot globals locals types first h t stands found e = record {
  comes = subst (λ f. Comes header code (Stored spot.place) None f) (sym e)
      (Stores home.entry home.called_at (top_first home.first) spot.place (top_first spot.shape) globals locals types h.comes t.way stands (sym found));
  at = refl;
}

pub store_one : (op : PlainOp) (globals locals : ℕ) → op ≡ ops.StoreState globals locals → IsOneStep op
store_one op globals locals e = subst IsOneStep (sym e) tt

pub store_stands : (code : List PlainOp) (place : ℕ) (op : PlainOp) (globals locals : ℕ) → op_at code place ≡ Some op → op ≡ ops.StoreState globals locals
    → op_at code place ≡ Some (ops.StoreState globals locals)
store_stands code place op globals locals stands e = stands ∙ ap Some e

pub ruleset storing = (stored_home, store_one, store_stands)

-- ---- lists of types as slots

plus_one : (i : ℕ) → suc i ≡ i + 1
plus_one i = omega arith

put_next : (types : List Ty) (i : ℕ) (t : Ty) (slots : List Slot) → i < length types → t ≡ get_or types i t
    → map Of (take (suc i) types) ++ slots ≡ map Of (take i types) ++ (Of t ∷ slots)
put_next [] i t slots h is = absurd (omega (arith, h))
put_next (u ∷ types) zero t slots h is = ap (λ x. Of x ∷ slots) (sym is)
put_next (u ∷ types) (suc i) t slots h is = ap (λ rest. Of u ∷ rest) (put_next types i t slots (omega (arith, h)) is)

pub put_one : (types : List Ty) (i : ℕ) (t : Ty) (slots : List Slot) → i < length types → t ≡ get_or types i t
    → map Of (take (i + 1) types) ++ slots ≡ map Of (take i types) ++ (Of t ∷ slots)
put_one types i t slots h is = subst (λ j. map Of (take j types) ++ slots ≡ map Of (take i types) ++ (Of t ∷ slots)) (plus_one i) (put_next types i t slots h is)

pub last_put : (xs : List Slot) (x : Slot) → reverse (xs ++ x ∷ []) ≡ x ∷ reverse xs
last_put xs x = reverse-append xs (x ∷ [])

pub ruleset put_types = (put_one, last_put)

-- what a stored state resumes with
pub stored_is : (globals locals : List Ty) (under based cells : List Slot) → reverse under ≡ map Of globals ++ [] → based ≡ under ++ Base ∷ []
    → reverse cells ≡ map Of locals ++ reverse based
    → top_first (record { cells = cells; under = under; saved = []; pending = 0 }) ≡ stored_shape (record { globals = globals; locals = locals })
stored_is globals locals under based cells u b c =
    let globals_are : reverse under ≡ map Of globals = u ∙ append-nil (map Of globals) in
    same_top _ _ _ _ (c ∙ ap (λ z. map Of locals ++ z) (ap reverse b ∙ last_put under Base ∙ ap (λ z. Base ∷ z) globals_are)) globals_are
  where
    same_top : (cells under cells' under' : List Slot) → cells ≡ cells' → under ≡ under'
        → (let a : TopShape = record { cells = cells; under = under; saved = []; pending = 0 } in a)
        ≡ record { cells = cells'; under = under'; saved = []; pending = 0 }
    same_top cells under cells' under' c u =
        ap (λ c. record { cells = c; under = under; saved = []; pending = 0 }) c
        ∙ ap (λ u. record { cells = cells'; under = u; saved = []; pending = 0 }) u

pub ruleset stored = (stored_is)

-- ---- reasons

pub reason_there : (header : EngineTable) (code : List PlainOp) (home : Home) (spot : Spot) (trouble : Trouble) → IsHome header code home
    → IsThere header code home spot → IsWrong header code home spot trouble
    → IsReason header code (record { entry = home.entry; called_at = home.called_at; place = spot.place; shape = spot.shape; trouble = trouble })
reason_there header code home spot trouble h t w = record { first = top_first home.first; comes = h.comes; way = t.way; trouble = w }

pub other_cells : (header : EngineTable) (code : List PlainOp) (home : Home) (spot other : Spot) (copy : Shape) → IsThere header code home other
    → other.place ≡ spot.place → top_first copy ≡ top_first other.shape → (top_first spot.shape ≡ top_first other.shape → ⊥)
    → IsWrong header code home spot (OtherCells copy)
other_cells header code home spot other copy t p e differ = record {
  way = subst (λ p. Way header code home.entry (top_first home.first) p (top_first copy)) p
      (subst (λ s. Way header code home.entry (top_first home.first) other.place s) (sym e) t.way);
  differ = λ same. differ (same ∙ e);
}

pub other_result : (header : EngineTable) (code : List PlainOp) (home : Home) (spot other : Spot) → IsLast header code home spot
    → IsLast header code home other → (reverse spot.shape.cells ≡ reverse other.shape.cells → ⊥)
    → IsWrong header code home spot (OtherResult other.place other.shape)
other_result header code home spot other l o differ = record { return = l.return; second_return = o.return; way = o.there.way; differ = differ }

pub last_there : (header : EngineTable) (code : List PlainOp) (home : Home) (spot : Spot) → IsLast header code home spot → IsThere header code home spot
last_there header code home spot l = l.there

pub ruleset telling = (reason_there, other_cells, other_result, last_there)

-- ---- shapes that differ

get_same : (xs ys : List Slot) (depth : ℕ) → xs ≡ ys → slice_get xs depth ≡ slice_get ys depth
get_same xs ys depth e = ap (λ (z : List Slot). slice_get z depth) e

pub cells_same : (a b : Shape) → top_first a ≡ top_first b → reverse a.cells ≡ reverse b.cells
cells_same a b e = ap (λ (s : TopShape). s.cells) e

pub under_same : (a b : Shape) → top_first a ≡ top_first b → reverse a.under ≡ reverse b.under
under_same a b e = ap (λ (s : TopShape). s.under) e

pub pending_same : (a b : Shape) → top_first a ≡ top_first b → a.pending ≡ b.pending
pending_same a b e = ap (λ (s : TopShape). s.pending) e

pub lists_differ : (xs ys : List Slot) (found : Option ℕ) → IfSome found (λ depth. slice_get xs depth ≢ slice_get ys depth)
    → (found ≡ None → ⊥) → xs ≡ ys → ⊥
lists_differ xs ys None h some e = some refl
lists_differ xs ys (Some depth) h some e = h (get_same xs ys depth e)

pub ruleset differing = (cells_same, under_same, pending_same, lists_differ)

-- ---- the whole

pub reason_found : ReasonsRefute → (header : EngineTable) (code : List PlainOp) (reason : Reason) → IsReason header code reason → WellStacked header code → ⊥
reason_found law header code reason h w = law header code reason h w

pub ruleset taking = (are_rest, is_taken)

pub ruleset finding = (reason_found)
