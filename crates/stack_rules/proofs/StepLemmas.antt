-- A step of a safe frame has a case, and leads to a safe frame.
use Rattle.std.proofs.Common.{arith, ◌≡◌, ◌≤◌, ◌+◌, ◌-◌, ℕ, zero, suc, List, [], ◌∷◌, ◌++◌, length, map, drop, take, reverse, slice_get, Option, Some, None, Bool, true, false, sym, subst, ◌∙◌}
use Rattle.std.proofs.Common.{ap, refl, zero-add}
use Rattle.std.specs.Prelude.{ℤ, nat_le, ◌==◌, ◌&&◌, if◌then◌else◌}
use Rattle.std.specs.Option.{option_map, option_and_then}
use Rattle.std.proofs.lemmas.Bool.Decides.{nat_tests}
use Rattle.std.proofs.lemmas.List.{append_assoc, append_cancel_right, length-append, length-drop, length-reverse}
use Rattle.nwq_value.specs.declared.value.Ty.{Ty}
use Rattle.nwq_value.specs.declared.value.Ty.TheVariants.{Void, Text as TextTy, Object as ObjectTy}
use Rattle.nwq_value.specs.declared.value.Value.{Value}
use Rattle.nwq_value.specs.declared.value.Value.TheVariants.{Text, Object}
use Rattle.nwq_value.specs.declared.engine.Routine.{Routine}
use Rattle.nwq_value.specs.Engine.{EngineTable}
use Rattle.ncs_code.specs.Plain.{PlainOp}
use Rattle.ncs_code.specs.Plain as ops
use Rattle.ncs_code.specs.File.{jump_place, resume_place}
use Rattle.saved_state.specs.declared.cell.Cell.{Cell}
use Rattle.saved_state.specs.declared.cell.Cell.TheVariants.{Value as Holds, Base}
use Rattle.saved_state.specs.declared.saved.Saved.{Saved}
use Rattle.saved_state.specs.Cells.{cells_beneath}
use Rattle.stack_shape.specs.declared.shape.Slot.{Slot}
use Rattle.stack_shape.specs.declared.shape.Slot.TheVariants.{Of}
use Rattle.stack_shape.specs.declared.shape.Entry.{Entry}
use Rattle.stack_shape.specs.declared.shape.Entry.TheVariants.{Start, Called, Stored}
use Rattle.stack_shape.specs.declared.effect.StackEffect.{StackEffect}
use Rattle.stack_shape.specs.declared.store.StoredTypes.{StoredTypes}
use Rattle.stack_shape.specs.StackEffects.{after_effect, stack_effect, exchange}
use Rattle.stack_shape.specs.Calls.{action_count, argument_types, result_types, is_callable, fits_call, call_effect}
use Rattle.stack_shape.specs.Stored.{TopShape, stored_types, stored_shape}
use Rattle.stack_shape.specs.Rule.{affected, based, called_shape, called_with, rule}
use Rattle.stack_shape.specs.Rule as rules
use Rattle.stack_shape.specs.Laws.{AreValues, EffectsPopValues, CallsPopValues, ValuesAreThere, EffectsLookFromTop, CallsLookFromTop, StoresLookFromTop}
use Rattle.machine_rules.specs.Cells.{value_types, zero_on_top}
use Rattle.machine_rules.specs.Calls.{Taken, arguments, is_execute_script}
use Rattle.machine_rules.specs.Frames.{Frame}
use Rattle.machine_rules.specs.Act.{Act, Moves, Asks, Executes, Returns, Divides, act, cells_after, is_division, next_place, place_after, moved, returned, stored, behind_call, executed, asked}
use Rattle.machine_rules.specs.Act.{engine_called}
use Rattle.machine_rules.specs.Act as machine
use Rattle.machine_rules.specs.Machine.{Script, with_answer}
use Rattle.machine_rules.specs.Outlines.{Outline, Typed, Keeps, outline, outlines, slots, slots_under, outlines_after}
use Rattle.machine_rules.specs.Laws.{EffectsAreFollowed, CallsAreFollowed, CapturesTypes, StoresAreFollowed}
use Rattle.stack_rules.specs.Tables.{Callee, ShapeTable, first_shape}
use Rattle.stack_rules.specs.Rules.{GoesOnBehindCall, MayCall, Leads, MayStore, Obeys, MeetsRules}
use Rattle.stack_rules.specs.Rules as owed
use Rattle.stack_rules.specs.Fits.{Tables, IsListed, FitsOne, FitsAction}
use Rattle.stack_rules.specs.Safe.{outline_slots, from_base, IsUnder, AreSaved, ShapeLiesOn, Waits, AreWaiting, AllFit, IsSafeFrame}
use Rattle.stack_rules.specs.Laws.{TypesExecuteScript, HasType}
use Rattle.stack_rules.proofs.StackLemmas.{on_map, on_then, some_is, slots_are, deep_is, under_is, carries_on, base_carries, restores}

-- the laws of the rules and of the machine
pub record Lower : Type 0 where
  pub effects : EffectsAreFollowed
  pub calls : CallsAreFollowed
  pub stores : StoresAreFollowed
  pub effects_top : EffectsLookFromTop
  pub calls_top : CallsLookFromTop
  pub stores_top : StoresLookFromTop
  pub pops : EffectsPopValues
  pub call_pops : CallsPopValues
  pub there : ValuesAreThere

-- an engine call of a routine with arguments that fit, behind which the frame is safe with each
-- answer
pub record AsksSafely (header : EngineTable) (scripts : List Script) (tables : Tables) (number : ℕ) (values : List Value) (action : Option Saved) (f : Frame) : Type 0 where
  pub routine : Routine
  pub listed : slice_get header.routines number ≡ Some routine
  pub callable : is_callable routine ≡ true
  pub types : value_types values ≡ argument_types routine.params
  pub fits : FitsAction scripts tables action
  pub answered : (a : Option Value) → HasType routine.result a → IsSafeFrame scripts tables (with_answer a f)

abbrev pub ActsSafely : EngineTable → List Script → Tables → Option Act → Type 0
ActsSafely header scripts tables None = ⊥
ActsSafely header scripts tables (Some (Moves f)) = IsSafeFrame scripts tables f
ActsSafely header scripts tables (Some (Asks number values action f)) = AsksSafely header scripts tables number values action f
ActsSafely header scripts tables (Some (Executes name target f)) = IsSafeFrame scripts tables f
ActsSafely header scripts tables (Some Returns) = Unit {0}
ActsSafely header scripts tables (Some Divides) = Unit {0}

-- the frame at another place, on other cells, with other states pending
abbrev with_cells : Frame → ℕ → List Cell → List Saved → Frame
with_cells f place cells pending = record f { place = place; stack = record f.stack { cells = cells }; pending = pending }

-- ---- instructions that change nothing but the cells

led : (table : ShapeTable) (entry : Entry) (op : PlainOp) (place : ℕ) (cells : List Cell) (after : TopShape) → Leads table entry place op after
    → table.at entry (place_after op place cells) ≡ Some after
led table entry (ops.Jmp offset) place cells after h = h
led table entry (ops.Jz offset) place cells after h = on (zero_on_top cells) refl
  where
    on : (b : Bool) → zero_on_top cells ≡ b → table.at entry (place_after (ops.Jz offset) place cells) ≡ Some after
    on true e = rw e h.0
    on false e = rw e h.1
led table entry (ops.Jnz offset) place cells after h = on (zero_on_top cells) refl
  where
    on : (b : Bool) → zero_on_top cells ≡ b → table.at entry (place_after (ops.Jnz offset) place cells) ≡ Some after
    on true e = rw e h.1
    on false e = rw e h.0
led table entry op place cells after h = h

moved_by : (header : EngineTable) (scripts : List Script) (tables : Tables) (op : PlainOp) (f : Frame) (o : Option (List Cell)) (cells : List Cell) (divides : Bool)
    → o ≡ Some cells → IsSafeFrame scripts tables (with_cells f (place_after op f.place f.stack.cells) cells f.pending)
    → ActsSafely header scripts tables (option_map (λ (cells : List Cell). if divides then Divides
    else Moves (record f { place = place_after op f.place f.stack.cells; stack = record f.stack { cells = cells } })) o)
moved_by header scripts tables op f None cells divides h safe = absurd cc
moved_by header scripts tables op f (Some c) cells true h safe = tt
moved_by header scripts tables op f (Some c) cells false h safe =
    subst (λ (c : List Cell). IsSafeFrame scripts tables (with_cells f (place_after op f.place f.stack.cells) c f.pending)) (sym (some_is c cells h)) safe

-- the effect on the whole stack
record OnStack (op : PlainOp) (f : Frame) (shape after : TopShape) (below : List Slot) (floor : List Outline) (found_bp : ℕ) : Type 0 where
  cells : List Cell
  are : cells_after op f.self f.stack ≡ Some cells
  same : after.pending ≡ shape.pending
  carries : ShapeLiesOn after (outline_slots (outlines cells)) (from_base (outlines cells)) f.stack.bp below floor found_bp

popped_types : (L : Lower) (n : ℕ) (cells below : List Slot) (os : List Outline) → outline_slots os ≡ cells ++ below → AreValues n cells → AreValues n (cells ++ below)
    → (n ≤ length cells) × AreValues n (outline_slots os)
popped_types L n cells below os h v w = ((L.there n cells v.0 v.1).1, subst (λ (ss : List Slot). AreValues n ss) (sym h) w)

on_stack : (L : Lower) (op : PlainOp) (f : Frame) (shape after : TopShape) (below : List Slot) (floor : List Outline) (found_bp : ℕ)
    → ShapeLiesOn shape (outline_slots (outlines f.stack.cells)) (from_base (outlines f.stack.cells)) f.stack.bp below floor found_bp
    → affected (stack_effect op shape.under shape.cells) shape ≡ Some after → OnStack op f shape after below floor found_bp
on_stack L op f shape after below floor found_bp c h =
    let m = on_map (λ (e : StackEffect). record shape { cells = after_effect e shape.cells }) (stack_effect op shape.under shape.cells) after h in
    let e = m.0 in
    let whole : stack_effect op (shape.under ++ c.under.rest) (shape.cells ++ below) ≡ Some e = L.effects_top op shape.under shape.cells below c.under.rest e m.1 in
    let slots_is : slots f.stack.cells ≡ shape.cells ++ below = slots_are f.stack.cells ∙ c.cells in
    let here : stack_effect op (slots_under f.stack) (slots f.stack.cells) ≡ Some e =
    ap (λ (u : List Slot). stack_effect op u (slots f.stack.cells)) (under_is f.stack shape.under c.under)
    ∙ ap (stack_effect op (shape.under ++ c.under.rest)) slots_is ∙ whole in
    let does = L.effects op f.self f.stack e (deep_is f.stack shape.under c.under) here in
    let p = popped_types L e.pops shape.cells below (outlines f.stack.cells) c.cells (L.pops op shape.under shape.cells e m.1)
    (L.pops op (shape.under ++ c.under.rest) (shape.cells ++ below) e whole) in
    subst (λ (a : TopShape). OnStack op f shape a below floor found_bp) m.2 (record {
      cells = does.cells;
      are = does.are;
      same = refl;
      carries = carries_on e shape (outlines f.stack.cells) (outlines does.cells) f.stack.bp below floor found_bp p.1.0 c p.0 p.1.1 does.outlines;
    })

plain_acts : (L : Lower) (header : EngineTable) (scripts : List Script) (tables : Tables) (op : PlainOp) (f : Frame) (s : IsSafeFrame scripts tables f) (after : TopShape)
    → affected (stack_effect op s.shape.under s.shape.cells) s.shape ≡ Some after → Leads (tables f.script) s.entry f.place op after
    → ActsSafely header scripts tables (moved op f)
plain_acts L header scripts tables op f s after h leads =
    let o = on_stack L op f s.shape after s.below s.floor s.found_bp s.carries h in
    moved_by header scripts tables op f (cells_after op f.self f.stack) o.cells (is_division op && zero_on_top f.stack.cells) o.are (record {
      listed = s.listed;
      entry = s.entry;
      shape = after;
      known = led (tables f.script) s.entry op f.place f.stack.cells after leads;
      below = s.below;
      floor = s.floor;
      found_bp = s.found_bp;
      others = s.others;
      carries = o.carries;
      count = s.count ∙ ap (λ (n : ℕ). n + s.others) (sym o.same);
      callers = s.callers;
      fit = s.fit;
    })

-- ---- SAVEBP and RESTOREBP

save_acts : (header : EngineTable) (scripts : List Script) (tables : Tables) (f : Frame) (s : IsSafeFrame scripts tables f) (after : TopShape)
    → Some (based s.shape) ≡ Some after → (tables f.script).at s.entry (next_place f.place ops.SaveBp) ≡ Some after
    → ActsSafely header scripts tables (Some (machine.based f))
save_acts header scripts tables f s after h leads = record {
  listed = s.listed;
  entry = s.entry;
  shape = based s.shape;
  known = leads ∙ sym h;
  below = s.below;
  floor = s.floor;
  found_bp = s.found_bp;
  others = s.others;
  carries = base_carries s.shape f.stack.cells f.stack.bp s.below s.floor s.found_bp s.carries;
  count = s.count;
  callers = s.callers;
  fit = s.fit;
}

restored_by : (header : EngineTable) (scripts : List Script) (tables : Tables) (f : Frame) (cells : List Cell) (kept : ℕ) (rest : List Cell) → cells ≡ Base kept ∷ rest
    → IsSafeFrame scripts tables (record f { place = next_place f.place ops.RestoreBp; stack = record { cells = rest; bp = kept } })
    → ActsSafely header scripts tables (machine.restored cells f)
restored_by header scripts tables f cells kept rest h safe = subst (λ (c : List Cell). ActsSafely header scripts tables (machine.restored c f)) (sym h) safe

restore_acts : (header : EngineTable) (scripts : List Script) (tables : Tables) (f : Frame) (s : IsSafeFrame scripts tables f) (after : TopShape)
    → rules.restored s.shape.cells s.shape.saved s.shape.pending ≡ Some after → (tables f.script).at s.entry (next_place f.place ops.RestoreBp) ≡ Some after
    → ActsSafely header scripts tables (machine.restored f.stack.cells f)
restore_acts header scripts tables f s after h leads =
    let r = restores f.stack.cells s.shape.cells s.shape.saved s.shape.pending after f.stack.bp s.below s.floor s.found_bp s.carries.cells s.carries.saved h in
    restored_by header scripts tables f f.stack.cells r.kept r.rest r.is (record {
      listed = s.listed;
      entry = s.entry;
      shape = after;
      known = leads;
      below = s.below;
      floor = s.floor;
      found_bp = s.found_bp;
      others = s.others;
      carries = r.carries;
      count = s.count ∙ ap (λ (n : ℕ). n + s.others) (sym r.same);
      callers = s.callers;
      fit = s.fit;
    })

-- ---- JSR and RETN

callee_is : (o : Option Callee) (b c : Callee) → o ≡ Some b → o ≡ Some c → b ≡ c
callee_is o b c h k = some_is b c (sym h ∙ k)

call_acts : (header : EngineTable) (scripts : List Script) (tables : Tables) (code : List PlainOp) (f : Frame) (s : IsSafeFrame scripts tables f) (offset : ℤ)
    → MeetsRules header code (tables f.script)
    → MayCall (tables f.script) s.entry (jump_place f.place offset) (next_place f.place (ops.Jsr offset)) s.shape
    → ActsSafely header scripts tables (Some (machine.subroutine_called offset f))
call_acts header scripts tables code f s offset meets m = record {
  listed = s.listed;
  entry = Called (jump_place f.place offset);
  shape = first_shape m.callee;
  known = meets.entered (jump_place f.place offset) m.callee m.known;
  below = m.rest ++ s.below;
  floor = from_base (outlines f.stack.cells);
  found_bp = f.stack.bp;
  others = length f.pending;
  carries = record {
    cells = s.carries.cells ∙ ap (λ (ss : List Slot). ss ++ s.below) m.cells ∙ append_assoc m.callee.taken m.rest s.below;
    under = record {
      deep = s.carries.under.deep;
      rest = m.deeper ++ s.carries.under.rest;
      are = s.carries.under.are ∙ ap (λ (ss : List Slot). ss ++ s.carries.under.rest) m.under ∙ append_assoc m.callee.under m.deeper s.carries.under.rest;
    };
    saved = (refl, refl);
  };
  count = sym (zero-add (length f.pending));
  callers = λ callee given known gives. waits callee given known gives;
  fit = s.fit;
}
  where
    goes_on : (callee : Callee) (given : List Slot) → callee ≡ m.callee → callee.given ≡ Some given
        → (tables f.script).at s.entry (next_place f.place (ops.Jsr offset)) ≡ Some (record s.shape { cells = given ++ m.rest })
    goes_on callee given is gives = subst (GoesOnBehindCall (tables f.script) s.entry (next_place f.place (ops.Jsr offset)) s.shape m.rest)
        (ap (λ (c : Callee). c.given) (sym is) ∙ gives) m.goes_on

    waits : (callee : Callee) (given : List Slot) → (tables f.script).called (jump_place f.place offset) ≡ Some callee → callee.given ≡ Some given
        → Waits (tables f.script) (AreWaiting (tables f.script) f.calls) (next_place f.place (ops.Jsr offset)) given (m.rest ++ s.below)
        (from_base (outlines f.stack.cells)) f.stack.bp (length f.pending)
    waits callee given known gives = record {
      entry = s.entry;
      shape = record s.shape { cells = given ++ m.rest };
      known = goes_on callee given (callee_is _ callee m.callee known m.known) gives;
      lower = s.below;
      lower_floor = s.floor;
      lower_bp = s.found_bp;
      others = s.others;
      carries = record { cells = sym (append_assoc given m.rest s.below); under = s.carries.under; saved = s.carries.saved };
      pending = s.count;
      callers = s.callers;
    }

-- the routine that waits goes on
comes_back : (scripts : List Script) (tables : Tables) (f : Frame) (s : IsSafeFrame scripts tables f) (place : ℕ) (calls : List ℕ)
    → s.shape.saved ≡ [] → s.shape.pending ≡ 0
    → Waits (tables f.script) (AreWaiting (tables f.script) calls) place s.shape.cells s.below s.floor s.found_bp s.others
    → IsSafeFrame scripts tables (record f { place = place; calls = calls })
comes_back scripts tables f s place calls none_saved none_pending w =
    let bases : (from_base (outlines f.stack.cells) ≡ s.floor) × (f.stack.bp ≡ s.found_bp) =
    subst (λ (us : List (List Slot)). AreSaved us (from_base (outlines f.stack.cells)) f.stack.bp s.floor s.found_bp) none_saved s.carries.saved in
    record {
      listed = s.listed;
      entry = w.entry;
      shape = w.shape;
      known = w.known;
      below = w.lower;
      floor = w.lower_floor;
      found_bp = w.lower_bp;
      others = w.others;
      carries = record {
        cells = s.carries.cells ∙ w.carries.cells;
        under = subst (λ (b : List Outline). IsUnder b f.stack.bp w.shape.under) (sym bases.0) (subst (λ (n : ℕ). IsUnder s.floor n w.shape.under) (sym bases.1) w.carries.under);
        saved = subst (λ (b : List Outline). AreSaved w.shape.saved b f.stack.bp w.lower_floor w.lower_bp) (sym bases.0)
            (subst (λ (n : ℕ). AreSaved w.shape.saved s.floor n w.lower_floor w.lower_bp) (sym bases.1) w.carries.saved);
      };
      count = s.count ∙ ap (λ (n : ℕ). n + s.others) none_pending ∙ zero-add s.others ∙ w.pending;
      callers = w.callers;
      fit = s.fit;
    }

return_acts : (header : EngineTable) (scripts : List Script) (tables : Tables) (f : Frame) (s : IsSafeFrame scripts tables f) (entry : Entry) (calls : List ℕ)
    → AreWaiting (tables f.script) calls entry s.below s.floor s.found_bp s.others → owed.Returns (tables f.script) entry s.shape
    → ActsSafely header scripts tables (Some (returned calls f))
return_acts header scripts tables f s entry [] callers r = tt
return_acts header scripts tables f s Start (place ∷ calls) callers r = absurd callers
return_acts header scripts tables f s (Stored site) (place ∷ calls) callers r = absurd callers
return_acts header scripts tables f s (Called target) (place ∷ calls) callers r =
    comes_back scripts tables f s place calls r.saved r.pending (callers r.callee s.shape.cells r.known r.given)

-- ---- STORE_STATE

outline_slots_typed : (ts : List Ty) → outline_slots (map Typed ts) ≡ map Of ts
outline_slots_typed [] = refl
outline_slots_typed (t ∷ ts) = ap (λ (ss : List Slot). Of t ∷ ss) (outline_slots_typed ts)

slots_typed : (cells : List Cell) (ts : List Ty) → outlines cells ≡ map Typed ts → slots cells ≡ map Of ts
slots_typed cells ts h = slots_are cells ∙ ap outline_slots h ∙ outline_slots_typed ts

outlines_append : (a b : List Cell) → outlines (a ++ b) ≡ outlines a ++ outlines b
outlines_append [] b = refl
outlines_append (c ∷ a) b = ap (λ (os : List Outline). outline c ∷ os) (outlines_append a b)

drop_past : (upper lower : List Cell) (c : Cell) → drop (suc (length upper)) (upper ++ c ∷ lower) ≡ lower
drop_past [] lower c = refl
drop_past (x ∷ upper) lower c = drop_past upper lower c

cells_under : (upper lower : List Cell) (c : Cell) (n : ℕ) → n ≡ length lower → cells_beneath n (upper ++ c ∷ lower) ≡ lower
cells_under upper lower c n h = ap (λ (k : ℕ). drop k (upper ++ c ∷ lower)) (count (length-append upper (c ∷ lower))) ∙ drop_past upper lower c
  where
    count : length (upper ++ c ∷ lower) ≡ length upper + suc (length lower) → length (upper ++ c ∷ lower) - n ≡ suc (length upper)
    count e = omega (arith, h, e)

-- what is captured fits
captured_fits : (scripts : List Script) (tables : Tables) (f : Frame) (globals locals : ℕ) (types : StoredTypes) → IsListed scripts f.script
    → (tables f.script).at (Stored f.place) (resume_place f.place) ≡ Some (stored_shape types)
    → (c : CapturesTypes globals locals f types) → FitsOne scripts tables c.saved
captured_fits scripts tables f globals locals types listed known c =
    let upper = reverse c.saved.locals in
    let lower = reverse c.saved.globals in
    let beneath : outlines lower ≡ map Typed types.globals =
    ap outlines (sym (cells_under upper lower (Base 0) (length c.saved.globals) (sym (length-reverse c.saved.globals)))) ∙ c.under in
    let above : outlines upper ≡ map Typed types.locals = append_cancel_right (outlines upper) (map Typed types.locals) (Keeps 0 ∷ map Typed types.globals)
    (ap (λ (os : List Outline). outlines upper ++ Keeps 0 ∷ os) (sym beneath) ∙ sym (outlines_append upper (Base 0 ∷ lower)) ∙ c.cells) in
    record {
      listed = subst (IsListed scripts) (sym c.script) listed;
      fits = record {
        site = f.place;
        place = c.place;
        types = types;
        known = ap (λ (n : ℕ). (tables n).at (Stored f.place) c.saved.place) c.script
            ∙ ap (λ (n : ℕ). (tables f.script).at (Stored f.place) n) c.place ∙ known;
        globals = slots_typed lower types.globals beneath;
        locals = slots_typed upper types.locals above;
      };
    }

store_acts : (L : Lower) (header : EngineTable) (scripts : List Script) (tables : Tables) (f : Frame) (s : IsSafeFrame scripts tables f) (globals locals : ℕ) (after : TopShape)
    → rules.stored globals locals s.shape ≡ Some after → (tables f.script).at s.entry (next_place f.place (ops.StoreState globals locals)) ≡ Some after
    → MayStore (tables f.script) f.place globals locals s.shape → ActsSafely header scripts tables (stored globals locals f)
store_acts L header scripts tables f s globals locals after h leads m =
    let n = on_map (λ (types : StoredTypes). record s.shape { pending = s.shape.pending + 1 }) (stored_types globals locals s.shape.under s.shape.cells) after h in
    let whole = L.stores_top globals locals s.shape.under s.shape.cells s.below s.carries.under.rest m.types m.found in
    let here : stored_types globals locals (slots_under f.stack) (slots f.stack.cells) ≡ Some m.types =
    ap (λ (u : List Slot). stored_types globals locals u (slots f.stack.cells)) (under_is f.stack s.shape.under s.carries.under)
    ∙ ap (stored_types globals locals (s.shape.under ++ s.carries.under.rest)) (slots_are f.stack.cells ∙ s.carries.cells) ∙ whole in
    let c = L.stores globals locals f m.types (deep_is f.stack s.shape.under s.carries.under) here in
    subst (ActsSafely header scripts tables) (sym c.is) (record {
      listed = s.listed;
      entry = s.entry;
      shape = record s.shape { pending = s.shape.pending + 1 };
      known = leads ∙ ap Some (sym n.2);
      below = s.below;
      floor = s.floor;
      found_bp = s.found_bp;
      others = s.others;
      carries = record { cells = s.carries.cells; under = s.carries.under; saved = s.carries.saved };
      count = omega (arith, s.count);
      callers = s.callers;
      fit = (captured_fits scripts tables f globals locals m.types s.listed m.resumes c, s.fit);
    })

-- ---- ACTION

first_fits : (scripts : List Script) (tables : Tables) (n : ℕ) (pending : List Saved) → AllFit scripts tables pending → FitsAction scripts tables (slice_get (take n pending) 0)
first_fits scripts tables zero pending h = tt
first_fits scripts tables (suc n) [] h = tt
first_fits scripts tables (suc n) (saved ∷ pending) h = h.0

rest_fit : (scripts : List Script) (tables : Tables) (n : ℕ) (pending : List Saved) → AllFit scripts tables pending → AllFit scripts tables (drop n pending)
rest_fit scripts tables zero pending h = h
rest_fit scripts tables (suc n) [] h = h
rest_fit scripts tables (suc n) (saved ∷ pending) h = rest_fit scripts tables n pending h.1

both_true : (a b : Bool) → (a && b) ≡ true → (a ≡ true) × (b ≡ true)
both_true true b h = (refl, h)
both_true false b h = absurd cc

le_of : (m n : ℕ) → nat_le m n ≡ true → m ≤ n
le_of m n h = grind (arith, nat_tests)

is_le : (m n : ℕ) → m ≤ n → nat_le m n ≡ true
is_le m n h = grind (arith, nat_tests)

-- a call that fits with some states pending fits with more
record MorePending (r : Routine) (count pending more : ℕ) (cells : List Slot) (e : StackEffect) : Type 0 where
  fits : call_effect r count (pending + more) cells ≡ Some e
  enough : action_count r.params ≤ pending
  callable : is_callable r ≡ true

more_by : (r : Routine) (count pending more : ℕ) (cells : List Slot) (e : StackEffect) (b : Bool) → fits_call r count pending ≡ b
    → (if b then exchange (argument_types r.params) (result_types r.result) cells else None) ≡ Some e → MorePending r count pending more cells e
unfolding call_effect fits_call
more_by r count pending more cells e false k h = absurd cc
more_by r count pending more cells e true k h =
    let b = both_true (is_callable r && (count == length r.params)) (nat_le (action_count r.params) pending) k in
    let enough = le_of (action_count r.params) pending b.1 in
    record {
      fits = passes b.0 (is_le (action_count r.params) (pending + more) (omega (arith, enough)));
      enough = enough;
      callable = (both_true (is_callable r) (count == length r.params) b.0).0;
    }
  where
    passes : (is_callable r && (count == length r.params)) ≡ true → nat_le (action_count r.params) (pending + more) ≡ true → call_effect r count (pending + more) cells ≡ Some e
    passes p q = rw (p, q) h

more_pending : (r : Routine) (count pending more : ℕ) (cells : List Slot) (e : StackEffect) → call_effect r count pending cells ≡ Some e → MorePending r count pending more cells e
unfolding call_effect
more_pending r count pending more cells e h = more_by r count pending more cells e (fits_call r count pending) refl h

-- the outlines behind a call, with its answer
answer_outlines : (t : Ty) (v : Value) (cells : List Cell) → HasType t (Some v) → outlines (Holds v ∷ cells) ≡ map Typed (result_types t) ++ outlines cells
answer_outlines Void v cells h = absurd h
answer_outlines t v cells h = ap (λ (u : Ty). Typed u ∷ outlines cells) h

no_answer_outlines : (t : Ty) (cells : List Cell) → HasType t None → outlines cells ≡ map Typed (result_types t) ++ outlines cells
no_answer_outlines Void cells h = refl
no_answer_outlines t cells h = absurd h

executes : (header : EngineTable) (scripts : List Script) (tables : Tables) (values : List Value) (f : Frame) → value_types values ≡ TextTy ∷ ObjectTy ∷ []
    → IsSafeFrame scripts tables f → ActsSafely header scripts tables (executed values f)
executes header scripts tables (Text name ∷ Object target ∷ []) f h safe = safe
executes header scripts tables values f h safe = absurd cc

-- the frame behind the call is safe on cells with these outlines
behind_safe : (L : Lower) (scripts : List Script) (tables : Tables) (f : Frame) (s : IsSafeFrame scripts tables f) (r : Routine) (routine count : ℕ) (e : StackEffect) (t : Taken)
    → call_effect r count s.shape.pending s.shape.cells ≡ Some e → t.pending ≡ drop (action_count r.params) f.pending → action_count r.params ≤ s.shape.pending
    → (tables f.script).at s.entry (next_place f.place (ops.Action routine count))
    ≡ Some (record s.shape { cells = after_effect e s.shape.cells; pending = s.shape.pending - action_count r.params })
    → (cells : List Cell) → outlines cells ≡ outlines_after e (outlines f.stack.cells)
    → IsSafeFrame scripts tables (with_cells f (next_place f.place (ops.Action routine count)) cells t.pending)
behind_safe L scripts tables f s r routine count e t h left enough known cells is =
    let whole = L.calls_top r count s.shape.pending s.shape.cells s.below e h in
    let p = popped_types L e.pops s.shape.cells s.below (outlines f.stack.cells) s.carries.cells (L.call_pops r count s.shape.pending s.shape.cells e h)
    (L.call_pops r count s.shape.pending (s.shape.cells ++ s.below) e whole) in
    let c = carries_on e s.shape (outlines f.stack.cells) (outlines cells) f.stack.bp s.below s.floor s.found_bp p.1.0 s.carries p.0 p.1.1 is in
    record {
      listed = s.listed;
      entry = s.entry;
      shape = record s.shape { cells = after_effect e s.shape.cells; pending = s.shape.pending - action_count r.params };
      known = known;
      below = s.below;
      floor = s.floor;
      found_bp = s.found_bp;
      others = s.others;
      carries = record { cells = c.cells; under = c.under; saved = c.saved };
      count = ap length left ∙ omega (arith, s.count, enough, length-drop (action_count r.params) f.pending);
      callers = s.callers;
      fit = subst (AllFit scripts tables) (sym left) (rest_fit scripts tables (action_count r.params) f.pending s.fit);
    }

asked_acts : (header : EngineTable) (scripts : List Script) (tables : Tables) (number count : ℕ) (r : Routine) (f : Frame) (t : Taken) (b : Bool) → is_execute_script r.role ≡ b
    → slice_get header.routines number ≡ Some r → is_callable r ≡ true → TypesExecuteScript header → value_types t.values ≡ argument_types r.params → FitsAction scripts tables t.action
    → ((a : Option Value) → HasType r.result a → IsSafeFrame scripts tables (with_answer a (behind_call number count f t)))
    → ActsSafely header scripts tables (if b then executed t.values (behind_call number count f t) else Some (Asks number t.values t.action (behind_call number count f t)))
asked_acts header scripts tables number count r f t true role listed callable runs types fits safe =
    let x = runs number r listed role in
    executes header scripts tables t.values (behind_call number count f t) (types ∙ x.takes) (safe None (subst (λ (u : Ty). HasType u None) (sym x.gives) tt))
asked_acts header scripts tables number count r f t false role listed callable runs types fits safe =
    record { routine = r; listed = listed; callable = callable; types = types; fits = fits; answered = safe }

engine_acts : (L : Lower) (header : EngineTable) (scripts : List Script) (tables : Tables) (f : Frame) (s : IsSafeFrame scripts tables f) (number count : ℕ) (after : TopShape)
    → TypesExecuteScript header → called_shape (slice_get header.routines number) count s.shape ≡ Some after
    → (tables f.script).at s.entry (next_place f.place (ops.Action number count)) ≡ Some after
    → ActsSafely header scripts tables (engine_called header number count f)
engine_acts L header scripts tables f s number count after runs h leads =
    let o = on_then (λ (r : Routine). called_with r count s.shape) (slice_get header.routines number) after h in
    let r = o.0 in
    let m = on_map (λ (e : StackEffect). record s.shape { cells = after_effect e s.shape.cells; pending = s.shape.pending - action_count r.params })
    (call_effect r count s.shape.pending s.shape.cells) after o.2 in
    let e = m.0 in
    let whole = L.calls_top r count s.shape.pending s.shape.cells s.below e m.1 in
    let more = more_pending r count s.shape.pending s.others (s.shape.cells ++ s.below) e whole in
    let here : call_effect r count (length f.pending) (slots f.stack.cells) ≡ Some e =
    ap (λ (n : ℕ). call_effect r count n (slots f.stack.cells)) s.count
    ∙ ap (call_effect r count (s.shape.pending + s.others)) (slots_are f.stack.cells ∙ s.carries.cells) ∙ more.fits in
    let t = L.calls r count f.stack.cells f.pending e here in
    let known : (tables f.script).at s.entry (next_place f.place (ops.Action number count))
    ≡ Some (record s.shape { cells = after_effect e s.shape.cells; pending = s.shape.pending - action_count r.params }) = leads ∙ ap Some (sym m.2) in
    let behind = behind_safe L scripts tables f s r number count e t.taken m.1 t.pending_left more.enough known in
    let shift : map Typed (result_types r.result) ++ outlines t.taken.cells ≡ outlines_after e (outlines f.stack.cells) =
    ap (λ (ts : List Ty). map Typed ts ++ outlines t.taken.cells) (sym t.pushes) ∙ ap (λ (os : List Outline). map Typed e.pushes ++ os) t.cells_left in
    subst (λ (x : Option Routine). ActsSafely header scripts tables (option_and_then (λ (r : Routine).
    option_and_then (asked number count r f) (arguments r count f.stack.cells f.pending)) x)) (sym o.1)
    (subst (λ (x : Option Taken). ActsSafely header scripts tables (option_and_then (asked number count r f) x)) (sym t.are)
    (asked_acts header scripts tables number count r f t.taken (is_execute_script r.role) refl o.1 more.callable runs t.values
    (subst (FitsAction scripts tables) (sym t.action) (first_fits scripts tables (action_count r.params) f.pending s.fit))
    (λ a typed. answered e t.taken.pending r.result t.taken.cells behind shift a typed)))
  where
    answered : (e : StackEffect) (pending : List Saved) (result : Ty) (cells : List Cell)
        → ((cells : List Cell) → outlines cells ≡ outlines_after e (outlines f.stack.cells)
        → IsSafeFrame scripts tables (with_cells f (next_place f.place (ops.Action number count)) cells pending))
        → map Typed (result_types result) ++ outlines cells ≡ outlines_after e (outlines f.stack.cells)
        → (a : Option Value) → HasType result a
        → IsSafeFrame scripts tables (with_answer a (with_cells f (next_place f.place (ops.Action number count)) cells pending))
    answered e pending result cells safe shift None typed = safe cells (no_answer_outlines result cells typed ∙ shift)
    answered e pending result cells safe shift (Some v) typed = safe (Holds v ∷ cells) (answer_outlines result v cells typed ∙ shift)

-- ---- each instruction

pub acts_safely : (L : Lower) (header : EngineTable) (scripts : List Script) (tables : Tables) (code : List PlainOp) (f : Frame) (s : IsSafeFrame scripts tables f)
    → MeetsRules header code (tables f.script) → TypesExecuteScript header → (op : PlainOp) → Obeys header (tables f.script) s.entry f.place op s.shape
    → ActsSafely header scripts tables (act header op f)
unfolding rule act
acts_safely L header scripts tables code f s meets runs (ops.Action number count) o = engine_acts L header scripts tables f s number count o.after runs o.has_rule o.leads
acts_safely L header scripts tables code f s meets runs (ops.Jsr offset) o = call_acts header scripts tables code f s offset meets o
acts_safely L header scripts tables code f s meets runs ops.Retn o = return_acts header scripts tables f s s.entry f.calls s.callers o
acts_safely L header scripts tables code f s meets runs ops.SaveBp o = save_acts header scripts tables f s o.after o.has_rule o.leads
acts_safely L header scripts tables code f s meets runs ops.RestoreBp o = restore_acts header scripts tables f s o.after o.has_rule o.leads
acts_safely L header scripts tables code f s meets runs (ops.StoreState globals locals) o = store_acts L header scripts tables f s globals locals o.after o.has_rule o.leads o.further
acts_safely L header scripts tables code f s meets runs op o = plain_acts L header scripts tables op f s o.after o.has_rule o.leads
