-- What calls take, and what STORE_STATE captures.
use Rattle.std.proofs.Common.{arith, ◌≡◌, ◌≤◌, ℕ, suc, List, [], ◌∷◌, length, take, drop, slice_get, Some, None, Bool, true, false, sym, subst, ◌∙◌, ap, refl, add-one}
use Rattle.std.specs.Prelude.{◌==◌, ◌&&◌, nat_le, if◌then◌else◌}
use Rattle.std.specs.Option.{option_map}
use Rattle.std.proofs.lemmas.Bool.Decides.{nat_tests}
use Rattle.nwq_value.specs.declared.value.Ty.{Ty}
use Rattle.nwq_value.specs.declared.value.Value.{Value}
use Rattle.nwq_value.specs.declared.engine.Param.{Param}
use Rattle.nwq_value.specs.declared.engine.Routine.{Routine}
use Rattle.nwq_value.specs.Values.{type_of}
use Rattle.nwq_value.specs.Roles.{ty_eq}
use Rattle.saved_state.specs.declared.cell.Cell.{Cell}
use Rattle.saved_state.specs.declared.cell.Cell.TheVariants.{Value as Holds}
use Rattle.saved_state.specs.declared.saved.Saved.{Saved}
use Rattle.stack_shape.specs.declared.effect.StackEffect.{StackEffect}
use Rattle.stack_shape.specs.StackEffects.{exchange}
use Rattle.stack_shape.specs.Calls.{is_action, is_callable, action_count, argument_types, result_types, fits_call, call_effect}
use Rattle.machine_rules.specs.Cells.{value_types}
use Rattle.machine_rules.specs.Calls.{Taken, with_value, with_action, taken, arguments}
use Rattle.machine_rules.specs.Outlines.{outlines, slots}
use Rattle.machine_rules.specs.Laws.{TakesArguments, CallsAreFollowed}
use Rattle.machine_rules.proofs.FollowLemmas.{AreValues, on_both, on_top, head_is, exchanged, ty_self}

-- what is taken for these parameters
record Takes (ps : List Param) (cells : List Cell) (pending : List Saved) : Type 0 where
  all : Taken
  is : taken ps cells pending ≡ Some all
  values : value_types all.values ≡ argument_types ps
  action : all.action ≡ slice_get (take (action_count ps) pending) 0
  pending_left : all.pending ≡ drop (action_count ps) pending
  cells_left : outlines all.cells ≡ drop (length (argument_types ps)) (outlines cells)

-- ---- one parameter

value_types_are : (p : Param) (ps : List Param) → is_action p.ty ≡ false → argument_types (p ∷ ps) ≡ p.ty ∷ argument_types ps
value_types_are p ps e = rw e

value_count : (p : Param) (ps : List Param) → is_action p.ty ≡ false → action_count (p ∷ ps) ≡ action_count ps
value_count p ps e = rw e

action_types_are : (p : Param) (ps : List Param) → is_action p.ty ≡ true → argument_types (p ∷ ps) ≡ argument_types ps
action_types_are p ps e = rw e

action_count_is : (p : Param) (ps : List Param) → is_action p.ty ≡ true → action_count (p ∷ ps) ≡ suc (action_count ps)
action_count_is p ps e = rw e (add-one (action_count ps))

-- a value of the parameter's type is on top
takes_value : (p : Param) (ps : List Param) (v : Value) (cells : List Cell) (pending : List Saved) → is_action p.ty ≡ false → ty_eq (type_of v) p.ty ≡ true
    → type_of v ≡ p.ty → Takes ps cells pending → Takes (p ∷ ps) (Holds v ∷ cells) pending
takes_value p ps v cells pending plain test type t = record {
  all = with_value v t.all;
  is = rw (plain, test) (ap (option_map (with_value v)) t.is);
  values = ap (λ (ts : List Ty). type_of v ∷ ts) t.values ∙ ap (λ (u : Ty). u ∷ argument_types ps) type ∙ sym (value_types_are p ps plain);
  action = t.action ∙ ap (λ (n : ℕ). slice_get (take n pending) 0) (sym (value_count p ps plain));
  pending_left = t.pending_left ∙ ap (λ (n : ℕ). drop n pending) (sym (value_count p ps plain));
  cells_left = t.cells_left ∙ ap (λ (ts : List Ty). drop (length ts) (outlines (Holds v ∷ cells))) (sym (value_types_are p ps plain));
}

-- a state is pending
takes_action : (p : Param) (ps : List Param) (saved : Saved) (cells : List Cell) (pending : List Saved) → is_action p.ty ≡ true
    → Takes ps cells pending → Takes (p ∷ ps) cells (saved ∷ pending)
takes_action p ps saved cells pending action t = record {
  all = with_action saved t.all;
  is = rw action (ap (option_map (with_action saved)) t.is);
  values = t.values ∙ sym (action_types_are p ps action);
  action = ap (λ (n : ℕ). slice_get (take n (saved ∷ pending)) 0) (sym (action_count_is p ps action));
  pending_left = t.pending_left ∙ ap (λ (n : ℕ). drop n (saved ∷ pending)) (sym (action_count_is p ps action));
  cells_left = t.cells_left ∙ ap (λ (ts : List Ty). drop (length ts) (outlines cells)) (sym (action_types_are p ps action));
}

-- ---- all parameters

-- what these parameters ask of the cells and the pending states
record Asked (ps : List Param) (cells : List Cell) (pending : List Saved) : Type 0 where
  types : AreValues (length (argument_types ps)) cells (argument_types ps)
  states : action_count ps ≤ length pending

first_value : (p : Param) (ps : List Param) (cells : List Cell) (pending : List Saved) → is_action p.ty ≡ false
    → ((cells : List Cell) → Asked ps cells pending → Takes ps cells pending) → AreValues (suc (length (argument_types ps))) cells (p.ty ∷ argument_types ps)
    → action_count ps ≤ length pending → Takes (p ∷ ps) cells pending
first_value p ps cells pending plain others a fits =
    let t = on_top (length (argument_types ps)) cells a.values a.are in
    let h = head_is (type_of t.value) p.ty (value_types t.others) (argument_types ps) (ap value_types (sym t.values_are) ∙ a.types_are) in
    let rest : Asked ps t.rest pending = record { types = record { values = t.others; are = t.rest_are; types_are = h.1 }; states = fits } in
    subst (λ (c : List Cell). Takes (p ∷ ps) c pending) (sym t.cells_are)
    (takes_value p ps t.value t.rest pending plain (ap (ty_eq (type_of t.value)) (sym h.0) ∙ ty_self (type_of t.value)) h.0 (others t.rest rest))

first_state : (p : Param) (ps : List Param) (cells : List Cell) (pending : List Saved) → is_action p.ty ≡ true
    → ((pending : List Saved) → Asked ps cells pending → Takes ps cells pending) → AreValues (length (argument_types ps)) cells (argument_types ps)
    → suc (action_count ps) ≤ length pending → Takes (p ∷ ps) cells pending
first_state p ps cells [] action others a fits = absurd (omega (arith, fits))
first_state p ps cells (saved ∷ pending) action others a fits =
    takes_action p ps saved cells pending action (others pending (record { types = a; states = omega (arith, fits) }))

first_taken : (p : Param) (ps : List Param) (cells : List Cell) (pending : List Saved) (b : Bool) → is_action p.ty ≡ b
    → ((cells : List Cell) (pending : List Saved) → Asked ps cells pending → Takes ps cells pending) → Asked (p ∷ ps) cells pending → Takes (p ∷ ps) cells pending
first_taken p ps cells pending true e others a = first_state p ps cells pending e (λ pending. others cells pending)
    (subst (λ (ts : List Ty). AreValues (length ts) cells ts) (action_types_are p ps e) a.types)
    (subst (λ (n : ℕ). n ≤ length pending) (action_count_is p ps e) a.states)
first_taken p ps cells pending false e others a = first_value p ps cells pending e (λ cells. others cells pending)
    (subst (λ (ts : List Ty). AreValues (length ts) cells ts) (value_types_are p ps e) a.types)
    (subst (λ (n : ℕ). n ≤ length pending) (value_count p ps e) a.states)

all_taken : (ps : List Param) (cells : List Cell) (pending : List Saved) → Asked ps cells pending → Takes ps cells pending
all_taken [] cells pending a = record {
  all = record { values = []; action = None; cells = cells; pending = pending };
  is = refl;
  values = refl;
  action = refl;
  pending_left = refl;
  cells_left = refl;
}
all_taken (p ∷ ps) cells pending a = first_taken p ps cells pending (is_action p.ty) refl (all_taken ps) a

le_of : (m n : ℕ) → nat_le m n ≡ true → m ≤ n
le_of m n h = grind (arith, nat_tests)

fitting : (r : Routine) (count : ℕ) (pending : ℕ) → fits_call r count pending ≡ true
    → ((is_callable r && (count == length r.params)) ≡ true) × (action_count r.params ≤ pending)
unfolding fits_call
fitting r count pending h = let b = on_both (is_callable r && (count == length r.params)) (nat_le (action_count r.params) pending) h in (b.0, le_of _ _ b.1)

call_taken : (r : Routine) (count : ℕ) (cells : List Cell) (pending : List Saved) (e : StackEffect) → fits_call r count (length pending) ≡ true
    → exchange (argument_types r.params) (result_types r.result) (slots cells) ≡ Some e → TakesArguments r count cells pending e
call_taken r count cells pending e fits h =
    let x = exchanged (argument_types r.params) (result_types r.result) cells e h in
    let f = fitting r count (length pending) fits in
    let t = all_taken r.params cells pending (record { types = x.values; states = f.1 }) in
    record {
      taken = t.all;
      are = called f.0 t.is;
      values = t.values;
      action = t.action;
      pending_left = t.pending_left;
      cells_left = t.cells_left ∙ ap (λ (e : StackEffect). drop e.pops (outlines cells)) x.effect;
      pushes = sym (ap (λ (e : StackEffect). e.pushes) x.effect);
    }
  where
    called : {all : Taken} → (is_callable r && (count == length r.params)) ≡ true → taken r.params cells pending ≡ Some all → arguments r count cells pending ≡ Some all
    called fits is = rw fits is

calls_by : (r : Routine) (count : ℕ) (cells : List Cell) (pending : List Saved) (e : StackEffect) (b : Bool) → fits_call r count (length pending) ≡ b
    → (if b then exchange (argument_types r.params) (result_types r.result) (slots cells) else None) ≡ Some e → TakesArguments r count cells pending e
calls_by r count cells pending e true fits h = call_taken r count cells pending e fits h
calls_by r count cells pending e false fits h = absurd cc

pub calls_are_followed : CallsAreFollowed
unfolding call_effect
calls_are_followed r count cells pending e h = calls_by r count cells pending e (fits_call r count (length pending)) refl h
