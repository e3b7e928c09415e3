-- What calls take.
use Rattle.std.proofs.Common.{arith, ◌≡◌, ◌≢◌, ◌≤◌, ◌+◌, ℕ, List, [], ◌∷◌, ◌++◌, length, drop, Option, Some, None, Bool, true, false, sym, ap, ◌∙◌, refl, subst, append_assoc}
use Rattle.std.specs.Prelude.{slice_get, ◌&&◌, ◌==◌, if◌then◌else◌}
use Rattle.std.specs.Option.{option_map}
use Rattle.std.proofs.lemmas.List.{append-nil}
use Rattle.nwq_value.specs.declared.value.Value.{Value}
use Rattle.nwq_value.specs.declared.engine.Param.{Param}
use Rattle.nwq_value.specs.declared.engine.Routine.{Routine}
use Rattle.nwq_value.specs.Values.{type_of}
use Rattle.nwq_value.specs.Roles.{ty_eq}
use Rattle.saved_state.specs.declared.cell.Cell.{Cell}
use Rattle.saved_state.specs.declared.cell.Cell.TheVariants.{Value as Holds, Base}
use Rattle.saved_state.specs.declared.saved.Saved.{Saved}
use Rattle.stack_shape.specs.Calls.{is_action, is_callable}
use Rattle.machine_rules.specs.Frames.{Frame}
use Rattle.machine_rules.specs.Calls.{Taken, with_value, with_action, value_taken, action_taken, taken, arguments}
use Rattle.machine_frames.specs.declared.arguments.Arguments.{Arguments}
use Rattle.machine_frames.specs.Tops.{HasValue}
use Rattle.machine_frames.specs.Takes.{AreTaken, IsCall, first_of, top_values, without_value}
use Rattle.machine_frames.proofs.FrameLemmas.{pushed_last}

value_inside : (cells : List Cell) → HasValue 0 cells → 1 ≤ length cells
value_inside [] h = let e = h.is in absurd cc
value_inside (c ∷ cells) h = omega arith

pub value_inside_of : (cells : List Cell) → HasValue 0 cells → 1 ≤ length cells
value_inside_of cells h = value_inside cells h

-- the value that is copied is the one on top
pub top_is : (cells : List Cell) (v : Value) → slice_get cells 0 ≡ Some (Holds v) → top_values cells ≡ v ∷ []
top_is [] v h = absurd cc
top_is (c ∷ cells) v h = ap (λ (c : Cell). top_values (c ∷ cells)) (same h)
  where
    same : slice_get (c ∷ cells) 0 ≡ Some (Holds v) → c ≡ Holds v
    same h = cc

pub ruleset value_lemmas = (value_inside_of, top_is)

pub first_none : (o : Option Saved) → first_of o None ≡ o
first_none None = refl
first_none (Some saved) = refl

pub ruleset action_lemmas = (pushed_last, first_none)

-- ---- no parameters

pub none_taken : (f : Frame) (a : Arguments) → AreTaken [] f f a a
none_taken f a = record {
  all = record { values = []; action = None; cells = f.stack.cells; pending = f.pending };
  is = refl;
  frame = refl;
  values = sym (append-nil a.values);
  action = sym (first_none a.action);
}

-- ---- a value

record TakesValue (p : Param) (ps : List Param) (cells : List Cell) (pending : List Saved) : Type 0 where
  value : Value
  rest : List Cell
  are : cells ≡ Holds value ∷ rest
  whole : taken (p ∷ ps) cells pending ≡ option_map (with_value value) (taken ps rest pending)

value_test : (p : Param) (v : Value) (o : Option Taken) → (if ty_eq (type_of v) p.ty then option_map (with_value v) o else None) ≢ None → ty_eq (type_of v) p.ty ≡ true
value_test p v o h = on (ty_eq (type_of v) p.ty) refl
  where
    on : (b : Bool) → ty_eq (type_of v) p.ty ≡ b → ty_eq (type_of v) p.ty ≡ true
    on true e = e
    on false e = absurd (h (ap (λ (b : Bool). if b then option_map (with_value v) o else None) e))

taken_plain : (p : Param) (ps : List Param) (cells : List Cell) (pending : List Saved) → is_action p.ty ≡ false
    → taken (p ∷ ps) cells pending ≡ value_taken p.ty cells (λ rest. taken ps rest pending)
taken_plain p ps cells pending e = ap (λ (b : Bool). if b then action_taken pending (λ rest. taken ps cells rest) else value_taken p.ty cells (λ rest. taken ps rest pending)) e

takes_value_of : (p : Param) (ps : List Param) (cells : List Cell) (pending : List Saved) → is_action p.ty ≡ false
    → value_taken p.ty cells (λ rest. taken ps rest pending) ≢ None → TakesValue p ps cells pending
takes_value_of p ps [] pending e h = absurd (h refl)
takes_value_of p ps (Base bp ∷ cells) pending e h = absurd (h refl)
takes_value_of p ps (Holds v ∷ cells) pending e h = record {
  value = v;
  rest = cells;
  are = refl;
  whole = taken_plain p ps (Holds v ∷ cells) pending e ∙ ap (λ (b : Bool). if b then option_map (with_value v) (taken ps cells pending) else None) (value_test p v (taken ps cells pending) h);
}

takes_value : (p : Param) (ps : List Param) (cells : List Cell) (pending : List Saved) → is_action p.ty ≡ false → taken (p ∷ ps) cells pending ≢ None → TakesValue p ps cells pending
takes_value p ps cells pending e h = takes_value_of p ps cells pending e (λ none. h (taken_plain p ps cells pending e ∙ none))

some_map : {A B : Type 0} (f : A → B) (o : Option A) → option_map f o ≢ None → o ≢ None
some_map f None h = absurd (h refl)
some_map f (Some a) h = λ e. absurd cc

pub value_has : (p : Param) (ps : List Param) (cells : List Cell) (pending : List Saved) → is_action p.ty ≡ false → taken (p ∷ ps) cells pending ≢ None → HasValue 0 cells
value_has p ps cells pending e h = let t = takes_value p ps cells pending e h in record { value = t.value; is = ap (λ cells. slice_get cells 0) t.are }

pub value_case : (p : Param) (ps : List Param) (cells : List Cell) (pending : List Saved) → is_action p.ty ≡ false → taken (p ∷ ps) cells pending ≢ None
    → taken ps (drop 1 cells) pending ≢ None
value_case p ps cells pending e h =
    let t = takes_value p ps cells pending e h in
    subst (λ cells. taken ps cells pending ≢ None) (sym (ap (drop 1) t.are)) (some_map (with_value t.value) (taken ps t.rest pending) (λ none. h (t.whole ∙ none)))

pub value_more : (p : Param) (ps : List Param) (before middle after : Frame) (had has got : Arguments) → is_action p.ty ≡ false → taken (p ∷ ps) before.stack.cells before.pending ≢ None
    → middle ≡ without_value before → has ≡ record had { values = had.values ++ top_values before.stack.cells }
    → AreTaken ps middle after has got → AreTaken (p ∷ ps) before after had got
value_more p ps before middle after had has got e h m values a =
    let t = takes_value p ps before.stack.cells before.pending e h in
    let v = values ∙ ap (λ cells. record had { values = had.values ++ top_values cells }) t.are in
    let rest : drop 1 before.stack.cells ≡ t.rest = ap (drop 1) t.are in
    record {
      all = with_value t.value a.all;
      is = t.whole ∙ ap (option_map (with_value t.value)) (ap (λ cells. taken ps cells before.pending) (sym rest) ∙ sym (ap (λ (f : Frame). taken ps f.stack.cells f.pending) m) ∙ a.is);
      frame = a.frame ∙ ap (λ (f : Frame). record f { stack = record f.stack { cells = a.all.cells }; pending = a.all.pending }) m;
      values = a.values ∙ ap (λ (x : Arguments). x.values ++ a.all.values) v ∙ append_assoc had.values (t.value ∷ []) a.all.values;
      action = a.action ∙ ap (λ (x : Arguments). first_of x.action a.all.action) v;
    }

-- ---- an action

record TakesAction (p : Param) (ps : List Param) (cells : List Cell) (pending : List Saved) : Type 0 where
  saved : Saved
  rest : List Saved
  are : pending ≡ saved ∷ rest
  whole : taken (p ∷ ps) cells pending ≡ option_map (with_action saved) (taken ps cells rest)

taken_action : (p : Param) (ps : List Param) (cells : List Cell) (pending : List Saved) → is_action p.ty ≡ true
    → taken (p ∷ ps) cells pending ≡ action_taken pending (λ rest. taken ps cells rest)
taken_action p ps cells pending e = ap (λ (b : Bool). if b then action_taken pending (λ rest. taken ps cells rest) else value_taken p.ty cells (λ rest. taken ps rest pending)) e

takes_action_of : (p : Param) (ps : List Param) (cells : List Cell) (pending : List Saved) → is_action p.ty ≡ true
    → action_taken pending (λ rest. taken ps cells rest) ≢ None → TakesAction p ps cells pending
takes_action_of p ps cells [] e h = absurd (h refl)
takes_action_of p ps cells (saved ∷ pending) e h = record { saved = saved; rest = pending; are = refl; whole = taken_action p ps cells (saved ∷ pending) e }

takes_action : (p : Param) (ps : List Param) (cells : List Cell) (pending : List Saved) → is_action p.ty ≡ true → taken (p ∷ ps) cells pending ≢ None → TakesAction p ps cells pending
takes_action p ps cells pending e h = takes_action_of p ps cells pending e (λ none. h (taken_action p ps cells pending e ∙ none))

pub action_case : (p : Param) (ps : List Param) (cells : List Cell) (pending : List Saved) → is_action p.ty ≡ true → taken (p ∷ ps) cells pending ≢ None
    → taken ps cells (drop 1 pending) ≢ None
action_case p ps cells pending e h =
    let t = takes_action p ps cells pending e h in
    subst (λ pending. taken ps cells pending ≢ None) (sym (ap (drop 1) t.are)) (some_map (with_action t.saved) (taken ps cells t.rest) (λ none. h (t.whole ∙ none)))

first_joined : (a : Option Saved) (s : Saved) (b : Option Saved) → first_of (first_of a (Some s)) b ≡ first_of a (Some s)
first_joined None s b = refl
first_joined (Some x) s b = refl

pub action_more : (p : Param) (ps : List Param) (before middle after : Frame) (had has got : Arguments) → is_action p.ty ≡ true → taken (p ∷ ps) before.stack.cells before.pending ≢ None
    → middle ≡ record before { pending = drop 1 before.pending } → has ≡ record had { action = first_of had.action (slice_get before.pending 0) }
    → AreTaken ps middle after has got → AreTaken (p ∷ ps) before after had got
action_more p ps before middle after had has got e h m action a =
    let t = takes_action p ps before.stack.cells before.pending e h in
    let rest : drop 1 before.pending ≡ t.rest = ap (drop 1) t.are in
    let newest : slice_get before.pending 0 ≡ Some t.saved = ap (λ pending. slice_get pending 0) t.are in
    record {
      all = with_action t.saved a.all;
      is = t.whole ∙ ap (option_map (with_action t.saved)) (ap (taken ps before.stack.cells) (sym rest) ∙ sym (ap (λ (f : Frame). taken ps f.stack.cells f.pending) m) ∙ a.is);
      frame = a.frame ∙ ap (λ (f : Frame). record f { stack = record f.stack { cells = a.all.cells }; pending = a.all.pending }) m;
      values = a.values ∙ ap (λ (x : Arguments). x.values ++ a.all.values) action;
      action = a.action ∙ ap (λ (x : Arguments). first_of x.action a.all.action) action
          ∙ ap (λ o. first_of (first_of had.action o) a.all.action) newest ∙ first_joined had.action t.saved a.all.action;
    }

pub ruleset all_lemmas = (none_taken, value_has, value_case, value_more, action_case, action_more)

-- ---- a call

arguments_test : (r : Routine) (count : ℕ) (o : Option Taken) → (if is_callable r && (count == length r.params) then o else None) ≢ None → (is_callable r && (count == length r.params)) ≡ true
arguments_test r count o h = on (is_callable r && (count == length r.params)) refl
  where
    on : (b : Bool) → (is_callable r && (count == length r.params)) ≡ b → (is_callable r && (count == length r.params)) ≡ true
    on true e = e
    on false e = absurd (h (ap (λ (b : Bool). if b then o else None) e))

arguments_are : (r : Routine) (count : ℕ) (cells : List Cell) (pending : List Saved) → arguments r count cells pending ≢ None → arguments r count cells pending ≡ taken r.params cells pending
arguments_are r count cells pending h = ap (λ (b : Bool). if b then taken r.params cells pending else None) (arguments_test r count (taken r.params cells pending) h)

pub arguments_case : (r : Routine) (count : ℕ) (cells : List Cell) (pending : List Saved) → arguments r count cells pending ≢ None → taken r.params cells pending ≢ None
arguments_case r count cells pending h none = h (arguments_are r count cells pending h ∙ none)

pub call_is : (r : Routine) (number count size : ℕ) (before after : Frame) (had has : Arguments) → arguments r count before.stack.cells before.pending ≢ None
    → had ≡ record { values = []; action = None } → AreTaken r.params before after had has → size ≡ 5
    → IsCall r number count before (record after { place = after.place + size }) has
call_is r number count size before after had has h e a s = record {
  all = a.all;
  is = arguments_are r count before.stack.cells before.pending h ∙ a.is;
  frame = ap (λ (f : Frame). record f { place = f.place + size }) a.frame
      ∙ ap (λ (n : ℕ). record before { place = before.place + n; stack = record before.stack { cells = a.all.cells }; pending = a.all.pending }) s;
  values = a.values ∙ ap (λ (x : Arguments). x.values ++ a.all.values) e;
  action = a.action ∙ ap (λ (x : Arguments). first_of x.action a.all.action) e;
}

pub ruleset call_lemmas = (arguments_case, call_is)
