-- Engine calls of the running script.
use Rattle.std.proofs.Common.{◌≡◌, ◌≢◌, ℕ, List, [], ◌∷◌, Option, Some, None, Bool, true, false, sym, subst, ap, ◌∙◌, refl, if◌then◌else◌}
use Rattle.std.specs.Prelude.{Result, Ok, Err, OnErr, OnOk, slice_get, IfSome, ◌&&◌, ◌==◌, length}
use Rattle.std.specs.Option.{option_map, option_and_then}
use Rattle.std.proofs.lemmas.Bool.Decides.{Decides-eqb}
use Rattle.nwq_value.specs.declared.value.Ty.{Ty}
use Rattle.nwq_value.specs.declared.value.Ty.TheVariants.{Void, Int as IntTy, Text as TextTy, Object as ObjectTy, Effect as EffectTy, Event as EventTy, Action, Struct, Refused}
use Rattle.nwq_value.specs.declared.value.Value.{Value}
use Rattle.nwq_value.specs.declared.value.Value.TheVariants.{Text, Object}
use Rattle.nwq_value.specs.Values.{type_of}
use Rattle.nwq_value.specs.Roles.{ty_eq}
use Rattle.nwq_value.specs.declared.engine.Param.{Param}
use Rattle.nwq_value.specs.declared.engine.Routine.{Routine}
use Rattle.nwq_value.specs.Engine.{EngineTable}
use Rattle.saved_state.specs.declared.cell.Cell.{Cell}
use Rattle.saved_state.specs.declared.cell.Cell.TheVariants.{Value as Holds, Base}
use Rattle.saved_state.specs.declared.saved.Saved.{Saved}
use Rattle.stack_shape.specs.Calls.{is_action, is_callable, argument_types}
use Rattle.machine_rules.specs.Frames.{Frame}
use Rattle.machine_rules.specs.Cells.{value_types}
use Rattle.machine_rules.specs.Calls.{Taken, with_value, with_action, value_taken, action_taken, taken, arguments, is_execute_script}
use Rattle.machine_rules.specs.Act.{Act, Asks, Executes, asked, engine_called}
use Rattle.machine_rules.specs.Act as acts
use Rattle.machine_rules.specs.Machine.{Script, Host, State, Goes, answered, with_answer, script_begun, executed, followed, script_named}
use Rattle.machine_frames.specs.declared.arguments.Arguments.{Arguments}
use Rattle.machine_frames.specs.Takes.{IsCall}
use Rattle.world_rules.specs.World.{World}
use Rattle.world_rules.specs.Rows.{Answered as EngineAnswer}
use Rattle.ncs_machine.specs.Host.{EngineView, answer_of, engine_answer, host}
use Rattle.ncs_machine.specs.Names.{AreNameAndTarget}
use Rattle.ncs_machine.specs.Steps.{Frames, FitArguments, IsHalfway, Called, Untouched, state, world_behind}

-- ---- a name and a target

pub name_first : (values : List Value) (v : Value) → AreNameAndTarget values → slice_get values 0 ≡ Some v → (t : List ℕ) × (v ≡ Text t)
name_first values v b h = (b.name, let e = ap (λ vs. slice_get vs 0) b.are in cc)

pub name_there : (values : List Value) → AreNameAndTarget values → slice_get values 0 ≢ None
name_there values b h = let e = ap (λ vs. slice_get vs 0) b.are in absurd cc

pub ruleset name_lemmas = (name_first, name_there)

pub target_second : (values : List Value) (v : Value) → AreNameAndTarget values → slice_get values 1 ≡ Some v → (o : ℕ) × (v ≡ Object o)
target_second values v b h = (b.target, let e = ap (λ vs. slice_get vs 1) b.are in cc)

pub target_there : (values : List Value) → AreNameAndTarget values → slice_get values 1 ≢ None
target_there values b h = let e = ap (λ vs. slice_get vs 1) b.are in absurd cc

pub ruleset target_lemmas = (target_second, target_there)

pub name_is : (values : List Value) (name : List ℕ) (target : ℕ) (t : List ℕ) → values ≡ Text name ∷ Object target ∷ [] → slice_get values 0 ≡ Some (Text t) → t ≡ name
name_is values name target t are h = let e = ap (λ vs. slice_get vs 0) are in cc

pub target_is : (values : List Value) (name : List ℕ) (target o : ℕ) → values ≡ Text name ∷ Object target ∷ [] → slice_get values 1 ≡ Some (Object o) → o ≡ target
target_is values name target o are h = let e = ap (λ vs. slice_get vs 1) are in cc

pub ruleset execute_lemmas = (name_is, target_is)

-- ---- what is taken has the parameters' types

ty_is : (t u : Ty) → ty_eq t u ≡ true → t ≡ u
unfolding ty_eq
ty_is Void Void h = refl
ty_is IntTy IntTy h = refl
ty_is TextTy TextTy h = refl
ty_is ObjectTy ObjectTy h = refl
ty_is EffectTy EffectTy h = refl
ty_is EventTy EventTy h = refl
ty_is Action Action h = refl
ty_is (Struct m) (Struct n) h = ap Struct ((Decides-eqb m n).0 h)
ty_is Refused Refused h = refl
ty_is t u h = absurd cc

map_is : {A B : Type 0} (f : A → B) (o : Option A) (b : B) → option_map f o ≡ Some b → (a : A) × (o ≡ Some a) × (f a ≡ b)
map_is f None b h = absurd cc
map_is f (Some a) b h = (a, refl, cc)

then_is : {A B : Type 0} (f : A → Option B) (o : Option A) (b : B) → option_and_then f o ≡ Some b → (a : A) × (o ≡ Some a) × (f a ≡ Some b)
then_is f None b h = absurd cc
then_is f (Some a) b h = (a, refl, h)

if_is : {A : Type 0} (b : Bool) (x : Option A) (y : A) → (if b then x else None) ≡ Some y → (b ≡ true) × (x ≡ Some y)
if_is true x y h = (refl, h)
if_is false x y h = absurd cc

-- what holds of the parameters behind the first one
abbrev Typed : List Param → Type 0
Typed ps = (cells : List Cell) (pending : List Saved) (t : Taken) → taken ps cells pending ≡ Some t → value_types t.values ≡ argument_types ps

value_first : (p : Param) (ps : List Param) → Typed ps → is_action p.ty ≡ false → (cells : List Cell) (pending : List Saved) (t : Taken)
    → value_taken p.ty cells (λ rest. taken ps rest pending) ≡ Some t → value_types t.values ≡ argument_types (p ∷ ps)
value_first p ps more plain [] pending t h = absurd cc
value_first p ps more plain (Base bp ∷ cells) pending t h = absurd cc
value_first p ps more plain (Holds v ∷ cells) pending t h =
    let i = if_is (ty_eq (type_of v) p.ty) (option_map (with_value v) (taken ps cells pending)) t h in
    let m = map_is (with_value v) (taken ps cells pending) t i.1 in
    sym (ap (λ (t : Taken). value_types t.values) m.2)
    ∙ ap (λ (ts : List Ty). type_of v ∷ ts) (more cells pending m.0 m.1)
    ∙ ap (λ (u : Ty). u ∷ argument_types ps) (ty_is (type_of v) p.ty i.0)
    ∙ sym (ap (λ (b : Bool). if b then argument_types ps else p.ty ∷ argument_types ps) plain)

action_first : (p : Param) (ps : List Param) → Typed ps → is_action p.ty ≡ true → (cells : List Cell) (pending : List Saved) (t : Taken)
    → action_taken pending (λ rest. taken ps cells rest) ≡ Some t → value_types t.values ≡ argument_types (p ∷ ps)
action_first p ps more action cells [] t h = absurd cc
action_first p ps more action cells (saved ∷ pending) t h =
    let m = map_is (with_action saved) (taken ps cells pending) t h in
    sym (ap (λ (t : Taken). value_types t.values) m.2)
    ∙ more cells pending m.0 m.1
    ∙ sym (ap (λ (b : Bool). if b then argument_types ps else p.ty ∷ argument_types ps) action)

first_typed : (p : Param) (ps : List Param) → Typed ps → (b : Bool) → is_action p.ty ≡ b → Typed (p ∷ ps)
first_typed p ps more true e cells pending t h = action_first p ps more e cells pending t
    (sym (ap (λ (b : Bool). if b then action_taken pending (λ rest. taken ps cells rest) else value_taken p.ty cells (λ rest. taken ps rest pending)) e) ∙ h)
first_typed p ps more false e cells pending t h = value_first p ps more e cells pending t
    (sym (ap (λ (b : Bool). if b then action_taken pending (λ rest. taken ps cells rest) else value_taken p.ty cells (λ rest. taken ps rest pending)) e) ∙ h)

typed : (ps : List Param) → Typed ps
typed [] cells pending t h = on cc
  where
    on : record { values = []; action = None; cells = cells; pending = pending } ≡ t → value_types t.values ≡ []
    on e = sym (ap (λ (t : Taken). value_types t.values) e)
typed (p ∷ ps) cells pending t h = first_typed p ps (typed ps) (is_action p.ty) refl cells pending t h

-- ---- calls

pub call_case : (table : EngineTable) (n count : ℕ) (r : Routine) (f : Frame) → slice_get table.routines n ≡ Some r → engine_called table n count f ≢ None
    → arguments r count f.stack.cells f.pending ≢ None
call_case table n count r f listed h none = h
    (ap (option_and_then (λ r. option_and_then (asked n count r f) (arguments r count f.stack.cells f.pending))) listed
    ∙ ap (option_and_then (asked n count r f)) none)

pub call_listed : (table : EngineTable) (n count : ℕ) (f : Frame) → slice_get table.routines n ≡ None → engine_called table n count f ≡ None
call_listed table n count f none = ap (option_and_then (λ r. option_and_then (asked n count r f) (arguments r count f.stack.cells f.pending))) none

same_routine : {o : Option Routine} {r s : Routine} → o ≡ Some r → o ≡ Some s → r ≡ s
same_routine a b = cc

pub call_typed : (e : EngineView) (n count : ℕ) (r : Routine) (before after : Frame) (a : Arguments) → slice_get e.table.routines n ≡ Some r → IsCall r n count before after a
    → FitArguments e n a.values
call_typed e n count r before after a listed call s other =
    let i = if_is (is_callable r && (count == length r.params)) (taken r.params before.stack.cells before.pending) call.all call.is in
    ap value_types call.values ∙ typed r.params before.stack.cells before.pending call.all i.1 ∙ ap (λ (r : Routine). argument_types r.params) (same_routine listed other)

-- what the call comes to
called_as : (table : EngineTable) (n count : ℕ) (r : Routine) (before after : Frame) (a : Arguments) → slice_get table.routines n ≡ Some r → IsCall r n count before after a
    → engine_called table n count before ≡ (if is_execute_script r.role then acts.executed a.values after else Some (Asks n a.values a.action after))
called_as table n count r before after a listed call =
    ap (option_and_then (λ r. option_and_then (asked n count r before) (arguments r count before.stack.cells before.pending))) listed
    ∙ ap (option_and_then (asked n count r before)) call.is
    ∙ ap (λ (f : Frame). if is_execute_script r.role then acts.executed call.all.values f else Some (Asks n call.all.values call.all.action f)) (sym call.frame)
    ∙ ap (λ vs. if is_execute_script r.role then acts.executed vs after else Some (Asks n vs call.all.action after)) (sym call.values)
    ∙ ap (λ o. if is_execute_script r.role then acts.executed a.values after else Some (Asks n a.values o after)) (sym call.action)

pub asks_follow : (scripts : List Script) (e : EngineView) (n count : ℕ) (r : Routine) (m mid now : Frames) (a : Arguments) (w v : World Saved)
    → slice_get e.table.routines n ≡ Some r → is_execute_script r.role ≡ false → IsCall r n count m.running mid.running a → mid ≡ record m { running = mid.running }
    → answered (answer_of (engine_answer e n mid.running.self a.values a.action w)) mid.running (state mid w) ≡ state now v
    → IfSome (engine_called e.table n count m.running) (λ act. followed (host scripts e) (state m w) act ≡ Goes (state now v))
unfolding host
asks_follow scripts e n count r m mid now a w v listed plain call others is =
    subst (λ o. IfSome o (λ act. followed (host scripts e) (state m w) act ≡ Goes (state now v)))
    (sym (called_as e.table n count r m.running mid.running a listed call ∙ ap (λ (b : Bool). if b then acts.executed a.values mid.running else Some (Asks n a.values a.action mid.running)) plain))
    (ap Goes (ap (λ (f : Frames). answered (answer_of (engine_answer e n mid.running.self a.values a.action w)) mid.running (state f w)) (sym others) ∙ is))

-- ---- calls that are cut short

-- what holds anyway, of an answer that may be an error
pub on_err : {A E : Type 0} (r : Result A E) (P : Type 0) → P → OnErr r P
on_err (Ok a) P p = tt
on_err (Err e) P p = p

pub untouched : (before behind v : World Saved) → v ≡ before → IsHalfway before behind v
untouched before behind v is = Untouched is

pub was_asked : (before behind v : World Saved) → v ≡ behind → IsHalfway before behind v
was_asked before behind v is = Called is

pub ruleset ask_lemmas = (untouched, was_asked)

pub ruleset lent_lemmas = (untouched)

-- ---- calls that change nothing

pub lent_none : (a : EngineAnswer Saved) (m : Frames) (w : World Saved) (o : Option Value) → record { value = o; world = w } ≡ a → o ≡ None
    → answered (answer_of a) m.running (state m w) ≡ state m w
lent_none a m w o is none =
    ap (λ (x : EngineAnswer Saved). answered (answer_of x) m.running (state m w)) (sym is)
    ∙ ap (λ (v : Option Value). answered (record { value = v; world = w }) m.running (state m w)) none

pub lent_given : {E : Type 0} (result : Result (Unit {0}) E) (a : EngineAnswer Saved) (m old : Frames) (next : Frame) (w : World Saved) (o : Option Value) (v : Value)
    → record { value = o; world = w } ≡ a → o ≡ Some v → old ≡ m → OnOk result (next ≡ with_answer (Some v) old.running)
    → OnOk result (answered (answer_of a) m.running (state m w) ≡ state (record old { running = next }) w)
lent_given (Ok x) a m old next w o v is some same given =
    ap (λ (x : EngineAnswer Saved). answered (answer_of x) m.running (state m w)) (sym is)
    ∙ ap (λ (v : Option Value). answered (record { value = v; world = w }) m.running (state m w)) some
    ∙ ap (λ (f : Frames). state (record f { running = with_answer (Some v) f.running }) w) (sym same)
    ∙ ap (λ (f : Frame). state (record old { running = f }) w) (sym given)
lent_given (Err e) a m old next w o v is some same given = tt

pub asks_cut : (scripts : List Script) (e : EngineView) (n count : ℕ) (r : Routine) (m mid : Frames) (a : Arguments) (w v : World Saved)
    → slice_get e.table.routines n ≡ Some r → is_execute_script r.role ≡ false → IsCall r n count m.running mid.running a
    → IsHalfway w (engine_answer e n mid.running.self a.values a.action w).world v
    → IsHalfway w (world_behind (option_map (followed (host scripts e) (state m w)) (engine_called e.table n count m.running)) w) v
unfolding host
asks_cut scripts e n count r m mid a w v listed plain call half =
    subst (λ o. IsHalfway w (world_behind (option_map (followed (host scripts e) (state m w)) o) w) v)
    (sym (called_as e.table n count r m.running mid.running a listed call ∙ ap (λ (b : Bool). if b then acts.executed a.values mid.running else Some (Asks n a.values a.action mid.running)) plain))
    half

pub ruleset cut_lemmas = (call_listed, untouched)

-- the arguments of ExecuteScript
executed_some : (values : List Value) (f : Frame) (act : Act) → acts.executed values f ≡ Some act → (b : AreNameAndTarget values) × (acts.executed values f ≡ Some (Executes b.name b.target f))
executed_some (Text name ∷ Object target ∷ []) f act h = (record { name = name; target = target; are = refl }, refl)
executed_some values f act h = absurd cc

is_some : {A : Type 0} (o : Option A) → o ≢ None → (a : A) × (o ≡ Some a)
is_some None h = absurd (h refl)
is_some (Some a) h = (a, refl)

executes_parts : (e : EngineView) (n count : ℕ) (r : Routine) (before after : Frame) (a : Arguments) → slice_get e.table.routines n ≡ Some r → is_execute_script r.role ≡ true
    → engine_called e.table n count before ≢ None → IsCall r n count before after a
    → (b : AreNameAndTarget a.values) × (engine_called e.table n count before ≡ Some (Executes b.name b.target after))
executes_parts e n count r before after a listed other case call =
    let c = called_as e.table n count r before after a listed call ∙ ap (λ (b : Bool). if b then acts.executed a.values after else Some (Asks n a.values a.action after)) other in
    let s = is_some (engine_called e.table n count before) case in
    let x = executed_some a.values after s.0 (sym c ∙ s.1) in
    (x.0, c ∙ x.1)

pub executes_both : (e : EngineView) (n count : ℕ) (r : Routine) (before after : Frame) (a : Arguments) → slice_get e.table.routines n ≡ Some r → is_execute_script r.role ≡ true
    → engine_called e.table n count before ≢ None → IsCall r n count before after a → AreNameAndTarget a.values
executes_both e n count r before after a listed other case call = (executes_parts e n count r before after a listed other case call).0

begun_any : (h : Host (World Saved)) (number : Option ℕ) (name : List ℕ) (target : ℕ) (f : Frame)
    (s : State (World Saved))
    → script_begun h number name target f s ≡ script_begun h number name target f (record s { running = f })
begun_any h None name target f s = refl
begun_any h (Some script) name target f s = refl

-- the frame that runs is put in anyway
executed_any : (h : Host (World Saved)) (name : List ℕ) (target : ℕ) (f : Frame) (s : State (World Saved)) → executed h name target f s ≡ executed h name target f (record s { running = f })
executed_any h [] target f s = refl
executed_any h (b ∷ name) target f s = ap (λ t. if h.may_run f.self target s.world then t else record s { running = f }) (begun_any h (script_named h.scripts (b ∷ name)) (b ∷ name) target f s)

executed_same : (h : Host (World Saved)) (name : List ℕ) (target : ℕ) (f : Frame) (s t : State (World Saved))
    → s.waiting ≡ t.waiting → s.world ≡ t.world → executed h name target f s ≡ executed h name target f t
executed_same h name target f s t a b =
    from (record s { running = f }) (record t { running = f }) name (both a b) (executed_any h name target f s) (executed_any h name target f t)
  where
    both : s.waiting ≡ t.waiting → s.world ≡ t.world → record s { running = f } ≡ record t { running = f }
    both a b = ap (λ (fs : List Frame). record { running = f; waiting = fs; world = s.world }) a ∙ ap (λ (w : World Saved). record { running = f; waiting = t.waiting; world = w }) b

    from : (x y : State (World Saved)) (name : List ℕ) → x ≡ y → executed h name target f s ≡ executed h name target f x → executed h name target f t ≡ executed h name target f y
        → executed h name target f s ≡ executed h name target f t
    from x y name e p q = p ∙ ap (executed h name target f) e ∙ sym q

pub executes_follow : (scripts : List Script) (e : EngineView) (n count : ℕ) (r : Routine) (m mid now : Frames) (a : Arguments) (w v : World Saved)
    → slice_get e.table.routines n ≡ Some r → is_execute_script r.role ≡ true → engine_called e.table n count m.running ≢ None → IsCall r n count m.running mid.running a
    → mid ≡ record m { running = mid.running }
    → ((f : EngineView) (name : List ℕ) (target : ℕ) → a.values ≡ Text name ∷ Object target ∷ [] → executed (host scripts f) name target mid.running (state mid w) ≡ state now v)
    → IfSome (engine_called e.table n count m.running) (λ act. followed (host scripts e) (state m w) act ≡ Goes (state now v))
executes_follow scripts e n count r m mid now a w v listed other case call others is =
    let p = executes_parts e n count r m.running mid.running a listed other case call in
    subst (λ o. IfSome o (λ act. followed (host scripts e) (state m w) act ≡ Goes (state now v))) (sym p.1)
    (ap Goes (executed_same (host scripts e) p.0.name p.0.target mid.running (state m w) (state mid w) (sym (ap (λ (f : Frames). f.waiting) others)) refl ∙ is e p.0.name p.0.target p.0.are))
