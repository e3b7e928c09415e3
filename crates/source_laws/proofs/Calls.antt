-- The code of arguments and of calls does what they mean.
use Rattle.std.proofs.Common.{arith, ◌≡◌, ◌+◌, ℕ, List, [], ◌∷◌, ◌++◌, length, map, reverse, Option, Some, None, Bool, true, false, sym, subst, ◌∙◌, ap, refl, append_assoc}
use Rattle.std.specs.Prelude.{if◌then◌else◌}
use Rattle.std.specs.Option.{option_map}
use Rattle.std.proofs.lemmas.List.{length-map}
use Rattle.nwq_value.specs.declared.value.Ty.{Ty}
use Rattle.nwq_value.specs.declared.value.Ty.TheVariants.{Action}
use Rattle.nwq_value.specs.declared.value.Value.{Value}
use Rattle.nwq_value.specs.declared.engine.Const.{Const}
use Rattle.nwq_value.specs.declared.engine.Const.TheVariants as const
use Rattle.nwq_value.specs.declared.engine.Param.{Param}
use Rattle.nwq_value.specs.Engine.{const_type}
use Rattle.nwq_value.specs.Values.{type_of as type_of_value}
use Rattle.nwq_value.specs.Roles.{ty_eq}
use Rattle.typing_rules.specs.Typed.{TypedExpr, TypedExprs, no_typed, more_typed, type_of}
use Rattle.typing_rules.specs.Cells.{Structs, cell_types, is_captured}
use Rattle.saved_state.specs.declared.cell.Cell.{Cell}
use Rattle.saved_state.specs.declared.cell.Cell.TheVariants.{Value as Holds}
use Rattle.saved_state.specs.declared.saved.Saved.{Saved}
use Rattle.stack_shape.specs.Calls.{is_action, action_count, argument_types as parameter_types}
use Rattle.emission_rules.specs.Expressions.{count_arguments}
use Rattle.machine_rules.specs.Cells.{value_types}
use Rattle.machine_rules.specs.Calls.{Taken, with_value, with_action, value_taken, action_taken, taken}
use Rattle.source_meaning.specs.Expressions.{all_parts}
use Rattle.source_laws.specs.Kept.{pushed, AreHeld}
use Rattle.source_laws.specs.Fine.{argument_type, argument_types, AreSingle, IsSingle}
use Rattle.source_laws.specs.Calling.{pushed_all, all_types, with_types, types_before, constant_types, one_if, actions_in}
use Rattle.source_laws.proofs.Cells.{held_pushed}
use Rattle.source_laws.specs.RangeLemmas.{ty_same}

-- ---- what the machine takes

-- a value of one part, on top
one_value : (t : Ty) (v : List Value) → value_types v ≡ t ∷ [] → (w : Value) × (v ≡ w ∷ []) × (type_of_value w ≡ t)
one_value t (w ∷ []) h = (w, refl, cc)
one_value t [] h = absurd cc
one_value t (a ∷ b ∷ v) h = absurd cc

-- the types that values of parameters have
abbrev pub single_types : List Ty → List (List Ty)
single_types ts = map (λ t. t ∷ []) ts

taken_value : (t : Ty) (v : List Value) (cells : List Cell) (go : List Cell → Option Taken) (result : Taken) → value_types v ≡ t ∷ [] → go cells ≡ Some result
    → value_taken t (pushed v cells) go ≡ Some (record result { values = v ++ result.values })
taken_value t v cells go result h k =
    let w = one_value t v h in
    subst (λ u. value_taken t (pushed u cells) go ≡ Some (record result { values = u ++ result.values })) (sym w.1)
    (ap (λ (b : Bool). if b then option_map (with_value w.0) (go cells) else None) (ap (λ s. ty_eq s t) w.2 ∙ ty_same t) ∙ ap (option_map (with_value w.0)) k)

taken_case : (b : Bool) (p : Param) (ps : List Param) (v : List Value) (vs : List (List Value)) (cells : List Cell) (pending : List Saved) → is_action p.ty ≡ b
    → (if b then action_count ps + 1 else action_count ps) ≡ 0
    → all_types (v ∷ vs) ≡ single_types (if b then parameter_types ps else p.ty ∷ parameter_types ps)
    → (action_count ps ≡ 0 → all_types vs ≡ single_types (parameter_types ps)
    → taken ps (pushed_all vs cells) pending
    ≡ Some (record { values = all_parts vs; action = None; cells = cells; pending = pending }))
    → (if b then action_taken pending (λ rest. taken ps (pushed v (pushed_all vs cells)) rest) else value_taken p.ty (pushed v (pushed_all vs cells)) (λ rest. taken ps rest pending))
    ≡ Some (record { values = v ++ all_parts vs; action = None; cells = cells; pending = pending })
taken_case true p ps v vs cells pending is none types next = absurd (omega arith)
taken_case false p ps v vs cells pending is none types next =
    let first : value_types v ≡ p.ty ∷ [] = cc in
    let rest : all_types vs ≡ single_types (parameter_types ps) = cc in
    taken_value p.ty v (pushed_all vs cells) (λ r. taken ps r pending) (record { values = all_parts vs; action = None; cells = cells; pending = pending }) first (next none rest)

-- where no parameter is an action
pub taken_values : (ps : List Param) (vs : List (List Value)) (cells : List Cell) (pending : List Saved) → action_count ps ≡ 0 → all_types vs ≡ single_types (parameter_types ps)
    → taken ps (pushed_all vs cells) pending ≡ Some (record { values = all_parts vs; action = None; cells = cells; pending = pending })
taken_values [] [] cells pending none types = refl
taken_values [] (v ∷ vs) cells pending none types = absurd cc
taken_values (p ∷ ps) [] cells pending none types = absurd (no_value p ps (is_action p.ty) none types)
  where
    no_value : (p : Param) (ps : List Param) (b : Bool) → (if b then action_count ps + 1 else action_count ps) ≡ 0
        → all_types [] ≡ single_types (if b then parameter_types ps else p.ty ∷ parameter_types ps) → ⊥
    no_value p ps true none types = omega arith
    no_value p ps false none types = absurd cc
taken_values (p ∷ ps) (v ∷ vs) cells pending none types = taken_case (is_action p.ty) p ps v vs cells pending refl none types (λ n t. taken_values ps vs cells pending n t)

-- where one is
one_case : (b : Bool) (p : Param) (ps : List Param) (vs : List (List Value)) (cells : List Cell) (saved : Saved) (pending : List Saved)
    → (if b then action_count ps + 1 else action_count ps) ≡ 1
    → all_types vs ≡ single_types (if b then parameter_types ps else p.ty ∷ parameter_types ps)
    → ((us : List (List Value)) → action_count ps ≡ 1 → all_types us ≡ single_types (parameter_types ps)
    → taken ps (pushed_all us cells) (saved ∷ pending) ≡ Some (record { values = all_parts us; action = Some saved; cells = cells; pending = pending }))
    → (if b then action_taken (saved ∷ pending) (λ rest. taken ps (pushed_all vs cells) rest) else value_taken p.ty (pushed_all vs cells) (λ rest. taken ps rest (saved ∷ pending)))
    ≡ Some (record { values = all_parts vs; action = Some saved; cells = cells; pending = pending })
one_case true p ps vs cells saved pending one types next =
    let none : action_count ps ≡ 0 = omega arith in
    ap (option_map (with_action saved)) (taken_values ps vs cells pending none types)
one_case false p ps [] cells saved pending one types next = absurd cc
one_case false p ps (v ∷ vs) cells saved pending one types next =
    let first : value_types v ≡ p.ty ∷ [] = cc in
    let rest : all_types vs ≡ single_types (parameter_types ps) = cc in
    taken_value p.ty v (pushed_all vs cells) (λ r. taken ps r (saved ∷ pending)) (record { values = all_parts vs; action = Some saved; cells = cells; pending = pending }) first (next vs one rest)

pub taken_one : (ps : List Param) (vs : List (List Value)) (cells : List Cell) (saved : Saved) (pending : List Saved) → action_count ps ≡ 1 → all_types vs ≡ single_types (parameter_types ps)
    → taken ps (pushed_all vs cells) (saved ∷ pending) ≡ Some (record { values = all_parts vs; action = Some saved; cells = cells; pending = pending })
taken_one [] vs cells saved pending one types = absurd (omega arith)
taken_one (p ∷ ps) vs cells saved pending one types = one_case (is_action p.ty) p ps vs cells saved pending one types (λ us o t. taken_one ps us cells saved pending o t)

-- ---- arguments and parameters

parameter_case : (structs : Structs) (b : Bool) (e : TypedExpr) (p : Param) (ps : List Param) (rest : List (List Ty)) → is_captured e ≡ b
    → (b ≡ false → is_action (type_of e) ≡ false) → (if b then Action else type_of e) ≡ p.ty → IsSingle structs p.ty → rest ≡ single_types (parameter_types ps)
    → with_types b (cell_types structs (type_of e)) rest ≡ single_types (if is_action p.ty then parameter_types ps else p.ty ∷ parameter_types ps)
parameter_case structs true e p ps rest is value same single next =
    next ∙ ap (λ t. single_types (if is_action t then parameter_types ps else p.ty ∷ parameter_types ps)) same
parameter_case structs false e p ps rest is value same single next =
    let plain : is_action p.ty ≡ false = ap is_action (sym same) ∙ value refl in
    ap (λ ts. ts ∷ rest) (ap (cell_types structs) same ∙ single) ∙ ap (λ r. (p.ty ∷ []) ∷ r) next
    ∙ sym (ap (λ (b : Bool). single_types (if b then parameter_types ps else p.ty ∷ parameter_types ps)) plain)

-- arguments are values, or actions where the parameter is one
abbrev pub ValuesAreValues : TypedExprs → Type 0
ValuesAreValues no_typed = Unit {0}
ValuesAreValues (more_typed e es) = (is_captured e ≡ false → is_action (type_of e) ≡ false) × ValuesAreValues es

constants_fit : (structs : Structs) (ks : List Const) (ps : List Param)
    → map const_type ks ≡ map (λ (p : Param). p.ty) ps → AreSingle structs ps
    → constant_types ks ≡ single_types (parameter_types ps)
constants_fit structs [] [] same single = refl
constants_fit structs [] (p ∷ ps) same single = absurd cc
constants_fit structs (k ∷ ks) [] same single = absurd cc
constants_fit structs (k ∷ ks) (p ∷ ps) same single =
    let first : const_type k ≡ p.ty = cc in
    let rest : map const_type ks ≡ map (λ (p : Param). p.ty) ps = cc in
    let plain : is_action p.ty ≡ false = ap is_action (sym first) ∙ constant_value_type k in
    ap (λ t. (t ∷ []) ∷ constant_types ks) first ∙ ap (λ r. (p.ty ∷ []) ∷ r) (constants_fit structs ks ps rest single.1)
    ∙ sym (ap (λ (b : Bool). single_types (if b then parameter_types ps else p.ty ∷ parameter_types ps)) plain)
  where
    constant_value_type : (k : Const) → is_action (const_type k) ≡ false
    constant_value_type (const.Int n) = refl
    constant_value_type (const.Text bytes) = refl
    constant_value_type const.SelfObject = refl
    constant_value_type const.InvalidObject = refl

pub arguments_fit : (structs : Structs) (es : TypedExprs) (ks : List Const) (ps : List Param) → argument_types es ks ≡ map (λ (p : Param). p.ty) ps → AreSingle structs ps → ValuesAreValues es
    → types_before structs es (constant_types ks) ≡ single_types (parameter_types ps)
arguments_fit structs no_typed ks ps same single values = constants_fit structs ks ps same single
arguments_fit structs (more_typed e es) ks [] same single values = absurd cc
arguments_fit structs (more_typed e es) ks (p ∷ ps) same single values =
    let first : argument_type e ≡ p.ty = cc in
    let rest : argument_types es ks ≡ map (λ (p : Param). p.ty) ps = cc in
    parameter_case structs (is_captured e) e p ps (types_before structs es (constant_types ks)) refl values.0 first single.0 (arguments_fit structs es ks ps rest single.1 values.1)

count_case : (b : Bool) (e : TypedExpr) (p : Param) (ps : List Param) (n : ℕ) → (b ≡ false → is_action (type_of e) ≡ false) → (if b then Action else type_of e) ≡ p.ty → n ≡ action_count ps
    → one_if b + n ≡ (if is_action p.ty then action_count ps + 1 else action_count ps)
count_case true e p ps n value same next = one_more n ∙ ap (λ k. k + 1) next ∙ ap (λ t. if is_action t then action_count ps + 1 else action_count ps) same
  where
    one_more : (n : ℕ) → 1 + n ≡ n + 1
    one_more n = omega arith
count_case false e p ps n value same next =
    let plain : is_action p.ty ≡ false = ap is_action (sym same) ∙ value refl in
    none_more n ∙ next ∙ sym (ap (λ (b : Bool). if b then action_count ps + 1 else action_count ps) plain)
  where
    none_more : (n : ℕ) → 0 + n ≡ n
    none_more n = omega arith

constants_none : (ks : List Const) (ps : List Param) → map const_type ks ≡ map (λ (p : Param). p.ty) ps → action_count ps ≡ 0
constants_none [] [] same = refl
constants_none [] (p ∷ ps) same = absurd cc
constants_none (k ∷ ks) [] same = absurd cc
constants_none (k ∷ ks) (p ∷ ps) same =
    let first : const_type k ≡ p.ty = cc in
    let rest : map const_type ks ≡ map (λ (p : Param). p.ty) ps = cc in
    let plain : is_action p.ty ≡ false = ap is_action (sym first) ∙ constant_value_type k in
    ap (λ (b : Bool). if b then action_count ps + 1 else action_count ps) plain ∙ constants_none ks ps rest
  where
    constant_value_type : (k : Const) → is_action (const_type k) ≡ false
    constant_value_type (const.Int n) = refl
    constant_value_type (const.Text bytes) = refl
    constant_value_type const.SelfObject = refl
    constant_value_type const.InvalidObject = refl

pub actions_fit : (es : TypedExprs) (ks : List Const) (ps : List Param) → argument_types es ks ≡ map (λ (p : Param). p.ty) ps → ValuesAreValues es → actions_in es ≡ action_count ps
actions_fit no_typed ks ps same values = sym (constants_none ks ps same)
actions_fit (more_typed e es) ks [] same values = absurd cc
actions_fit (more_typed e es) ks (p ∷ ps) same values =
    let first : argument_type e ≡ p.ty = cc in
    let rest : argument_types es ks ≡ map (λ (p : Param). p.ty) ps = cc in
    count_case (is_captured e) e p ps (actions_in es) values.0 first (actions_fit es ks ps rest values.1)

pub count_fits : (es : TypedExprs) (ks : List Const) (ps : List Param) → argument_types es ks ≡ map (λ (p : Param). p.ty) ps → count_arguments es + length ks ≡ length ps
count_fits no_typed ks ps same = let a = ap length same in let b = length-map ks const_type in let c = length-map ps (λ (p : Param). p.ty) in omega (arith, a, b, c)
count_fits (more_typed e es) ks [] same = absurd cc
count_fits (more_typed e es) ks (p ∷ ps) same =
    let rest : argument_types es ks ≡ map (λ (p : Param). p.ty) ps = cc in
    let n = count_fits es ks ps rest in
    omega (arith, n)

-- ---- cells of arguments

pub all_over : (vs : List (List Value)) (cells more : List Cell) → pushed_all vs cells ++ more ≡ pushed_all vs (cells ++ more)
all_over [] cells more = refl
all_over (v ∷ vs) cells more = append_assoc (map Holds (reverse v)) (pushed_all vs cells) more ∙ ap (pushed v) (all_over vs cells more)

pub held_all : (vs : List (List Value)) (cells : List Cell) → AreHeld cells → AreHeld (pushed_all vs cells)
held_all [] cells h = h
held_all (v ∷ vs) cells h = held_pushed v (pushed_all vs cells) (held_all vs cells h)
