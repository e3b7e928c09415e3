-- Typed expressions of a function are fine.
use Rattle.std.proofs.Common.{◌≡◌, ◌≤◌, ℕ, zero, suc, List, [], ◌∷◌, map, Option, Some, None, Bool, true, false, sym, subst, ◌∙◌, ap, refl}
use Rattle.std.specs.Prelude.{not, ◌&&◌, ◌||◌, slice_get, bytes_eq, if◌then◌else◌}
use Rattle.std.specs.List.{AllByRecursion, list_any}
use Rattle.std.specs.Option.{option_map, option_and_then}
use Rattle.std.proofs.lemmas.Option.{none-some, same_Some}
use Rattle.nss_tree.specs.declared.operators.PrefixOperator.{PrefixOperator}
use Rattle.nss_tree.specs.declared.operators.PrefixOperator.TheVariants as pre
use Rattle.nss_tree.specs.Expressions.{PlainExpr, PlainExprs}
use Rattle.nwq_value.specs.declared.value.Ty.{Ty}
use Rattle.nwq_value.specs.declared.value.Ty.TheVariants.{Void, Int, Text, Object, Effect, Event, Action, Struct, Refused}
use Rattle.nwq_value.specs.declared.engine.Const.{Const}
use Rattle.nwq_value.specs.declared.engine.Const.TheVariants as const
use Rattle.nwq_value.specs.declared.engine.Param.{Param}
use Rattle.nwq_value.specs.declared.engine.Role.{Role}
use Rattle.nwq_value.specs.declared.engine.Role.TheVariants.{Built, Pure, World, Uncallable}
use Rattle.nwq_value.specs.declared.engine.Routine.{Routine}
use Rattle.nwq_value.specs.Engine.{EngineTable, const_type, constant_named, routine_named, IsNoStruct, FitsType, AreParams, IsRoutine, AreRoutines, IsTable}
use Rattle.typing_rules.specs.declared.places.Callee.TheVariants.{Engine}
use Rattle.typing_rules.specs.Types.{is_void, is_int, is_action, same_type, binary_type, assigned_type, is_step}
use Rattle.typing_rules.specs.Typed.{TypedExpr, TypedExprs, call, member, prefix, postfix, binary, assign, no_typed, more_typed, type_of, is_place}
use Rattle.typing_rules.specs.Sight.{Meaning, variable, constant, Entry, Member, Members, Structure, Signature, Head, Sight, Called, find_from, find, entry_means, name_means, has_body, first_types}
use Rattle.typing_rules.specs.Sight.{body_number, members_of, members_in, find_member, is_callable_role, of_routine, routine_called, of_signature, types_wanted, callee}
use Rattle.typing_rules.specs.Rules.{when, named, defaults, filled, is_void_call, takes, all_taken, is_of_unit, is_barred, filled_call, call_of, takes_action, others, member_at, member_rule, assigned}
use Rattle.typing_rules.specs.Meaning.{Types, AllTypes}
use Rattle.typing_rules.specs.Meaning as rules
use Rattle.typing_rules.specs.Cells.{Structs, cell_types, is_captured}
use Rattle.stack_shape.specs.Calls as shape
use Rattle.stack_shape.specs.Calls.{is_callable, is_uncallable, action_count, result_types}
use Rattle.source_meaning.specs.Expressions as meaning
use Rattle.source_meaning.specs.Fields.{IsMember, fields_cells}
use Rattle.source_meaning.specs.Scripts.{Function}
use Rattle.source_laws.specs.Kept.{Site, In}
use Rattle.source_laws.specs.Fine.{AreParts, argument_type, argument_types, AreValues, IsSingle, AreSingle, IsCall, IsFine, AreFine}
use Rattle.typed_laws.proofs.Types.{same_type_is, int_is, action_is, IsValueType, IsField, AreStructs, all_found}
use Rattle.typed_laws.proofs.Bodies.{when_is, both_are, not_is, DefaultFits, AreSignatureParams, AreHeads, first_is_head, AreBodies}

-- ---- what the rules say of arguments

-- the same test of types in two places
same_test : (t : Ty) → shape.is_action t ≡ is_action t
same_test Void = refl
same_test Int = refl
same_test Text = refl
same_test Object = refl
same_test Effect = refl
same_test Event = refl
same_test Action = refl
same_test (Struct n) = refl
same_test Refused = refl

same_void : (t : Ty) → shape.is_void t ≡ is_void t
same_void Void = refl
same_void Int = refl
same_void Text = refl
same_void Object = refl
same_void Effect = refl
same_void Event = refl
same_void Action = refl
same_void (Struct n) = refl
same_void Refused = refl

-- a call of a function without a result has no value
call_void : (e : TypedExpr) → is_void_call e ≡ true → is_captured e ≡ true
call_void (call t f xs ks) h = h
call_void e h = absurd cc

-- an argument that is taken: an action, or a value of the parameter's type
pub record IsTaken (t : Ty) (e : TypedExpr) : Type 0 where
  pub type : argument_type e ≡ t
  pub value : is_action t ≡ false → is_captured e ≡ false
  pub no_action : is_captured e ≡ false → shape.is_action (type_of e) ≡ false
  pub no_void : is_void t ≡ false

taken_is : (t : Ty) (e : TypedExpr) → takes t e ≡ true → IsTaken t e
taken_is t e h = by (is_action t) refl h
  where
    by : (b : Bool) → is_action t ≡ b → (if b then is_void_call e else not (is_void t) && same_type t (type_of e)) ≡ true → IsTaken t e
    by true action g =
        let captured = call_void e g in
        let is = action_is t action in
        record {
          type = ap (λ (c : Bool). if c then Action else type_of e) captured ∙ sym is;
          value = λ isnt. let never : true ≡ false = sym action ∙ isnt in absurd cc;
          no_action = λ isnt. let never : true ≡ false = sym captured ∙ isnt in absurd cc;
          no_void = ap is_void is;
        }
    by false isnt g =
        let b = both_are (not (is_void t)) (same_type t (type_of e)) g in
        let same = same_type_is t (type_of e) b.1 in
        let void = not_is (is_void t) b.0 in
        let plain : is_captured e ≡ false = ap is_void (sym same) ∙ void in
        record {
          type = ap (λ (c : Bool). if c then Action else type_of e) plain ∙ sym same;
          value = λ f. plain;
          no_action = λ f. same_test (type_of e) ∙ ap is_action (sym same) ∙ isnt;
          no_void = void;
        }

-- the defaults behind the arguments have the parameters' types
abbrev pub DefaultsFit : List Param → Type 0
DefaultsFit [] = Unit {0}
DefaultsFit (p ∷ ps) = DefaultFits p.default p.ty × DefaultsFit ps

abbrev DefaultsAre : Option Const → Option (List Const) → Option (List Const)
DefaultsAre o r = option_and_then (λ k. option_map (λ js. k ∷ js) r) o

typed_by : (t : Ty) (ts : List Ty) (o : Option Const) (r : Option (List Const)) (ks : List Const) → DefaultFits o t
    → ((js : List Const) → r ≡ Some js → map const_type js ≡ ts) → DefaultsAre o r ≡ Some ks
    → map const_type ks ≡ t ∷ ts
typed_by t ts None r ks g later e = absurd (none-some ks e)
typed_by t ts (Some k) None ks g later e = absurd (none-some ks e)
typed_by t ts (Some k) (Some js) ks g later e =
    ap (map const_type) (sym (same_Some _ _ e)) ∙ ap (λ u. u ∷ map const_type js) g ∙ ap (λ us. t ∷ us) (later js refl)

defaults_typed : (ps : List Param) (ks : List Const) → DefaultsFit ps → defaults ps ≡ Some ks → map const_type ks ≡ map (λ (p : Param). p.ty) ps
defaults_typed [] ks f h = ap (map const_type) (sym (same_Some _ _ h))
defaults_typed (p ∷ ps) ks f h = typed_by p.ty (map (λ (q : Param). q.ty) ps) p.default (defaults ps) ks f.0 (λ js e. defaults_typed ps js f.1 e) h

pub arguments_typed : (es : TypedExprs) (ps : List Param) (ks : List Const) → DefaultsFit ps → all_taken es ps ≡ true → filled es ps ≡ Some ks → argument_types es ks ≡ map (λ (p : Param). p.ty) ps
arguments_typed no_typed ps ks f t h = defaults_typed ps ks f h
arguments_typed (more_typed e es) [] ks f t h = absurd cc
arguments_typed (more_typed e es) (p ∷ ps) ks f t h =
    let b = both_are (takes p.ty e) (all_taken es ps) t in
    ap (λ u. u ∷ argument_types es ks) (taken_is p.ty e b.0).type ∙ ap (λ us. p.ty ∷ us) (arguments_typed es ps ks f.1 b.1 h)

-- no argument is an action where no parameter is one
abbrev NoActions : List Param → Type 0
NoActions [] = Unit {0}
NoActions (p ∷ ps) = (is_action p.ty ≡ false) × NoActions ps

values_taken : (es : TypedExprs) (ps : List Param) → NoActions ps → all_taken es ps ≡ true → AreValues es
values_taken no_typed ps f t = tt
values_taken (more_typed e es) [] f t = absurd cc
values_taken (more_typed e es) (p ∷ ps) f t =
    let b = both_are (takes p.ty e) (all_taken es ps) t in
    ((taken_is p.ty e b.0).value f.0, values_taken es ps f.1 b.1)

-- no parameter of a call that is typed is void
abbrev NoVoids : List Param → Type 0
NoVoids [] = Unit {0}
NoVoids (p ∷ ps) = (is_void p.ty ≡ false) × NoVoids ps

const_no_void : (k : Const) → is_void (const_type k) ≡ false
const_no_void (const.Int n) = refl
const_no_void (const.Text bytes) = refl
const_no_void const.SelfObject = refl
const_no_void const.InvalidObject = refl

void_by : (p : Param) (ps : List Param) (o : Option Const) (r : Option (List Const)) (ks : List Const)
    → DefaultFits o p.ty → ((js : List Const) → r ≡ Some js → NoVoids ps) → DefaultsAre o r ≡ Some ks → NoVoids (p ∷ ps)
void_by p ps None r ks g later e = absurd (none-some ks e)
void_by p ps (Some k) None ks g later e = absurd (none-some ks e)
void_by p ps (Some k) (Some js) ks g later e = (ap is_void (sym g) ∙ const_no_void k, later js refl)

defaults_no_void : (ps : List Param) (ks : List Const) → DefaultsFit ps → defaults ps ≡ Some ks → NoVoids ps
defaults_no_void [] ks f h = tt
defaults_no_void (p ∷ ps) ks f h = void_by p ps p.default (defaults ps) ks f.0 (λ js e. defaults_no_void ps js f.1 e) h

no_voids : (es : TypedExprs) (ps : List Param) (ks : List Const) → DefaultsFit ps → all_taken es ps ≡ true → filled es ps ≡ Some ks → NoVoids ps
no_voids no_typed ps ks f t h = defaults_no_void ps ks f h
no_voids (more_typed e es) [] ks f t h = absurd cc
no_voids (more_typed e es) (p ∷ ps) ks f t h =
    let b = both_are (takes p.ty e) (all_taken es ps) t in
    ((taken_is p.ty e b.0).no_void, no_voids es ps ks f.1 b.1 h)

-- ---- what a table keeps

no_struct_one : (structs : Structs) (t : Ty) → IsNoStruct t → is_void t ≡ false → IsSingle structs t
no_struct_one structs Void h isnt = absurd cc
no_struct_one structs Int h isnt = refl
no_struct_one structs Text h isnt = refl
no_struct_one structs Object h isnt = refl
no_struct_one structs Effect h isnt = refl
no_struct_one structs Event h isnt = refl
no_struct_one structs Action h isnt = refl
no_struct_one structs (Struct n) h isnt = absurd h
no_struct_one structs Refused h isnt = refl

no_struct_result : (structs : Structs) (t : Ty) → IsNoStruct t → cell_types structs t ≡ result_types t
no_struct_result structs Void h = refl
no_struct_result structs Int h = refl
no_struct_result structs Text h = refl
no_struct_result structs Object h = refl
no_struct_result structs Effect h = refl
no_struct_result structs Event h = refl
no_struct_result structs Action h = refl
no_struct_result structs (Struct n) h = absurd h
no_struct_result structs Refused h = refl

params_single : (structs : Structs) (ps : List Param) → AreParams ps → NoVoids ps → AreSingle structs ps
params_single structs [] h isnt = tt
params_single structs (p ∷ ps) h isnt = (no_struct_one structs p.ty h.0 isnt.0, params_single structs ps h.2 isnt.1)

params_default : (ps : List Param) → AreParams ps → DefaultsFit ps
params_default [] h = tt
params_default (p ∷ ps) h = (by p.default p.ty h.1, params_default ps h.2)
  where
    by : (o : Option Const) (t : Ty) → FitsType o t → DefaultFits o t
    by None t f = tt
    by (Some k) t f = f.0

no_void_any : (ps : List Param) → NoVoids ps → list_any (λ (p : Param). shape.is_void p.ty) ps ≡ false
no_void_any [] isnt = refl
no_void_any (p ∷ ps) isnt = ap (λ (b : Bool). b || list_any (λ (q : Param). shape.is_void q.ty) ps) (same_void p.ty ∙ isnt.0) ∙ no_void_any ps isnt.1

routine_kept : (rs : List Routine) (n : ℕ) (r : Routine) → AreRoutines rs → slice_get rs n ≡ Some r → IsRoutine r
routine_kept [] n r all h = absurd (none-some r h)
routine_kept (s ∷ rs) zero r all h = subst IsRoutine (same_Some _ _ h) all.0
routine_kept (s ∷ rs) (suc n) r all h = routine_kept rs n r all.1 h

role_called : (r : Role) → is_callable_role r ≡ true → is_uncallable r ≡ false
role_called (Built n) h = refl
role_called (Pure n) h = refl
role_called World h = refl
role_called Uncallable h = absurd cc

callable_is : (r : Routine) → is_callable_role r.role ≡ true → NoVoids r.params → is_callable r ≡ true
unfolding is_callable
callable_is r can solid =
    ap (λ (b : Bool). not b && not (list_any (λ (p : Param). shape.is_void p.ty) r.params)) (role_called r.role can)
    ∙ ap (λ (b : Bool). not b) (no_void_any r.params solid)

signature_defaults : (ps : List Param) → AreSignatureParams ps → DefaultsFit ps
signature_defaults [] h = tt
signature_defaults (p ∷ ps) h = (h.1, signature_defaults ps h.2)

signature_actions : (ps : List Param) → AreSignatureParams ps → NoActions ps
signature_actions [] h = tt
signature_actions (p ∷ ps) h = (h.0, signature_actions ps h.2)

-- ---- in sight, at file level or in a function

-- A global in the values of globals is a variable of the frame, as a function's own variables are
-- in its body.
abbrev pub IsThere : Site → Bool → List ℕ → Bool → ℕ → Type 0
IsThere x true scope true n = ⊥
IsThere x true scope false n = In n scope
IsThere x false scope true n = In n scope
IsThere x false scope false n = In n x.globals

-- what a name in sight is
abbrev pub IsMeaning : Site → Bool → List ℕ → Meaning → Type 0
IsMeaning x file scope (variable n own t) = IsValueType x.layout.structs t × (x.types n ≡ t) × IsThere x file scope own n
IsMeaning x file scope (constant k) = Unit {0}

abbrev pub IsSeen : Site → Bool → List ℕ → Entry → Type 0
IsSeen x file scope e = (m : Meaning) → e.means ≡ Some m → IsMeaning x file scope m

pub record Sees (x : Site) (table : EngineTable) (result : Ty) (file : Bool) (scope : List ℕ) (c : Sight) : Type 0 where
  pub names : AllByRecursion (IsSeen x file scope) c.names
  pub structs : AreStructs x.layout.structs x.fields c.structs
  pub table_is : c.table ≡ table
  pub inside : c.at_file ≡ file
  pub gives : file ≡ false → c.result ≡ Some result

module _ (x : Site) (file : Bool) (scope : List ℕ) where
  abbrev FoundSeen : Option Entry → Type 0
  FoundSeen None = Unit {0}
  FoundSeen (Some e) = IsSeen x file scope e

  found_seen : (y : List ℕ) (es : List Entry) (found : Option Entry) → FoundSeen found → AllByRecursion (IsSeen x file scope) es → FoundSeen (find_from found y es)
  found_seen y [] found h all = h
  found_seen y (e ∷ es) found h all = found_seen y es (if bytes_eq y e.called then Some e else found) (by (bytes_eq y e.called)) all.1
    where
      by : (b : Bool) → FoundSeen (if b then Some e else found)
      by true = all.0
      by false = h

  means_seen : (table : EngineTable) (y : List ℕ) (o : Option Entry) → FoundSeen o → (m : Meaning) → entry_means table y o ≡ Some (Some m) → IsMeaning x file scope m
  means_seen table y None h m e = by (constant_named y table.constants) e
    where
      by : (o : Option Const) → Some (option_map constant o) ≡ Some (Some m) → IsMeaning x file scope m
      by None f = absurd (none-some m (same_Some _ _ f))
      by (Some k) f = subst (IsMeaning x file scope) (same_Some _ _ (same_Some _ _ f)) tt
  means_seen table y (Some g) h m e = by g.means refl e
    where
      by : (o : Option Meaning) → g.means ≡ o → option_map (λ (k : Meaning). Some k) o ≡ Some (Some m) → IsMeaning x file scope m
      by None same f = absurd (none-some (Some m) f)
      by (Some k) same f = h m (same ∙ same_Some _ _ f)

  pub name_seen : (table : EngineTable) (result : Ty) (c : Sight) → Sees x table result file scope c → (y : List ℕ) (m : Meaning) → name_means c y ≡ Some (Some m) → IsMeaning x file scope m
  name_seen table result c s y m e = means_seen c.table y (find y c.names) (found_seen y c.names None tt s.names) m e

-- ---- at file level no action is captured

mapped : {A : Type 0} (f : A → TypedExpr) (o : Option A) (t : TypedExpr) → option_map f o ≡ Some t → ((a : A) → is_void_call (f a) ≡ false) → is_void_call t ≡ false
mapped f None t e h = absurd (none-some t e)
mapped f (Some a) t e h = subst (λ (u : TypedExpr). is_void_call u ≡ false) (same_Some _ _ e) (h a)

of_when : (b : Bool) (u t : TypedExpr) → when b u ≡ Some t → is_void_call u ≡ false → is_void_call t ≡ false
of_when b u t e h = subst (λ (v : TypedExpr). is_void_call v ≡ false) (when_is b u t e).1 h

named_no_call : (at_file : Bool) (m : Meaning) → is_void_call (named at_file m) ≡ false
named_no_call at_file (variable n own t) = refl
named_no_call at_file (constant k) = refl

barred_void : (d : Called) → (is_barred true d) ≡ false → is_void d.result ≡ false
barred_void d h = by (is_of_unit d.callee) (is_void d.result) h
  where
    by : (a b : Bool) → (a || (true && b)) ≡ false → b ≡ false
    by false b e = e
    by true b e = absurd cc

no_void_call : (hs : List Head) (c : Sight) → c.at_file ≡ true → {b : Bool} {e : PlainExpr} {t : TypedExpr} → b ≡ true → Types hs c b e t → is_void_call t ≡ false
no_void_call hs c file flag (rules.Types.int b n v) = refl
no_void_call hs c file flag (rules.Types.text b n v) = refl
no_void_call hs c file flag (rules.Types.object_self b n) = refl
no_void_call hs c file flag (rules.Types.object_invalid b n) = refl
no_void_call hs c file flag (rules.Types.name b n y {m = m} {t = t} h k) = mapped (named c.at_file) m t k (named_no_call c.at_file)
no_void_call hs c file flag (rules.Types.call b n f {ts = ts} {d = None} {t = t} h k r) = absurd (none-some t r)
no_void_call hs c file flag (rules.Types.call b n f {ts = ts} {d = Some d} {t = t} h k r) =
    by (d.is_callable && (not (c.at_file && is_barred b d) && all_taken ts d.params)) refl r
  where
    by : (p : Bool) → (d.is_callable && (not (c.at_file && is_barred b d) && all_taken ts d.params)) ≡ p → (if p then filled_call ts d else None) ≡ Some t → is_void_call t ≡ false
    by false is_so g = absurd (none-some t g)
    by true is_so g =
        let k1 = both_are d.is_callable (not (c.at_file && is_barred b d) && all_taken ts d.params) is_so in
        let k2 = both_are (not (c.at_file && is_barred b d)) (all_taken ts d.params) k1.1 in
        let opened : (true && is_barred true d)
        ≡ false = ap (λ (z : Bool). z && is_barred true d) (sym file)
        ∙ ap (λ (z : Bool). c.at_file && is_barred z d) (sym flag) ∙ not_is (c.at_file && is_barred b d) k2.0 in
        mapped (λ (ks : List Const). call d.result d.callee ts ks) (filled ts d.params) t g (λ ks. barred_void d opened)
no_void_call hs c file flag (rules.Types.member b n y {u = u} {t = t} h k) = mapped (λ (m : Member). member m.ty u m.before) (member_at y (members_in c.structs (type_of u))) t k (λ m. refl)
no_void_call hs c file flag (rules.Types.prefix b n o {u = u} {t = t} h k) = of_when (is_int (type_of u) && (not (is_step o) || is_place u)) (prefix Int o u) t k refl
no_void_call hs c file flag (rules.Types.postfix b n o {u = u} {t = t} h k) = of_when (is_int (type_of u) && is_place u) (postfix Int o u) t k refl
no_void_call hs c file flag (rules.Types.binary b n o {u = u} {v = v} {t = t} h k r) = mapped (λ (w : Ty). binary w o u v) (binary_type o (type_of u) (type_of v)) t r (λ w. refl)
no_void_call hs c file flag (rules.Types.assign b n o {u = u} {v = v} {t = t} h k r) = by (is_place u) r
  where
    by : (p : Bool) → (if p then assigned o u v else None) ≡ Some t → is_void_call t ≡ false
    by true g = mapped (λ (w : Ty). assign w o u v) (assigned_type o (type_of u) (type_of v)) t g (λ w. refl)
    by false g = absurd (none-some t g)

taken_captured : (t : Ty) (e : TypedExpr) → takes t e ≡ true → is_captured e ≡ true → (is_action t ≡ true) × (is_void_call e ≡ true)
taken_captured t e h captured = by (is_action t) refl h
  where
    by : (b : Bool) → is_action t ≡ b → (if b then is_void_call e else not (is_void t) && same_type t (type_of e)) ≡ true → (b ≡ true) × (is_void_call e ≡ true)
    by true same g = (refl, g)
    by false same g =
        let b = both_are (not (is_void t)) (same_type t (type_of e)) g in
        let never : true ≡ false = sym captured ∙ ap is_void (sym (same_type_is t (type_of e) b.1)) ∙ not_is (is_void t) b.0 in
        absurd cc

module _ (x : Site) (table : EngineTable) (kept : IsTable table) (few : (r : Routine) → IsRoutine r → is_callable_role r.role ≡ true → action_count r.params ≤ 1)
    (fs : List Function) (hs : List Head) (heads : AreHeads hs) (file : Bool) (all : file ≡ false → AreBodies fs hs) (made : file ≡ false → x.layout.globals ≡ x.bp) (result : Ty) where
  name_fine : (scope : List ℕ) (at_file : Bool) (m : Meaning) → at_file ≡ file → IsMeaning x at_file scope m → IsFine table fs x scope (named at_file m)
  name_fine scope true (variable n true t) same h = absurd h.2
  name_fine scope true (variable n false t) same h = (h.2, h.1, h.0.some)
  name_fine scope false (variable n true t) same h = (h.2, h.1, h.0.some)
  name_fine scope false (variable n false t) same h = (h.2, h.1, h.0.some, made (sym same))
  name_fine scope true (constant k) same h = refl
  name_fine scope false (constant k) same h = refl

  -- what a call's callee asks
  call_is : (f : List ℕ) (d : Called) (es : TypedExprs) (ks : List Const) → callee hs table f ≡ Some (Some d) → d.is_callable ≡ true → all_taken es d.params ≡ true → filled es d.params ≡ Some ks
      → (is_of_unit d.callee ≡ true → file ≡ false) → IsCall table x.layout.structs fs d.result d.callee es ks
  call_is f d es ks e can taken full inside = by (has_body f hs) refl e
    where
      of_unit : (s : Signature) → has_body f hs ≡ true → first_types f hs ≡ Some (Some s) → of_signature (body_number f hs) s ≡ d → IsCall table x.layout.structs fs d.result d.callee es ks
      of_unit s has first same =
          let k = all (inside (ap (λ (g : Called). is_of_unit g.callee) (sym same))) f s has first in
          let fits = first_is_head f hs heads s first in
          let taken' = ap (λ (g : Called). all_taken es g.params) same ∙ taken in
          let full' = ap (λ (g : Called). filled es g.params) same ∙ full in
          subst (λ (g : Called). IsCall table x.layout.structs fs g.result g.callee es ks) same (record {
            function = k.function;
            is = k.is;
            result = k.result;
            arguments = arguments_typed es s.params ks (signature_defaults s.params fits) taken' full' ∙ sym k.params;
            values = values_taken es s.params (signature_actions s.params fits) taken';
          })

      of_engine : (n : ℕ) (r : Routine) → slice_get table.routines n ≡ Some r
          → (record { callee = Engine n; params = r.params; result = r.result; is_callable = is_callable_role r.role })
          ≡ d → IsCall table x.layout.structs fs d.result d.callee es ks
      of_engine n r there same =
          let k = routine_kept table.routines n r kept.routines there in
          let taken' = ap (λ (g : Called). all_taken es g.params) same ∙ taken in
          let full' = ap (λ (g : Called). filled es g.params) same ∙ full in
          let can' = ap (λ (g : Called). g.is_callable) same ∙ can in
          let fits = params_default r.params k.param_types in
          let solid = no_voids es r.params ks fits taken' full' in
          subst (λ (g : Called). IsCall table x.layout.structs fs g.result g.callee es ks) same (record {
            routine = r;
            is = there;
            result = no_struct_result x.layout.structs r.result k.result_type;
            single = params_single x.layout.structs r.params k.param_types solid;
            callable = callable_is r can' solid;
            arguments = arguments_typed es r.params ks fits taken' full';
            actions = few r k can';
          })

      of_first : (o : Option (Option Signature)) → has_body f hs ≡ true → first_types f hs ≡ o
          → option_map (option_map (of_signature (body_number f hs))) o ≡ Some (Some d)
          → IsCall table x.layout.structs fs d.result d.callee es ks
      of_first None has first g = absurd (none-some (Some d) g)
      of_first (Some None) has first g = absurd (none-some d (same_Some _ _ g))
      of_first (Some (Some s)) has first g = of_unit s has first (same_Some _ _ (same_Some _ _ g))

      of_got : (n : ℕ) (o : Option Routine) → slice_get table.routines n ≡ o → of_routine n o ≡ Some d → IsCall table x.layout.structs fs d.result d.callee es ks
      of_got n None there g = absurd (none-some d g)
      of_got n (Some r) there g = of_engine n r there (same_Some _ _ g)

      of_named : (o : Option ℕ) → Some (routine_called table.routines o) ≡ Some (Some d) → IsCall table x.layout.structs fs d.result d.callee es ks
      of_named None g = absurd (none-some d (same_Some _ _ g))
      of_named (Some n) g = of_got n (slice_get table.routines n) refl (same_Some _ _ g)

      by : (b : Bool) → has_body f hs ≡ b
          → (if b then option_map (option_map (of_signature (body_number f hs))) (first_types f hs) else Some
          (routine_called table.routines (routine_named f table.routines))) ≡ Some (Some d)
          → IsCall table x.layout.structs fs d.result d.callee es ks
      by true has g = of_first (first_types f hs) has refl g
      by false isnt g = of_named (routine_named f table.routines) g

  -- a member of a struct
  member_fine : (scope : List ℕ) (c : Sight) (y : List ℕ) (u t : TypedExpr) → Sees x table result file scope c
      → IsFine table fs x scope u → member_rule c.structs y u ≡ Some t → IsFine table fs x scope t
  member_fine scope c y u t s fine h = by (type_of u) refl h
    where
      of_member : (n : ℕ) (r : Structure) (mem : Members) (m : Member) → type_of u ≡ Struct n
          → slice_get c.structs n ≡ Some r → r.members ≡ Some mem → find_member y mem.fields ≡ Some m
          → IsFine table fs x scope (member m.ty u m.before)
      of_member n r mem m same there is found =
          let k = s.structs n r there in
          let one : k.members ≡ mem = same_Some _ _ (sym k.is ∙ is) in
          let all = cell_types x.layout.structs (Struct n) in
          let f = all_found (IsField x.layout.structs k.types all) y mem.fields m (subst (λ (v : Members). AllByRecursion (IsField x.layout.structs k.types all) v.fields) one k.fields) found in
          let field : IsMember x.layout.structs x.fields (type_of u) m.ty m.before = record {
            number = n;
            of = same;
            front = f.front;
            back = f.back;
            are = k.listed ∙ ap Some f.types_are;
            cells = ap (cell_types x.layout.structs) same ∙ k.cells ∙ ap (fields_cells x.layout.structs) f.types_are;
            offset = f.offset;
          } in
          (fine, subst (λ (v : Ty). AreParts (cell_types x.layout.structs v) m.before (cell_types x.layout.structs m.ty)) (sym same) (record { are = f.are; inside = f.inside; some = f.some }), field)

      of_found : (n : ℕ) (r : Structure) (mem : Members) (o : Option Member) → type_of u ≡ Struct n
          → slice_get c.structs n ≡ Some r → r.members ≡ Some mem → find_member y mem.fields ≡ o
          → option_map (λ (m : Member). member m.ty u m.before) o ≡ Some t
          → IsFine table fs x scope t
      of_found n r mem None same there is found g = absurd (none-some t g)
      of_found n r mem (Some m) same there is found g = subst (IsFine table fs x scope) (same_Some _ _ g) (of_member n r mem m same there is found)

      of_members : (n : ℕ) (r : Structure) (o : Option Members) → type_of u ≡ Struct n → slice_get c.structs n ≡ Some r
          → r.members ≡ o → option_map (λ (m : Member). member m.ty u m.before) (member_at y o) ≡ Some t
          → IsFine table fs x scope t
      of_members n r None same there is g = absurd (none-some t g)
      of_members n r (Some mem) same there is g = of_found n r mem (find_member y mem.fields) same there is refl g

      of_struct : (n : ℕ) (o : Option Structure) → type_of u ≡ Struct n → slice_get c.structs n ≡ o
          → option_map (λ (m : Member). member m.ty u m.before) (member_at y (members_of o)) ≡ Some t
          → IsFine table fs x scope t
      of_struct n None same there g = absurd (none-some t g)
      of_struct n (Some r) same there g = of_members n r r.members same there refl g

      by : (v : Ty) → type_of u ≡ v → option_map (λ (m : Member). member m.ty u m.before) (member_at y (members_in c.structs v)) ≡ Some t → IsFine table fs x scope t
      by (Struct n) same g = of_struct n (slice_get c.structs n) same refl g
      by Void same g = absurd (none-some t g)
      by Int same g = absurd (none-some t g)
      by Text same g = absurd (none-some t g)
      by Object same g = absurd (none-some t g)
      by Effect same g = absurd (none-some t g)
      by Event same g = absurd (none-some t g)
      by Action same g = absurd (none-some t g)
      by Refused same g = absurd (none-some t g)

  step_is : (o : PrefixOperator) → meaning.is_step o ≡ is_step o
  step_is pre.Minus = refl
  step_is pre.Complement = refl
  step_is pre.Not = refl
  step_is pre.Increment = refl
  step_is pre.Decrement = refl

  place_needed : (step place : Bool) → (not step || place) ≡ true → step ≡ true → place ≡ true
  place_needed true place h s = h
  place_needed false place h s = absurd cc

  of_call : (scope : List ℕ) (f : List ℕ) (ts : TypedExprs) (d : Called) (t : TypedExpr) (b at_file : Bool)
      → at_file ≡ file → callee hs table f ≡ Some (Some d)
      → (all_taken ts d.params ≡ true → AreFine table fs x scope ts)
      → call_of at_file b ts (Some d) ≡ Some t → IsFine table fs x scope t
  of_call scope f ts d t b at_file same_file is fine r = by (d.is_callable && (not (at_file && is_barred b d) && all_taken ts d.params)) refl r
    where
      unit_inside : (a : Bool) → a ≡ file → not (a && is_barred b d) ≡ true → is_of_unit d.callee ≡ true → file ≡ false
      unit_inside false same opened is_unit = sym same
      unit_inside true same opened is_unit =
          let never : (true || (b && is_void d.result)) ≡ false = ap (λ (z : Bool). z || (b && is_void d.result)) (sym is_unit) ∙ not_is (is_barred b d) opened in
          absurd cc

      of_filled : (o : Option (List Const)) → filled ts d.params ≡ o → d.is_callable ≡ true
          → all_taken ts d.params ≡ true → (is_of_unit d.callee ≡ true → file ≡ false)
          → option_map (λ (ks : List Const). call d.result d.callee ts ks) o ≡ Some t → IsFine table fs x scope t
      of_filled None full can taken inside g = absurd (none-some t g)
      of_filled (Some ks) full can taken inside g = subst (IsFine table fs x scope) (same_Some _ _ g) (call_is f d ts ks is can taken full inside, fine taken)

      by : (p : Bool) → (d.is_callable && (not (at_file && is_barred b d) && all_taken ts d.params)) ≡ p → (if p then filled_call ts d else None) ≡ Some t → IsFine table fs x scope t
      by true is_so g =
          let k = both_are d.is_callable (not (at_file && is_barred b d) && all_taken ts d.params) is_so in
          let l = both_are (not (at_file && is_barred b d)) (all_taken ts d.params) k.1 in
          of_filled (filled ts d.params) refl k.0 l.1 (unit_inside at_file same_file l.0) g
      by false is_so g = absurd (none-some t g)

  mutual
    pub expr_fine : (scope : List ℕ) (c : Sight) → Sees x table result file scope c → {b : Bool} {e : PlainExpr} {t : TypedExpr} → Types hs c b e t → IsFine table fs x scope t
    expr_fine scope c s (rules.Types.int b n v) = tt
    expr_fine scope c s (rules.Types.text b n v) = tt
    expr_fine scope c s (rules.Types.object_self b n) = tt
    expr_fine scope c s (rules.Types.object_invalid b n) = tt
    expr_fine scope c s (rules.Types.name b n y {m = None} {t = t} h k) = absurd (none-some t k)
    expr_fine scope c s (rules.Types.name b n y {m = Some m} h k) =
        subst (IsFine table fs x scope) (same_Some _ _ k)
        (name_fine scope c.at_file m s.inside
        (subst (λ (b : Bool). IsMeaning x b scope m) (sym s.inside)
        (name_seen x file scope table result c s y m h)))
    expr_fine scope c s (rules.Types.call b n f {ts = ts} {d = None} {t = t} h k r) = absurd (none-some t r)
    expr_fine scope c s (rules.Types.call b n f {es = es} {ts = ts} {d = Some d} {t = t} h k r) =
        of_call scope f ts d t b c.at_file s.inside (subst (λ (g : EngineTable). callee hs g f ≡ Some (Some d)) s.table_is k)
        (λ taken. arguments_fine scope c s h d.params (ap types_wanted k) taken) r
    expr_fine scope c s (rules.Types.member b n y {u = u} {t = t} h k) = member_fine scope c y u t s (expr_fine scope c s h) k
    expr_fine scope c s (rules.Types.prefix b n o {u = u} {t = t} h k) =
        let w = when_is (is_int (type_of u) && (not (is_step o) || is_place u)) (prefix Int o u) t k in
        let g = both_are (is_int (type_of u)) (not (is_step o) || is_place u) w.0 in
        subst (IsFine table fs x scope) w.1 (expr_fine scope c s h, int_is (type_of u) g.0, refl, λ step. place_needed (is_step o) (is_place u) g.1 (sym (step_is o) ∙ step))
    expr_fine scope c s (rules.Types.postfix b n o {u = u} {t = t} h k) =
        let w = when_is (is_int (type_of u) && is_place u) (postfix Int o u) t k in
        let g = both_are (is_int (type_of u)) (is_place u) w.0 in
        subst (IsFine table fs x scope) w.1 (expr_fine scope c s h, int_is (type_of u) g.0, refl, g.1)
    expr_fine scope c s (rules.Types.binary b n o {u = u} {v = v} {t = t} h k r) =
        of_binary (binary_type o (type_of u) (type_of v)) refl r (expr_fine scope c s h) (expr_fine scope c s k)
      where
        of_binary : (p : Option Ty) → binary_type o (type_of u) (type_of v) ≡ p
            → option_map (λ (w : Ty). binary w o u v) p ≡ Some t → IsFine table fs x scope u → IsFine table fs x scope v
            → IsFine table fs x scope t
        of_binary None same g f1 f2 = absurd (none-some t g)
        of_binary (Some w) same g f1 f2 = subst (IsFine table fs x scope) (same_Some _ _ g) (f1, f2, same)
    expr_fine scope c s (rules.Types.assign b n o {u = u} {v = v} {t = t} h k r) =
        of_place (is_place u) refl r (expr_fine scope c s h) (expr_fine scope c s k)
      where
        of_assigned : (p : Option Ty) → is_place u ≡ true → assigned_type o (type_of u) (type_of v) ≡ p
            → option_map (λ (w : Ty). assign w o u v) p ≡ Some t → IsFine table fs x scope u → IsFine table fs x scope v
            → IsFine table fs x scope t
        of_assigned None place same g f1 f2 = absurd (none-some t g)
        of_assigned (Some w) place same g f1 f2 = subst (IsFine table fs x scope) (same_Some _ _ g) (f1, f2, place, same)

        of_place : (p : Bool) → is_place u ≡ p → (if p then assigned o u v else None) ≡ Some t → IsFine table fs x scope u → IsFine table fs x scope v → IsFine table fs x scope t
        of_place true place g f1 f2 = of_assigned (assigned_type o (type_of u) (type_of v)) place refl g f1 f2
        of_place false place g f1 f2 = absurd (none-some t g)

    arguments_fine : (scope : List ℕ) (c : Sight) → Sees x table result file scope c
        → {ps : List Param} {es : PlainExprs} {ts : TypedExprs} → AllTypes hs c ps es ts → (qs : List Param) → ps ≡ qs
        → all_taken ts qs ≡ true
        → AreFine table fs x scope ts
    arguments_fine scope c s (rules.AllTypes.none ps) qs same taken = tt
    arguments_fine scope c s (rules.AllTypes.more ps h k) [] same taken = absurd cc
    arguments_fine scope c s (rules.AllTypes.more ps {t = t} {ts = ts} h k) (q ∷ qs) same taken =
        let b = both_are (takes q.ty t) (all_taken ts qs) taken in (
          expr_fine scope c s h,
          record { made = λ captured. made (by_file file s.inside (taken_captured q.ty t b.0 captured)); value = (taken_is q.ty t b.0).no_action },
          arguments_fine scope c s k qs (ap others same) b.1,
        )
      where
        by_file : (b : Bool) → c.at_file ≡ b → (is_action q.ty ≡ true) × (is_void_call t ≡ true) → b ≡ false
        by_file false at_file a = refl
        by_file true at_file a = let never : true ≡ false = sym a.1 ∙ no_void_call hs c at_file (ap takes_action same ∙ a.0) h in absurd cc
