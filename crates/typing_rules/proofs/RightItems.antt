-- Structs, functions, items and units: verdicts, faults and meaning agree.
use Rattle.std.proofs.Common.{◌≡◌, ◌∙◌, refl, ap, subst, ◌⊎◌, ℕ, Bool, false, List, [], ◌∷◌, ◌++◌, Option, None, Some, is_some, option_map, option_and_then}
use Rattle.std.proofs.lemmas.Option.{none-some}
use Rattle.nss_tree.specs.declared.constants.Constant.{Constant}
use Rattle.nss_tree.specs.declared.constants.TypeName.{TypeName}
use Rattle.nss_tree.specs.declared.units.Identifier.{Identifier}
use Rattle.nss_tree.specs.Units as item
use Rattle.nss_tree.specs.Source.{SourceDeclared, SourceStmts, SourceItem, SourceTree, SourceLine, SourceParameter}
use Rattle.nwq_value.specs.declared.value.Ty.{Ty}
use Rattle.nwq_value.specs.Engine.{EngineTable}
use Rattle.typing_rules.specs.declared.fault.FaultKind.TheVariants.{Redeclared, Mismatch, NoReturn, Entry}
use Rattle.typing_rules.specs.declared.places.EntryPoint.{EntryPoint}
use Rattle.typing_rules.specs.Typed.{TypedName, TypedLine, TypedParameter, TypedItem, TypedUnit}
use Rattle.typing_rules.specs.Nodes.{fine, two, three, if_there, faults_there, Fits, Own, FaultThere, at}
use Rattle.typing_rules.specs.Sight.{Head, Structure, Sight, start, type_means, value_type, any_type, declared_type, result_type, first_types, declared}
use Rattle.typing_rules.specs.Rules.{constant_type, line_rows, constant_name_rule, constant_name_rows, Fields, no_fields, field_rule, field_rows, struct_rule, struct_rows, parameter_of}
use Rattle.typing_rules.specs.Rules.{parameter_rule, parameter_rows, signature_of, head_of, head_rule, head_rows, function_rule, function_rows, entry_rule, entry_rows}
use Rattle.typing_rules.specs.Verdicts.{longer, after_names, line_type, line_verdict, constant_line_verdict, constant_value, constant_faults, names_faults, stmts_fine, stmts_faults, field_added}
use Rattle.typing_rules.specs.Verdicts.{fields_fine, fields_faults, line_of, line_fine, line_faults, after_line, lines_fine, lines_faults, struct_verdict, struct_members, parameter_verdict}
use Rattle.typing_rules.specs.Verdicts.{parameter_declared, late_after, after_params, params_fine, params_faults, in_function, in_body, head_verdict, head_faults, body_faults, function_verdict}
use Rattle.typing_rules.specs.Verdicts.{constant_name_verdict, constant_item, global_item, constant_meaning, after_item, after_items, item_fine, item_faults, items_fine, items_faults, heads, unit_of}
use Rattle.typing_rules.specs.Verdicts.{unit_typed, unit_faults}
use Rattle.typing_rules.specs.Meaning.{NoParts, FaultInConstant, TypesLine, TypesNames, FaultInStmts, TypesFields, TypesFieldLine, TypesLines, FaultOfLine, FaultInFields, FaultInLines, ParameterParts}
use Rattle.typing_rules.specs.Meaning.{TypesParams, FaultInParams, TypesHead, FaultInHead, FunctionParts, ConstantNameParts, TypesItem, FaultInItem, TypesItems, FaultInItems, TypesUnit, FaultInUnit}
use Rattle.typing_rules.specs.Meaning as rules
use Rattle.typing_rules.proofs.Right.{Right, Image, said, under, given_by, node, leaf, looked, no_part, both, looked_and, and_two_looked, if_right, maps, always, none_split, asked_fine, two_is}
use Rattle.typing_rules.proofs.Right.{three_is}
use Rattle.typing_rules.proofs.Coverage.{field_covered, parameter_covered}
use Rattle.typing_rules.proofs.InSight.{Each, each_last, IsThere, EntryTyped, StructTyped, HeadTyped, Sighted, Scoped, type_there, first_there, declared_sighted}
use Rattle.typing_rules.proofs.RightExpressions.{right_constant, right_line}
use Rattle.typing_rules.proofs.RightStatements.{right_names, right_stmts, line_typed}

-- ---- structs

no_field_back : (structs : List Structure) (s : Fields) (t : Option Ty) (ys : List Identifier) → TypesFields structs s t [] ys → [] ≡ ys
no_field_back structs s t ys (rules.TypesFields.none r u) = refl

abbrev FieldsParts : List Structure → Fields → Option Ty → Identifier → List Identifier → Identifier × List Identifier → Type 0
FieldsParts structs s t x xs p = Fits (λ u. t ≡ Some u) (field_rule structs s x) p.0 × TypesFields structs (field_added structs s t x) t xs p.1

field_more_back : (structs : List Structure) (s : Fields) (t : Option Ty) (x : Identifier) (xs ys : List Identifier) → TypesFields structs s t (x ∷ xs) ys
    → Image longer (FieldsParts structs s t x xs) ys
field_more_back structs s t x xs ys (rules.TypesFields.more r u {y = y} {ys = zs} h i) = ((y, zs), (h, i), refl)

right_fields : (structs : List Structure) (s : Fields) (t : Option Ty) (xs : List Identifier)
    → Right (IsThere t) (TypesFields structs s t xs) (fields_fine structs s t xs) (fields_faults structs s t xs) (FaultInFields structs s t xs)
right_fields structs s t [] = said (λ ys e. subst (TypesFields structs s t []) e (rules.TypesFields.none s t)) (no_field_back structs s t) (always [])
right_fields structs s t (x ∷ xs) =
    said (λ ys h. subst (TypesFields structs s t (x ∷ xs)) h.2 (rules.TypesFields.more s t h.1.0 h.1.1)) (field_more_back structs s t x xs)
    (maps longer
    (both (leaf (field_rows structs s x) (field_rule structs s x) (field_covered structs s x) x.token (looked t (λ v. v))) (λ v i. v)
    (right_fields structs (field_added structs s t x) t xs)))

abbrev LineParts : List Structure → Fields → SourceLine → Ty × List Identifier → Type 0
LineParts structs s l p = TypesLine structs l.ty p.0 × TypesFields structs s (line_type structs l.ty) l.names p.1

line_there : (structs : List Structure) (s : Fields) (l : SourceLine) (u : TypedLine) → Image (line_of l.token) (LineParts structs s l) u → TypesFieldLine structs s l u
line_there structs s l u h =
    subst (TypesFieldLine structs s l) h.2 (record { line = h.1.0; fields = h.1.1; token = refl })

line_back : (structs : List Structure) (s : Fields) (l : SourceLine) (u : TypedLine) → TypesFieldLine structs s l u → Image (line_of l.token) (LineParts structs s l) u
line_back structs s l u h = ((u.ty, u.names), (h.line, h.fields), ap (λ (n : ℕ). line_of n (u.ty, u.names)) h.token)

right_field_line : (structs : List Structure) (s : Fields) (l : SourceLine)
    → Right (Each StructTyped structs) (TypesFieldLine structs s l) (line_fine structs s l) (line_faults structs s l)
    (λ f. FaultOfLine structs l.token l.ty f ⊎ FaultInFields structs s (line_type structs l.ty) l.names f)
right_field_line structs s l =
    said (line_there structs s l) (line_back structs s l)
    (maps (line_of l.token)
    (both (right_line structs l.token l.ty) (λ v e. (right_line structs l.token l.ty).settled v e) (right_fields structs s (line_type structs l.ty) l.names)))

no_line_back : (structs : List Structure) (s : Fields) (us : List TypedLine) → TypesLines structs s [] us → [] ≡ us
no_line_back structs s us (rules.TypesLines.none r) = refl

abbrev LinesParts : List Structure → Fields → SourceLine → List SourceLine → TypedLine × List TypedLine → Type 0
LinesParts structs s l ls p = TypesFieldLine structs s l p.0 × TypesLines structs (after_line structs s l) ls p.1

line_more_back : (structs : List Structure) (s : Fields) (l : SourceLine) (ls : List SourceLine) (us : List TypedLine) → TypesLines structs s (l ∷ ls) us
    → Image longer (LinesParts structs s l ls) us
line_more_back structs s l ls us (rules.TypesLines.more r {u = u} {us = vs} h i) = ((u, vs), (h, i), refl)

right_lines : (structs : List Structure) (s : Fields) (ls : List SourceLine)
    → Right (Each StructTyped structs) (TypesLines structs s ls) (lines_fine structs s ls) (lines_faults structs s ls) (FaultInLines structs s ls)
right_lines structs s [] = said (λ us e. subst (TypesLines structs s []) e (rules.TypesLines.none s)) (no_line_back structs s) (always [])
right_lines structs s (l ∷ ls) =
    said (λ us h. subst (TypesLines structs s (l ∷ ls)) h.2 (rules.TypesLines.more s h.1.0 h.1.1)) (line_more_back structs s l ls)
    (maps longer (both (right_field_line structs s l) (λ v i. v) (right_lines structs (after_line structs s l) ls)))

right_struct : (structs : List Structure) (n : ℕ) (x : List ℕ) (ls : List SourceLine)
    → Right (Each StructTyped structs) (Fits (TypesLines structs no_fields ls) (struct_rule structs x)) (fine (struct_verdict structs x ls))
    (lines_faults structs no_fields ls ++ at n (struct_verdict structs x ls))
    (λ f. FaultInLines structs no_fields ls f ⊎ Own n (TypesLines structs no_fields ls) (struct_rule structs x) struct_rows f)
right_struct structs n x ls = node struct_rows (struct_rule structs x) (λ a e. (Redeclared, refl)) n (right_lines structs no_fields ls)

-- ---- parameters

then_is : {A B : Type 0} (f : A → Option B) (o : Option A) (b : B) → option_and_then f o ≡ Some b → (a : A) × (o ≡ Some a) × (f a ≡ Some b)
then_is f None b e = absurd (none-some b e)
then_is f (Some a) b e = (a, refl, e)

then_gives : {A B : Type 0} (f : A → Option B) (o : Option A) (a : A) (b : B) → o ≡ Some a → f a ≡ Some b → option_and_then f o ≡ Some b
then_gives f o a b d e = ap (option_and_then f) d ∙ e

-- the type of a parameter that is typed
parameter_typed : (c : Sight) (late : Bool) (p : SourceParameter) → IsThere (fine (parameter_verdict c late p)) → IsThere (declared_type c.structs p.ty)
parameter_typed c late p h =
    let a = asked_fine (parameter_rows c late p) (parameter_rule c late p) (two (type_means c.structs p.ty) (if_there (constant_value c) p.default)) h.0 h.1 in
    let parts = two_is (type_means c.structs p.ty) (if_there (constant_value c) p.default) a.0 a.1 in
    let t = then_is (parameter_of c late p a.0.1) (value_type a.0.0) h.0 a.2 in
    (t.0, then_gives value_type (type_means c.structs p.ty) a.0.0 t.0 parts.0 t.1)

right_parameter : (c : Sight) (late : Bool) (p : SourceParameter)
    → Right (Sighted c) (Fits (ParameterParts c p) (parameter_rule c late p)) (fine (parameter_verdict c late p))
    (faults_there (constant_faults c) p.default ++ at p.token (parameter_verdict c late p))
    (λ f. FaultThere (FaultInConstant c) p.default f ⊎ Own p.token (ParameterParts c p) (parameter_rule c late p) (parameter_rows c late p) f)
right_parameter c late p =
    node (parameter_rows c late p) (parameter_rule c late p) (parameter_covered c late p) p.token
    (looked_and (type_means c.structs p.ty) (λ v. type_there c.structs p.ty v.1)
    (if_right (constant_value c) (constant_faults c) (FaultInConstant c) (right_constant c) p.default))

parameter_keeps : (c : Sight) (late : Bool) (p : SourceParameter) → Sighted c
    → faults_there (constant_faults c) p.default ++ at p.token (parameter_verdict c late p) ≡ [] → Sighted (parameter_declared c p)
parameter_keeps c late p v e = declared_sighted c p.name (declared_type c.structs p.ty) (parameter_typed c late p ((right_parameter c late p).settled v e)) v

no_param_back : (c : Sight) (late : Bool) (ts : List TypedParameter) → TypesParams c late [] ts → [] ≡ ts
no_param_back c late ts (rules.TypesParams.none d l) = refl

abbrev ParamsParts : Sight → Bool → SourceParameter → List SourceParameter → TypedParameter × List TypedParameter → Type 0
ParamsParts c late p ps q = Fits (ParameterParts c p) (parameter_rule c late p) q.0 × TypesParams (parameter_declared c p) (late_after late p) ps q.1

param_more_back : (c : Sight) (late : Bool) (p : SourceParameter) (ps : List SourceParameter) (ts : List TypedParameter) → TypesParams c late (p ∷ ps) ts
    → Image longer (ParamsParts c late p ps) ts
param_more_back c late p ps ts (rules.TypesParams.more d l {t = t} {ts = us} h i) = ((t, us), (h, i), refl)

right_params : (c : Sight) (late : Bool) (ps : List SourceParameter)
    → Right (Sighted c) (TypesParams c late ps) (params_fine c late ps) (params_faults c late ps) (FaultInParams c late ps)
right_params c late [] = said (λ ts e. subst (TypesParams c late []) e (rules.TypesParams.none c late)) (no_param_back c late) (always [])
right_params c late (p ∷ ps) =
    said (λ ts h. subst (TypesParams c late (p ∷ ps)) h.2 (rules.TypesParams.more c late h.1.0 h.1.1)) (param_more_back c late p ps)
    (maps longer (both (right_parameter c late p) (parameter_keeps c late p) (right_params (parameter_declared c p) (late_after late p) ps)))

params_keep : (c : Sight) (late : Bool) (ps : List SourceParameter) → Sighted c → params_faults c late ps ≡ [] → Sighted (after_params c ps)
params_keep c late [] v e = v
params_keep c late (p ∷ ps) v e =
    let h = none_split (faults_there (constant_faults c) p.default ++ at p.token (parameter_verdict c late p))
    (params_faults (parameter_declared c p) (late_after late p) ps) e in
    params_keep (parameter_declared c p) (late_after late p) ps (parameter_keeps c late p v h.0) h.1

params_result : (c : Sight) (ps : List SourceParameter) → (after_params c ps).result ≡ c.result
params_result c [] = refl
params_result c (p ∷ ps) = params_result (parameter_declared c p) ps

-- ---- functions

-- what is in sight of an item: the names, the structs, and the declarations of functions before it
abbrev pub Filed : Sight → Type 0
Filed c = Sighted c × Each HeadTyped c.seen

right_head : (c : Sight) (n : ℕ) (t : TypeName) (x : List ℕ) (ps : List SourceParameter) (b : Bool)
    → Right (Filed c) (TypesHead c t x ps b) (fine (head_verdict c t x ps b)) (head_faults c n t x ps b) (FaultInHead c n t x ps b)
right_head c n t x ps b =
    node head_rows (head_rule c x b) (λ a e. (Redeclared, refl)) n
    (and_two_looked (under (λ (v : Filed c). v.0) (right_params (in_function c t) false ps))
    (type_means c.structs t) (λ v. type_there c.structs t v.0.1) (first_types x c.seen) (λ v. first_there x c.seen v.1))

-- the result of a function whose head is typed
head_result : (c : Sight) (t : TypeName) (x : List ℕ) (ps : List SourceParameter) (b : Bool) → IsThere (fine (head_verdict c t x ps b)) → IsThere (result_type c.structs t)
head_result c t x ps b h =
    let o = three (params_fine (in_function c t) false ps) (type_means c.structs t) (first_types x c.seen) in
    let a = asked_fine head_rows (head_rule c x b) o h.0 h.1 in
    let parts = three_is (params_fine (in_function c t) false ps) (type_means c.structs t) (first_types x c.seen) a.0 a.1 in
    let r = then_is (λ s. head_of c x b a.0.2 (record { params = a.0.0; result = s })) (any_type a.0.1) h.0 a.2 in
    (r.0, then_gives any_type (type_means c.structs t) a.0.1 r.0 parts.1 r.1)

head_keeps : (hs : List Head) (c : Sight) (n : ℕ) (t : TypeName) (x : List ℕ) (ps : List SourceParameter) (b : Bool) → Each HeadTyped hs × Filed c
    → head_faults c n t x ps b ≡ [] → Scoped hs (in_body c t ps)
head_keeps hs c n t x ps b v e =
    let h = none_split (params_faults (in_function c t) false ps) (at n (head_verdict c t x ps b)) e in
    let r = head_result c t x ps b ((right_head c n t x ps b).settled v.1 e) in
    ((v.0, params_keep (in_function c t) false ps v.1.0 h.0), (r.0, rw (params_result (in_function c t) ps) r.1))

right_function : (hs : List Head) (c : Sight) (n : ℕ) (t : TypeName) (x : List ℕ) (ps : List SourceParameter) (body : Option SourceStmts)
    → Right (Each HeadTyped hs × Filed c) (Fits (FunctionParts hs c t x ps body) (function_rule n x)) (fine (function_verdict hs c n t x ps body))
    ((head_faults c n t x ps (is_some body) ++ body_faults hs (in_body c t ps) body) ++ at n (function_verdict hs c n t x ps body))
    (FaultInItem hs c (item.function n t x ps body))
right_function hs c n t x ps body =
    node function_rows (function_rule n x) (λ a e. (NoReturn, refl)) n
    (both (under (λ (v : Each HeadTyped hs × Filed c). v.1) (right_head c n t x ps (is_some body))) (head_keeps hs c n t x ps (is_some body))
    (if_right (stmts_fine hs (in_body c t ps)) (stmts_faults hs (in_body c t ps)) (FaultInStmts hs (in_body c t ps)) (right_stmts hs (in_body c t ps)) body))

-- ---- items

right_constant_name : (c : Sight) (n : ℕ) (t : TypeName) (x : Identifier) (k : Constant)
    → Right (Sighted c) (Fits (ConstantNameParts c t k) (constant_name_rule c x.name)) (fine (constant_name_verdict c t x.name k))
    ((at n (constant_line_verdict c.structs t) ++ constant_faults c k) ++ at x.token (constant_name_verdict c t x.name k))
    (FaultInItem [] c (item.constant n t x k))
right_constant_name c n t x k =
    node (constant_name_rows c x.name) (constant_name_rule c x.name) (λ a e. (Mismatch, refl)) x.token
    (both (leaf line_rows constant_type (λ a e. (Mismatch, refl)) n (looked (type_means c.structs t) (λ (v : Sighted c). type_there c.structs t v.1))) (λ v i. v) (right_constant c k))

structure_back : (hs : List Head) (c : Sight) (n : ℕ) (x : List ℕ) (ls : List SourceLine) (u : TypedItem) → TypesItem hs c (item.structure n x ls) u
    → Image (item.structure n x) (Fits (TypesLines c.structs no_fields ls) (struct_rule c.structs x)) u
structure_back hs c n x ls u (rules.TypesItem.structure m y {us = us} h) = (us, h, refl)

constant_back : (hs : List Head) (c : Sight) (n : ℕ) (t : TypeName) (x : Identifier) (k : Constant) (u : TypedItem) → TypesItem hs c (item.constant n t x k) u
    → Image (constant_item n x) (Fits (ConstantNameParts c t k) (constant_name_rule c x.name)) u
constant_back hs c n t x k u (rules.TypesItem.constant m s y j {s = w} {v = v} h) = ((w, v), h, refl)

abbrev GlobalParts : List Head → Sight → TypeName → List SourceDeclared → Ty × List TypedName → Type 0
GlobalParts hs c t ds p = TypesLine c.structs t p.0 × TypesNames hs c (line_type c.structs t) ds p.1

global_back : (hs : List Head) (c : Sight) (n : ℕ) (t : TypeName) (ds : List SourceDeclared) (u : TypedItem) → TypesItem hs c (item.global n t ds) u
    → Image (global_item n) (GlobalParts hs c t ds) u
global_back hs c n t ds u (rules.TypesItem.global m s {s = w} {us = us} h i) = ((w, us), (h, i), refl)

function_back : (hs : List Head) (c : Sight) (n : ℕ) (t : TypeName) (x : List ℕ) (ps : List SourceParameter) (body : Option SourceStmts) (u : TypedItem)
    → TypesItem hs c (item.function n t x ps body) u → Fits (FunctionParts hs c t x ps body) (function_rule n x) u
function_back hs c n t x ps body u (rules.TypesItem.function m s y qs b h) = h

pub right_item : (hs : List Head) (c : Sight) (i : SourceItem)
    → Right (Each HeadTyped hs × Filed c) (TypesItem hs c i) (item_fine hs c i) (item_faults hs c i) (FaultInItem hs c i)
right_item hs c (item.structure n x ls) =
    said (λ u h. subst (TypesItem hs c (item.structure n x ls)) h.2 (rules.TypesItem.structure n x h.1)) (structure_back hs c n x ls)
    (maps (item.structure n x) (under (λ (v : Each HeadTyped hs × Filed c). v.1.0.1) (right_struct c.structs n x ls)))
right_item hs c (item.constant n t x k) =
    said (λ u h. subst (TypesItem hs c (item.constant n t x k)) h.2 (rules.TypesItem.constant n t x k h.1)) (constant_back hs c n t x k)
    (maps (constant_item n x) (under (λ (v : Each HeadTyped hs × Filed c). v.1.0) (right_constant_name c n t x k)))
right_item hs c (item.global n t ds) =
    said (λ u h. subst (TypesItem hs c (item.global n t ds)) h.2 (rules.TypesItem.global n t h.1.0 h.1.1)) (global_back hs c n t ds)
    (maps (global_item n)
    (both (under (λ (v : Each HeadTyped hs × Filed c). v.1.0.1) (right_line c.structs n t)) (λ v e. ((v.0, v.1.0), line_typed c n t v.1.0 e))
    (right_names hs c (line_type c.structs t) ds)))
right_item hs c (item.function n t x ps body) =
    said (λ u h. rules.TypesItem.function n t x ps body h) (function_back hs c n t x ps body) (right_function hs c n t x ps body)

-- What stands in sight after an item without faults is typed, whatever functions the unit has.
pub item_keeps : (hs : List Head) (c : Sight) (i : SourceItem) → Filed c → item_faults hs c i ≡ [] → Filed (after_item c i)
item_keeps hs c (item.structure n x ls) v e =
    let t = (right_struct c.structs n x ls).settled v.0.1 e in
    ((v.0.0, each_last StructTyped c.structs _ v.0.1 (struct_members c.structs t.0, rw t.1 refl)), v.1)
item_keeps hs c (item.constant n t x k) v e =
    let h = (right_constant_name c n t x k).settled v.0 e in
    ((each_last EntryTyped c.names _ v.0.0 (constant_meaning h.0, rw h.1 refl), v.0.1), v.1)
item_keeps hs c (item.global n t ds) v e =
    let line = (none_split (at n (line_verdict c.structs t)) (names_faults hs c (line_type c.structs t) ds) e).0 in
    names_filed c (line_type c.structs t) ds (line_typed c n t v.0 line) v
  where
    names_filed : (d : Sight) (s : Option Ty) (es : List SourceDeclared) → IsThere s → Filed d → Filed (after_names d s es)
    names_filed d s [] h w = w
    names_filed d s (a ∷ es) h w = names_filed (declared d a.name s) s es h (declared_sighted d a.name s h w.0, w.1)
item_keeps hs c (item.function n t x ps body) v e =
    let b = is_some body in
    let h = none_split (head_faults c n t x ps b ++ body_faults hs (in_body c t ps) body) (at n (function_verdict hs c n t x ps body)) e in
    let i = none_split (head_faults c n t x ps b) (body_faults hs (in_body c t ps) body) h.0 in
    let s = (right_head c n t x ps b).settled v i.0 in
    (v.0, each_last HeadTyped c.seen _ v.1 (signature_of s.0, ap (option_map signature_of) s.1))

no_item_back : (hs : List Head) (c : Sight) (us : List TypedItem) → TypesItems hs c [] us → [] ≡ us
no_item_back hs c us (rules.TypesItems.none d) = refl

abbrev ItemsParts : List Head → Sight → SourceItem → List SourceItem → TypedItem × List TypedItem → Type 0
ItemsParts hs c i is p = TypesItem hs c i p.0 × TypesItems hs (after_item c i) is p.1

item_more_back : (hs : List Head) (c : Sight) (i : SourceItem) (is : List SourceItem) (us : List TypedItem) → TypesItems hs c (i ∷ is) us
    → Image longer (ItemsParts hs c i is) us
item_more_back hs c i is us (rules.TypesItems.more d {t = t} {ts = ts} h k) = ((t, ts), (h, k), refl)

pub right_items : (hs : List Head) (c : Sight) (is : List SourceItem)
    → Right (Each HeadTyped hs × Filed c) (TypesItems hs c is) (items_fine hs c is) (items_faults hs c is) (FaultInItems hs c is)
right_items hs c [] = said (λ us e. subst (TypesItems hs c []) e (rules.TypesItems.none c)) (no_item_back hs c) (always [])
right_items hs c (i ∷ is) =
    said (λ us h. subst (TypesItems hs c (i ∷ is)) h.2 (rules.TypesItems.more c h.1.0 h.1.1)) (item_more_back hs c i is)
    (maps longer (both (right_item hs c i) (λ v e. (v.0, item_keeps hs c i v.1 e)) (right_items hs (after_item c i) is)))

items_keep : (hs : List Head) (c : Sight) (is : List SourceItem) → Filed c → items_faults hs c is ≡ [] → Filed (after_items c is)
items_keep hs c [] v e = v
items_keep hs c (i ∷ is) v e =
    let h = none_split (item_faults hs c i) (items_faults hs (after_item c i) is) e in
    items_keep hs (after_item c i) is (item_keeps hs c i v h.0) h.1

-- ---- units

filed_start : (table : EngineTable) → Filed (start table)
filed_start table = ((tt, tt), tt)

abbrev UnitParts : EngineTable → SourceTree → List TypedItem × EntryPoint → Type 0
UnitParts table u p = TypesItems (heads table u.items) (start table) u.items p.0 × Fits NoParts (entry_rule (heads table u.items)) p.1

unit_there : (table : EngineTable) (u : SourceTree) (t : TypedUnit) → Image unit_of (UnitParts table u) t → TypesUnit table u t
unit_there table u t h = subst (TypesUnit table u) h.2 (record { items = h.1.0; entry = h.1.1 })

unit_back : (table : EngineTable) (u : SourceTree) (t : TypedUnit) → TypesUnit table u t → Image unit_of (UnitParts table u) t
unit_back table u t h = ((t.items, t.entry), (h.items, h.entry), refl)

pub right_unit : (table : EngineTable) (u : SourceTree) → Right (Unit {0}) (TypesUnit table u) (unit_typed table u) (unit_faults table u) (FaultInUnit table u)
right_unit table u =
    said (unit_there table u) (unit_back table u)
    (maps unit_of
    (both
    (given_by (λ (v : Unit {0}) e. ((items_keep (heads table u.items) (start table) u.items (filed_start table) e).1, filed_start table))
    (right_items (heads table u.items) (start table) u.items))
    (λ v e. v)
    (leaf entry_rows (entry_rule (heads table u.items)) (λ a e. (Entry, refl)) u.count no_part)))
