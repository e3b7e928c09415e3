-- What a call may call: a function of the unit that has a body, or a routine of the header, with
-- defaults within bounds.
use Rattle.std.proofs.Common.{◌≡◌, ℕ, zero, suc, ◌+◌, ◌<◌, ◌≤◌, Bool, true, false, if◌then◌else◌, not, List, [], ◌∷◌, length, Option, None, Some, option_map, slice_get, bytes_eq, refl, sym, ap, subst}
use Rattle.std.proofs.Common.{◌∙◌, arith}
use Rattle.std.proofs.lemmas.Option.{same_Some, none-some}
use Rattle.std.proofs.lemmas.Bool.{true≢false, and_parts}
use Rattle.std.specs.Prelude.{◌&&◌, ◌||◌, is_none}
use Rattle.std.specs.Option.{option_and_then}
use Rattle.std.specs.List.{AllByRecursion, list_all, list_any}
use Rattle.nwq_value.specs.declared.value.Ty.{Ty}
use Rattle.nwq_value.specs.declared.value.Ty.TheVariants as ty
use Rattle.nwq_value.specs.declared.engine.Const.{Const}
use Rattle.nwq_value.specs.declared.engine.Param.{Param}
use Rattle.nwq_value.specs.declared.engine.Role.{Role}
use Rattle.nwq_value.specs.declared.engine.Role.TheVariants as role
use Rattle.nwq_value.specs.declared.engine.Routine.{Routine}
use Rattle.nwq_value.specs.Engine.{EngineTable, IsTable, IsConstant, IsRoutine, AreRoutines, AreParams, FitsType, routine_named}
use Rattle.nwq_value.specs.Header.{header_routines}
use Rattle.nwq_value.specs.Limits.{frame_cell_limit, routine_limit}
use Rattle.nwq_value.specs.Roles.{Signature as Row, BuiltAsHeader, PureAsHeader, WorldIsCallable, header_signatures, is_barred_type, types_of}
use Rattle.nss_tree.specs.Counts.{one_if}
use Rattle.typing_rules.specs.Sight.{Signature, Head, Called, has_body, find_head, types_of_head, first_types, body_number, of_signature, of_routine, routine_called, is_callable_role, callee}
use Rattle.typing_rules.specs.Typed.{TypedExprs, no_typed, more_typed}
use Rattle.typing_rules.specs.Rules.{defaults, filled}
use Rattle.emission_rules.specs.Bounds.{IsCallee}
use Rattle.emission_rules.specs.Expressions.{count_arguments}
use Rattle.typing_laws.proofs.Lists.{Holds, map_is}
use Rattle.typing_laws.proofs.InSight.{IsValue}

-- ---- defaults

abbrev pub AreDefaults : List Param → Type 0
AreDefaults ps = AllByRecursion (λ p. Holds IsConstant p.default) ps

abbrev pub count_defaults : List Param → ℕ
count_defaults [] = 0
count_defaults (p ∷ ps) = one_if p.default + count_defaults ps

-- so many constants for parameters of which so many have defaults
pub record Filled (count few : ℕ) (ks : List Const) : Type 0 where
  pub constants : AllByRecursion IsConstant ks
  pub count_is : length ks ≡ count
  pub few_are : length ks ≤ few

default_more : (o : Option Const) (rest : Option (List Const)) (ks : List Const) (n m : ℕ) → Holds IsConstant o → ((js : List Const) → rest ≡ Some js → Filled n m js)
    → option_and_then (λ k. option_map (λ js. k ∷ js) rest) o ≡ Some ks → Filled (suc n) (one_if o + m) ks
default_more None rest ks n m h more e = absurd (none-some ks e)
default_more (Some k) rest ks n m h more e =
    let is = map_is (λ js. k ∷ js) rest ks e in
    let f = more is.0 is.1 in
    let a = f.count_is in let b = f.few_are in
    subst (Filled (suc n) (1 + m)) is.2 (record { constants = (h, f.constants); count_is = omega arith; few_are = omega arith })

defaults_fill : (ps : List Param) (ks : List Const) → AreDefaults ps → defaults ps ≡ Some ks → Filled (length ps) (count_defaults ps) ks
defaults_fill [] ks h e = subst (Filled 0 0) (same_Some [] ks e) (record { constants = tt; count_is = refl; few_are = omega arith })
defaults_fill (p ∷ ps) ks h e = default_more p.default (defaults ps) ks (length ps) (count_defaults ps) h.0 (λ js is. defaults_fill ps js h.1 is) e

-- arguments, and the defaults behind them
pub record Given (xs : TypedExprs) (count few : ℕ) (ks : List Const) : Type 0 where
  pub constants : AllByRecursion IsConstant ks
  pub count_is : count_arguments xs + length ks ≡ count
  pub few_are : length ks ≤ few

pub filled_given : (xs : TypedExprs) (ps : List Param) (ks : List Const) → AreDefaults ps → filled xs ps ≡ Some ks → Given xs (length ps) (count_defaults ps) ks
filled_given no_typed ps ks h e =
    let f = defaults_fill ps ks h e in
    let a = f.count_is in record { constants = f.constants; count_is = omega arith; few_are = f.few_are }
filled_given (more_typed x xs) [] ks h e = absurd (none-some ks e)
filled_given (more_typed x xs) (p ∷ ps) ks h e =
    let f = filled_given xs ps ks h.1 e in
    let a = f.count_is in let b = f.few_are in record { constants = f.constants; count_is = omega arith; few_are = omega arith }

-- ---- callees

pub record IsSignature (s : Signature) : Type 0 where
  pub result : IsValue s.result
  pub defaults : AreDefaults s.params
  pub few : count_defaults s.params ≤ frame_cell_limit

abbrev pub IsHead : Head → Type 0
IsHead h = Holds IsSignature h.types

pub record IsCalled (bodies : ℕ) (d : Called) : Type 0 where
  pub result : d.is_callable ≡ true → IsValue d.result
  pub defaults : AreDefaults d.params
  pub few : count_defaults d.params ≤ frame_cell_limit
  pub callee : IsCallee bodies (length d.params) d.callee

-- the bodies of functions
abbrev pub bodies_in : List Head → ℕ
bodies_in [] = 0
bodies_in (h ∷ hs) = (if h.has_body then 1 else 0) + bodies_in hs

below_by : (own same : Bool) (n m : ℕ) (rest : Bool) → (rest ≡ true → n < m) → (if same && own then true else rest) ≡ true
    → (if own then (if same then 0 else suc n) else n) < (if own then 1 else 0) + m
below_by true true n m rest later e = omega arith
below_by true false n m rest later e = let a = later e in omega arith
below_by false true n m rest later e = let a = later e in omega arith
below_by false false n m rest later e = let a = later e in omega arith

-- a function with a body has one of them
pub body_below : (x : List ℕ) (hs : List Head) → has_body x hs ≡ true → body_number x hs < bodies_in hs
body_below x [] e = absurd (true≢false (sym e))
body_below x (h ∷ hs) e =
    below_by h.has_body (bytes_eq x h.called) (body_number x hs) (bodies_in hs) (has_body x hs) (λ is. body_below x hs is) e

head_pick : (b : Bool) (h : Head) (o : Option Head) → IsHead h → Holds IsHead o → Holds IsHead (if b then Some h else o)
head_pick true h o k m = k
head_pick false h o k m = m

head_bounds : (x : List ℕ) (hs : List Head) → AllByRecursion IsHead hs → Holds IsHead (find_head x hs)
head_bounds x [] k = tt
head_bounds x (h ∷ hs) k = head_pick (bytes_eq x h.called) h (find_head x hs) k.0 (head_bounds x hs k.1)

some_types : (o : Option Signature) → Holds IsSignature o → Holds (Holds IsSignature) (option_map Some o)
some_types None h = tt
some_types (Some s) h = h

types_bounds : (o : Option Head) → Holds IsHead o → Holds (Holds IsSignature) (types_of_head o)
types_bounds None h = tt
types_bounds (Some d) h = some_types d.types h

of_one : (bodies n : ℕ) (o : Option Signature) → n < bodies → Holds IsSignature o → Holds (IsCalled bodies) (option_map (of_signature n) o)
of_one bodies n None lt h = tt
of_one bodies n (Some s) lt h = record { result = λ e. h.result; defaults = h.defaults; few = h.few; callee = lt }

of_all : (bodies n : ℕ) (o : Option (Option Signature)) → n < bodies → Holds (Holds IsSignature) o → Holds (Holds (IsCalled bodies)) (option_map (option_map (of_signature n)) o)
of_all bodies n None lt h = tt
of_all bodies n (Some o) lt h = of_one bodies n o lt h

-- ---- routines

abbrev row_test : Row → Bool
row_test s = is_none s.role || not (is_barred_type s.gives)

all_rows : list_all row_test header_signatures ≡ true
unfolding header_routines
all_rows = refl

row_at : (xs : List Row) (n : ℕ) (x : Row) → list_all row_test xs ≡ true → slice_get xs n ≡ Some x → row_test x ≡ true
row_at [] n x all is = absurd (none-some x is)
row_at (y ∷ xs) zero x all is = ap row_test (sym (same_Some y x is)) ∙ (and_parts (row_test y) (list_all row_test xs) all).0
row_at (y ∷ xs) (suc n) x all is = row_at xs n x (and_parts (row_test y) (list_all row_test xs) all).1 is

not_barred : (t : Ty) → is_barred_type t ≡ false → IsValue t
not_barred ty.Void e = tt
not_barred ty.Int e = tt
not_barred ty.Text e = tt
not_barred ty.Object e = tt
not_barred ty.Effect e = tt
not_barred ty.Event e = tt
not_barred ty.Action e = absurd (true≢false e)
not_barred (ty.Struct n) e = tt
not_barred ty.Refused e = absurd (true≢false e)

not_false : (b : Bool) → not b ≡ true → b ≡ false
not_false true e = absurd (true≢false (sym e))
not_false false e = refl

-- what is known of roles by the built-in header
pub record RolesTell : Type 0 where
  pub built : BuiltAsHeader
  pub hooks : PureAsHeader
  pub world : WorldIsCallable

row_value : (n : ℕ) (name : List ℕ) (t : Ty) (takes : List Ty) (o : Role) → slice_get header_signatures n ≡ Some (record { name = name; gives = t; takes = takes; role = Some o }) → IsValue t
row_value n name t takes o is = not_barred t (not_false (is_barred_type t) (row_at header_signatures n _ all_rows is))

or_first : (a b : Bool) → (a || b) ≡ false → a ≡ false
or_first true b e = absurd (true≢false e)
or_first false b e = refl

result_value : RolesTell → (r : Routine) → IsRoutine r → (o : Role) → r.role ≡ o → is_callable_role o ≡ true → IsValue r.result
result_value tell r is (role.Built n) same free = row_value n r.name r.result (types_of r.params) (role.Built n) (tell.built r.name r.result (types_of r.params) n (sym is.role ∙ same))
result_value tell r is (role.Pure n) same free = row_value (28 + n) r.name r.result (types_of r.params) (role.Pure n) (tell.hooks r.name r.result (types_of r.params) n (sym is.role ∙ same))
result_value tell r is role.World same free =
    not_barred r.result (or_first (is_barred_type r.result) (list_any is_barred_type (types_of r.params)) (tell.world r.name r.result (types_of r.params) (sym is.role ∙ same)))
result_value tell r is role.Uncallable same free = absurd (true≢false (sym free))

fits_default : (o : Option Const) (t : Ty) → FitsType o t → Holds IsConstant o
fits_default None t h = tt
fits_default (Some k) t h = h.1

params_defaults : (ps : List Param) → AreParams ps → AreDefaults ps
params_defaults [] h = tt
params_defaults (p ∷ ps) h = (fits_default p.default p.ty h.1, params_defaults ps h.2)

one_at_most : {A : Type 0} (o : Option A) → one_if o ≤ 1
one_at_most None = omega arith
one_at_most (Some x) = omega arith

count_few : (ps : List Param) → count_defaults ps ≤ length ps
count_few [] = omega arith
count_few (p ∷ ps) = let a = one_at_most p.default in let b = count_few ps in omega arith

routine_at : (rs : List Routine) (n : ℕ) → AreRoutines rs → Holds IsRoutine (slice_get rs n)
routine_at [] n h = tt
routine_at (r ∷ rs) zero h = h.0
routine_at (r ∷ rs) (suc n) h = routine_at rs n h.1

of_routine_bounds : (bodies n : ℕ) (o : Option Routine) → RolesTell → n ≤ routine_limit → Holds IsRoutine o → Holds (IsCalled bodies) (of_routine n o)
of_routine_bounds bodies n None tell le h = tt
of_routine_bounds bodies n (Some r) tell le h = record {
  result = λ free. result_value tell r h r.role refl free;
  defaults = params_defaults r.params h.param_types;
  few = let a = count_few r.params in let b = h.few in omega arith;
  callee = (le, h.few);
}

named_few : (x : List ℕ) (rs : List Routine) → Holds (λ n. n ≤ length rs) (routine_named x rs)
unfolding routine_named
named_few x [] = tt
named_few x (r ∷ rs) = by_name (bytes_eq x r.name) (routine_named x rs) (named_few x rs) where
  by_name : (b : Bool) (o : Option ℕ) → Holds (λ n. n ≤ length rs) o → Holds (λ n. n ≤ suc (length rs)) (if b then Some 0 else option_map suc o)
  by_name true o h = omega arith
  by_name false None h = tt
  by_name false (Some n) h = omega (arith, h)

routine_bounds : (bodies : ℕ) (table : EngineTable) (o : Option ℕ) → RolesTell → IsTable table → Holds (λ n. n ≤ length table.routines) o
    → Holds (IsCalled bodies) (routine_called table.routines o)
routine_bounds bodies table None tell is h = tt
routine_bounds bodies table (Some n) tell is h =
    of_routine_bounds bodies n (slice_get table.routines n) tell (let a = is.few in omega (arith, h, a)) (routine_at table.routines n is.routines)

callee_by : (bodies : ℕ) (b : Bool) (n : ℕ) (o : Option (Option Signature)) (r : Option Called) → (b ≡ true → n < bodies) → Holds (Holds IsSignature) o → Holds (IsCalled bodies) r
    → Holds (Holds (IsCalled bodies)) (if b then option_map (option_map (of_signature n)) o else Some r)
callee_by bodies true n o r lt h k = of_all bodies n o (lt refl) h
callee_by bodies false n o r lt h k = k

-- what a name calls
pub callee_bounds : RolesTell → (hs : List Head) (table : EngineTable) (x : List ℕ) → AllByRecursion IsHead hs → IsTable table
    → Holds (Holds (IsCalled (bodies_in hs))) (callee hs table x)
callee_bounds tell hs table x heads is =
    callee_by (bodies_in hs) (has_body x hs) (body_number x hs) (first_types x hs) (routine_called table.routines (routine_named x table.routines))
    (λ e. body_below x hs e) (types_bounds (find_head x hs) (head_bounds x hs heads))
    (routine_bounds (bodies_in hs) table (routine_named x table.routines) tell is (named_few x table.routines))
