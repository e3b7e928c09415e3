-- The calls of routines by their roles.
use Rattle.std.proofs.Common.{◌≡◌, ◌<◌, ◌+◌, ℕ, zero, suc, Bool, true, false, not, List, [], ◌∷◌, ◌++◌, map, length, get_or, take, Option, None, Some, slice_get, refl, sym, ap, subst, ◌∙◌, arith}
use Rattle.std.specs.Prelude.{◌||◌, if◌then◌else◌}
use Rattle.std.specs.Option.{IfSome}
use Rattle.std.specs.List.{list_any, list_all}
use Rattle.std.proofs.lemmas.List.{take_more}
use Rattle.std.proofs.lemmas.Bool.{false≢true, and_parts}
use Rattle.std.proofs.lemmas.Option.{none-some, same_Some}
use Rattle.nwq_value.specs.Engine.{IsRoutine}
use Rattle.nwq_value.specs.Header.{header_routines}
use Rattle.nwq_value.specs.Roles.{Signature, PureAsHeader, header_signatures, types_of as parameter_types}
use Rattle.nwq_value.specs.declared.engine.Param.{Param}
use Rattle.nwq_value.specs.declared.engine.Role.{Role}
use Rattle.nwq_value.specs.declared.engine.Role.TheVariants as role
use Rattle.nwq_value.specs.declared.engine.Routine.{Routine}
use Rattle.nwq_value.specs.declared.value.Ty.{Ty}
use Rattle.nwq_value.specs.declared.value.Value.{Value}
use Rattle.nwq_value.specs.declared.value.Value.TheVariants.{Int, Text, Object, Effect, Event}
use Rattle.stack_shape.specs.Calls.{argument_types, is_action}
use Rattle.hook_table.specs.declared.hook.Known.{Known}
use Rattle.hook_table.specs.Standard.{types_of_values, IsAnswer}
use Rattle.hook_table.specs.Served.{StandardServe}
use Rattle.world_rules.specs.Arguments.{ints_of}
use Rattle.world_rules.specs.Pure.{pure}
use Rattle.world_core.specs.Calls.{tables_of, cells_of, AreServing}

-- ---- the ints among arguments

ints_joined : (xs ys : List Value) → ints_of (xs ++ ys) ≡ ints_of xs ++ ints_of ys
ints_joined [] ys = refl
ints_joined (Int n ∷ xs) ys = ap (λ ns. n ∷ ns) (ints_joined xs ys)
ints_joined (Text t ∷ xs) ys = ints_joined xs ys
ints_joined (Object o ∷ xs) ys = ints_joined xs ys
ints_joined (Effect e ∷ xs) ys = ints_joined xs ys
ints_joined (Event n ∷ xs) ys = ints_joined xs ys

pub one_more_int : (values : List Value) (i : ℕ) (x d : Value) → i < length values → x ≡ get_or values i d → ints_of (take i values) ++ ints_of (x ∷ []) ≡ ints_of (take (i + 1) values)
one_more_int values i x d lt is =
    sym (ints_joined (take i values) (x ∷ [])) ∙ (ap (λ (y : Value). ints_of (take i values ++ y ∷ [])) is ∙ ap ints_of (sym (take_more values i d lt)))

-- ---- hooks

-- a pure function takes no action
is_pure : Option Role → Bool
is_pure (Some (role.Pure k)) = true
is_pure (Some (role.Built k)) = false
is_pure (Some role.World) = false
is_pure (Some role.Uncallable) = false
is_pure None = false

fits : Signature → Bool
unfolding is_pure
fits s = not (is_pure s.role) || not (list_any is_action s.takes)

all_fit : list_all fits header_signatures ≡ true
unfolding header_routines fits is_pure
all_fit = refl

pub at_place : {A : Type 0} → (test : A → Bool) (xs : List A) (n : ℕ) (x : A) → list_all test xs ≡ true → slice_get xs n ≡ Some x → test x ≡ true
at_place test [] n x all is = absurd (none-some x is)
at_place test (y ∷ xs) zero x all is = ap test (sym (same_Some y x is)) ∙ (and_parts (test y) (list_all test xs) all).0
at_place test (y ∷ xs) (suc n) x all is = at_place test xs n x (and_parts (test y) (list_all test xs) all).1 is

not_true : (b : Bool) → not b ≡ true → b ≡ false
not_true true is = absurd (false≢true is)
not_true false is = refl

takes_none : (n k : ℕ) (s : Signature) → slice_get header_signatures n ≡ Some s → s.role ≡ Some (role.Pure k) → list_any is_action s.takes ≡ false
unfolding fits is_pure
takes_none n k s is pure =
    not_true (list_any is_action s.takes) (subst (λ (r : Option Role). (not (is_pure r) || not (list_any is_action s.takes)) ≡ true) pure (at_place fits header_signatures n s all_fit is))

arguments_if : (b : Bool) (t : Ty) (rest all : List Ty) → rest ≡ all → b ≡ false → (if b then rest else t ∷ rest) ≡ t ∷ all
arguments_if true t rest all same is = absurd (false≢true (sym is))
arguments_if false t rest all same is = ap (λ (ts : List Ty). t ∷ ts) same

pub or_false : (a b : Bool) → (a || b) ≡ false → (a ≡ false) × (b ≡ false)
or_false true b is = absurd (false≢true (sym is))
or_false false b is = (refl, is)

all_arguments : (ps : List Param) → list_any is_action (parameter_types ps) ≡ false → argument_types ps ≡ parameter_types ps
all_arguments [] none = refl
all_arguments (p ∷ ps) none =
    let both = or_false (is_action p.ty) (list_any is_action (parameter_types ps)) none in
    arguments_if (is_action p.ty) p.ty (argument_types ps) (parameter_types ps) (all_arguments ps both.1) both.0

mapped_at : {A B : Type 0} → (f : A → B) (xs : List A) (n : ℕ) (y : B) → slice_get (map f xs) n ≡ Some y → (x : A) × (slice_get xs n ≡ Some x) × (f x ≡ y)
mapped_at f [] n y is = absurd (none-some y is)
mapped_at f (x ∷ xs) zero y is = (x, refl, same_Some (f x) y is)
mapped_at f (x ∷ xs) (suc n) y is = mapped_at f xs n y is

-- the hook that serves a pure routine
pub record IsServed {H : Type 0} (known : H → Known) (hooks : List H) (k : ℕ) (args : List Value) : Type 0 where
  pub hook : H
  pub there : slice_get hooks k ≡ Some hook
  pub types : types_of_values args ≡ (known hook).params
  pub answers : (v : Value) → IsAnswer (known hook).tables (known hook).name (known hook).result args v → pure (cells_of (map known hooks)) k args ≡ Some v

pub served : {H : Type 0} → (hooks : List H) (known : H → Known) (k : ℕ) (r : Routine) (args : List Value)
    → PureAsHeader → StandardServe → AreServing (map known hooks) → IsRoutine r → r.role ≡ role.Pure k →
    types_of_values args ≡ argument_types r.params → IsServed known hooks k args
served hooks known k r args header serve serving is own types =
    let row = header r.name r.result (parameter_types r.params) k (sym is.role ∙ own) in
    let s = serve (map known hooks) (tables_of (map known hooks)) k r.name r.result (parameter_types r.params) serving row in
    let m = mapped_at known hooks k s.0 s.1 in
    let plain = all_arguments r.params (takes_none (28 + k) k (record { name = r.name; gives = r.result; takes = parameter_types r.params; role = Some (role.Pure k) }) row refl) in
    record {
      hook = m.0;
      there = m.1;
      types = types ∙ (plain ∙ (sym s.2.params ∙ ap (λ (h : Known). h.params) (sym m.2)));
      answers = λ v is. s.2.answers args v (subst (λ (h : Known). IsAnswer h.tables h.name h.result args v) m.2 is);
    }

pub inside : {A : Type 0} → (xs : List A) (n : ℕ) (x : A) → slice_get xs n ≡ Some x → n < length xs
inside [] n x is = absurd (none-some x is)
inside (y ∷ xs) zero x is = omega arith
inside (y ∷ xs) (suc n) x is = omega (arith, inside xs n x is)

pub of_some : {A : Type 0} → (P : A → Type 0) (o : Option A) (x : A) → o ≡ Some x → IfSome o P → P x
of_some P None x is holds = absurd (none-some x is)
of_some P (Some y) x is holds = subst P (same_Some y x is) holds

pub for_some : {A : Type 0} → (P : A → Type 0) (o : Option A) (x y : A) → o ≡ Some x → o ≡ Some y → P x → P y
for_some P o x y is other holds = subst P (same_Some x y (sym is ∙ other)) holds
