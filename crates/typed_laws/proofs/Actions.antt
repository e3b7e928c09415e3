-- A routine that can be called takes one action at most.
use Rattle.std.proofs.Common.{arith, ◌≡◌, ◌≤◌, ◌+◌, ℕ, zero, suc, List, [], ◌∷◌, Some, Bool, true, false, sym, subst, ap, refl}
use Rattle.std.specs.Prelude.{◌&&◌, ◌||◌, nat_le, slice_get, if◌then◌else◌}
use Rattle.std.specs.List.{list_any}
use Rattle.std.proofs.lemmas.Bool.Decides.{nat_tests}
use Rattle.std.proofs.lemmas.Option.{none-some, same_Some}
use Rattle.nwq_value.specs.declared.value.Ty.{Ty}
use Rattle.nwq_value.specs.declared.value.Ty.TheVariants.{Void, Int, Text, Object, Effect, Event, Action, Struct, Refused}
use Rattle.nwq_value.specs.declared.engine.Param.{Param}
use Rattle.nwq_value.specs.declared.engine.Role.{Role}
use Rattle.nwq_value.specs.declared.engine.Role.TheVariants.{Built, Pure, World, Uncallable}
use Rattle.nwq_value.specs.declared.engine.Routine.{Routine}
use Rattle.nwq_value.specs.Engine.{IsRoutine}
use Rattle.nwq_value.specs.Header.{header_routines}
use Rattle.nwq_value.specs.Roles.{Signature, engine_role, is_barred_type, types_of, header_signatures, BuiltAsHeader, PureAsHeader, WorldIsCallable}
use Rattle.typing_rules.specs.Sight.{is_callable_role}
use Rattle.stack_shape.specs.Calls.{is_action, action_count}

abbrev actions_in : List Ty → ℕ
actions_in [] = 0
actions_in (t ∷ ts) = if is_action t then actions_in ts + 1 else actions_in ts

counted : (ps : List Param) → action_count ps ≡ actions_in (types_of ps)
counted [] = refl
counted (p ∷ ps) = ap (λ (n : ℕ). if is_action p.ty then n + 1 else n) (counted ps)

abbrev few_in : List Signature → Bool
few_in [] = true
few_in (s ∷ ss) = nat_le (actions_in s.takes) 1 && few_in ss

header_few : few_in header_signatures ≡ true
unfolding header_routines
header_few = refl

few_at : (ss : List Signature) (n : ℕ) (s : Signature) → few_in ss ≡ true → slice_get ss n ≡ Some s → nat_le (actions_in s.takes) 1 ≡ true
few_at [] n s h e = absurd (none-some s e)
few_at (r ∷ ss) zero s h e = subst (λ (v : Signature). nat_le (actions_in v.takes) 1 ≡ true) (same_Some _ _ e) (first (nat_le (actions_in r.takes) 1) (few_in ss) h)
  where
    first : (a b : Bool) → (a && b) ≡ true → a ≡ true
    first true b f = refl
    first false b f = absurd cc
few_at (r ∷ ss) (suc n) s h e = few_at ss n s (second (nat_le (actions_in r.takes) 1) (few_in ss) h) e
  where
    second : (a b : Bool) → (a && b) ≡ true → b ≡ true
    second true b f = f
    second false b f = absurd cc

unbarred : (ts : List Ty) → list_any is_barred_type ts ≡ false → actions_in ts ≡ 0
unbarred [] h = refl
unbarred (Void ∷ ts) h = unbarred ts h
unbarred (Int ∷ ts) h = unbarred ts h
unbarred (Text ∷ ts) h = unbarred ts h
unbarred (Object ∷ ts) h = unbarred ts h
unbarred (Effect ∷ ts) h = unbarred ts h
unbarred (Event ∷ ts) h = unbarred ts h
unbarred (Action ∷ ts) h = absurd cc
unbarred (Struct n ∷ ts) h = unbarred ts h
unbarred (Refused ∷ ts) h = absurd cc

pub few_actions : BuiltAsHeader → PureAsHeader → WorldIsCallable → (r : Routine) → IsRoutine r → is_callable_role r.role ≡ true → action_count r.params ≤ 1
few_actions built pures worlds r k can = by r.role k.role can
  where
    of_header : (n : ℕ) (s : Signature) → slice_get header_signatures n ≡ Some s → s.takes ≡ types_of r.params → action_count r.params ≤ 1
    of_header n s e same =
        let f = few_at header_signatures n s header_few e in
        let few : actions_in s.takes ≤ 1 = grind (arith, nat_tests, f) in
        let c = counted r.params in
        let t = ap actions_in same in
        omega (arith, few, c, t)

    no_result : (a b : Bool) → (a || b) ≡ false → b ≡ false
    no_result false b f = f
    no_result true b f = absurd cc

    by : (o : Role) → o ≡ engine_role r.name r.result (types_of r.params) → is_callable_role o ≡ true → action_count r.params ≤ 1
    by (Built n) same can = of_header n _ (built r.name r.result (types_of r.params) n (sym same)) refl
    by (Pure n) same can = of_header (28 + n) _ (pures r.name r.result (types_of r.params) n (sym same)) refl
    by World same can =
        let w = worlds r.name r.result (types_of r.params) (sym same) in
        let u = unbarred (types_of r.params) (no_result (is_barred_type r.result) (list_any is_barred_type (types_of r.params)) w) in
        let c = counted r.params in
        omega (arith, u, c)
    by Uncallable same can = absurd cc
