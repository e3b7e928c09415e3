-- The types of answers.
use Rattle.std.proofs.Common.{◌≡◌, ◌≢◌, ◌<◌, ◌+◌, nat_lt, arith, ℕ, ℤ, pos, negsuc, zero, suc, Bool, true, false, List, [], ◌∷◌, Option, None, Some, slice_get, refl, sym, ap, subst, ◌∙◌}
use Rattle.std.specs.Prelude.{◌==◌, ◌&&◌, if◌then◌else◌}
use Rattle.std.specs.List.{list_any, list_all}
use Rattle.std.proofs.lemmas.Bool.{true≢false, eqb-true, and_parts}
use Rattle.std.proofs.lemmas.Bool.Decides.{nat_tests}
use Rattle.std.proofs.lemmas.Option.{none-some, same_Some}
use Rattle.nwq_value.specs.Engine.{IsRoutine, AreRoutines, IsNoStruct}
use Rattle.nwq_value.specs.Header.{header_routines}
use Rattle.nwq_value.specs.Roles.{Signature, BuiltAsHeader, PureAsHeader, WorldIsCallable, header_signatures, is_barred_type, types_of}
use Rattle.nwq_value.specs.declared.engine.Role.{Role}
use Rattle.nwq_value.specs.declared.engine.Role.TheVariants as role
use Rattle.nwq_value.specs.declared.engine.Routine.{Routine}
use Rattle.nwq_value.specs.declared.value.Ty.{Ty}
use Rattle.nwq_value.specs.declared.value.Ty.TheVariants.{Void, Int, Text, Object, Effect, Event, Action, Struct, Refused}
use Rattle.nwq_value.specs.declared.value.Value.{Value}
use Rattle.world_rules.specs.Arguments.{int_at}
use Rattle.world_rules.specs.Pure.{CellLookup, pure}
use Rattle.world_rules.specs.World.{World}
use Rattle.world_rules.specs.Rows.{Call, Row, rows, drawn, drawn_from, Answer, Nothing, Random, ByTag, IsThere, IntOf, TextOf, EventOf, UserNumber, answer}
use Rattle.world_rules.specs.Engine.{by_role, by_routine, by_row, engine, row_numbered, world_value}
use Rattle.world_core.specs.Answers.{IsOfType, AnswersHaveTypes}
use Rattle.world_core.proofs.EngineLemmas.{at_place, or_false}

-- ---- types by number

abbrev code : Ty → ℕ
code Void = 0
code Int = 1
code Text = 2
code Object = 3
code Effect = 4
code Event = 5
code Action = 6
code (Struct n) = 7
code Refused = 8

abbrev decode : ℕ → Ty
decode zero = Void
decode (suc zero) = Int
decode (suc (suc zero)) = Text
decode (suc (suc (suc zero))) = Object
decode (suc (suc (suc (suc zero)))) = Effect
decode (suc (suc (suc (suc (suc zero))))) = Event
decode (suc (suc (suc (suc (suc (suc zero)))))) = Action
decode (suc (suc (suc (suc (suc (suc (suc n))))))) = Refused

decoded : (t : Ty) → IsNoStruct t → decode (code t) ≡ t
decoded Void none = refl
decoded Int none = refl
decoded Text none = refl
decoded Object none = refl
decoded Effect none = refl
decoded Event none = refl
decoded Action none = refl
decoded (Struct n) none = absurd none
decoded Refused none = refl

-- ---- what rows give

abbrev answer_type : Answer → Ty
answer_type Nothing = Void
answer_type (Random n) = Int
answer_type (ByTag tag n) = Object
answer_type (IsThere o) = Int
answer_type (IntOf o f) = Int
answer_type (TextOf o f) = Text
answer_type (EventOf n) = Event
answer_type UserNumber = Int

no_struct : (a : Answer) → IsNoStruct (answer_type a)
no_struct Nothing = tt
no_struct (Random n) = tt
no_struct (ByTag tag n) = tt
no_struct (IsThere o) = tt
no_struct (IntOf o f) = tt
no_struct (TextOf o f) = tt
no_struct (EventOf n) = tt
no_struct UserNumber = tt

drawn_from_type : {X : Type 0} → (random : List ℕ) (n : ℕ) (w : World X) → IsOfType Int (drawn_from random n w).value
drawn_from_type [] n w = refl
drawn_from_type (r ∷ random) n w = refl

drawn_type : {X : Type 0} → (n : ℤ) (w : World X) → IsOfType Int (drawn n w).value
drawn_type (negsuc n) w = refl
drawn_type (pos zero) w = refl
drawn_type (pos (suc n)) w = drawn_from_type w.random (suc n) w

answer_is : {X : Type 0} → (a : Answer) (values : List Value) (w : World X) → IsOfType (answer_type a) (answer a values w)
answer_is Nothing values w = tt
answer_is (Random n) values w = drawn_type (int_at n values) w
answer_is (ByTag tag n) values w = refl
answer_is (IsThere o) values w = refl
answer_is (IntOf o f) values w = refl
answer_is (TextOf o f) values w = refl
answer_is (EventOf n) values w = refl
answer_is UserNumber values w = refl

-- the row of a number; a number without one gives nothing
abbrev row_type : Option Row → Ty
row_type None = Void
row_type (Some r) = answer_type r.answers

row_no_struct : (o : Option Row) → IsNoStruct (row_type o)
row_no_struct None = tt
row_no_struct (Some r) = no_struct r.answers

by_row_type : {X : Type 0} → (o : Option Row) (c : Call X) (w : World X) → IsOfType (row_type o) (by_row o c w).value
by_row_type None c w = tt
by_row_type (Some r) c w = answer_is r.answers c.values w

-- ---- what pure functions give

abbrev pure_code : ℕ → ℕ
pure_code n = if n == 0 then 1 else if n == 2 then 1 else if n == 4 then 1 else 2

pure_type : (cell : CellLookup) (k : ℕ) (values : List Value) → k < 10 → IsOfType (decode (pure_code k)) (pure cell k values)
pure_type cell zero values lt = refl
pure_type cell (suc zero) values lt = refl
pure_type cell (suc (suc zero)) values lt = refl
pure_type cell (suc (suc (suc zero))) values lt = refl
pure_type cell (suc (suc (suc (suc zero)))) values lt = refl
pure_type cell (suc (suc (suc (suc (suc zero))))) values lt = refl
pure_type cell (suc (suc (suc (suc (suc (suc zero)))))) values lt = refl
pure_type cell (suc (suc (suc (suc (suc (suc (suc zero))))))) values lt = refl
pure_type cell (suc (suc (suc (suc (suc (suc (suc (suc zero)))))))) values lt = refl
pure_type cell (suc (suc (suc (suc (suc (suc (suc (suc (suc zero))))))))) values lt = refl
pure_type cell (suc (suc (suc (suc (suc (suc (suc (suc (suc (suc k)))))))))) values lt = absurd (omega (arith, lt))

below : (a b : ℕ) → nat_lt a b ≡ true → a < b
below a b is = grind (arith, nat_tests, is)

-- ---- the header's functions have these types

abbrev role_test : Option Role → Ty → Bool
role_test (Some (role.Built own)) gives = code gives == code (row_type (row_numbered own rows))
role_test (Some (role.Pure k)) gives = nat_lt k 10 && (code gives == pure_code k)
role_test (Some role.World) gives = true
role_test (Some role.Uncallable) gives = true
role_test None gives = true

all_typed : list_all (λ (s : Signature). role_test s.role s.gives) header_signatures ≡ true
unfolding header_routines
all_typed = refl

decoded_as : (t : Ty) (n : ℕ) → IsNoStruct t → (code t == n) ≡ true → t ≡ decode n
decoded_as t n none is = sym (decoded t none) ∙ ap decode (eqb-true (code t) n is)

-- ---- a world function

world_type : (n : ℕ) (t : Ty) (values : List Value) → IsNoStruct t → is_barred_type t ≡ false → IsOfType t (world_value n t values)
world_type n Void values none free = tt
world_type n Int values none free = refl
world_type n Text values none free = refl
world_type n Object values none free = refl
world_type n Effect values none free = refl
world_type n Event values none free = refl
world_type n Action values none free = absurd (true≢false free)
world_type n (Struct k) values none free = absurd none
world_type n Refused values none free = absurd (true≢false free)

-- ---- the whole

routine_at : (routines : List Routine) (n : ℕ) (r : Routine) → AreRoutines routines → slice_get routines n ≡ Some r → IsRoutine r
routine_at [] n r all is = absurd (none-some r is)
routine_at (x ∷ routines) zero r all is = subst IsRoutine (same_Some x r is) all.0
routine_at (x ∷ routines) (suc n) r all is = routine_at routines n r all.1 is

role_type : {X : Type 0} → BuiltAsHeader → PureAsHeader → WorldIsCallable
    → (cell : CellLookup) (n : ℕ) (r : Routine) (own : Role) (c : Call X) (w : World X) → IsRoutine r → r.role ≡ own
    → own ≢ role.Uncallable →
    IsOfType r.result (by_role cell n r own c w).value
role_type built pures worlds cell n r (role.Built k) c w is same callable =
    let row = built r.name r.result (types_of r.params) k (sym is.role ∙ same) in
    let test = at_place (λ (s : Signature). role_test s.role s.gives) header_signatures k _ all_typed row in
    let own = row_numbered k rows in
    let type = decoded_as r.result (code (row_type own)) is.result_type test ∙ decoded (row_type own) (row_no_struct own) in
    subst (λ (t : Ty). IsOfType t (by_row own c w).value) (sym type) (by_row_type own c w)
role_type built pures worlds cell n r (role.Pure k) c w is same callable =
    let row = pures r.name r.result (types_of r.params) k (sym is.role ∙ same) in
    let test = and_parts (nat_lt k 10) (code r.result == pure_code k) (at_place (λ (s : Signature). role_test s.role s.gives) header_signatures (28 + k) _ all_typed row) in
    subst (λ (t : Ty). IsOfType t (pure cell k c.values)) (sym (decoded_as r.result (pure_code k) is.result_type test.1)) (pure_type cell k c.values (below k 10 test.0))
role_type built pures worlds cell n r role.World c w is same callable =
    let free = worlds r.name r.result (types_of r.params) (sym is.role ∙ same) in
    world_type n r.result c.values is.result_type (or_false (is_barred_type r.result) (list_any is_barred_type (types_of r.params)) free).0
role_type built pures worlds cell n r role.Uncallable c w is same callable = absurd (callable refl)

pub answers_typed : {X : Type 0} → BuiltAsHeader → PureAsHeader → WorldIsCallable → AnswersHaveTypes X
unfolding engine
answers_typed built pures worlds table cell n r c w is there callable =
    subst (λ (o : Option Routine). IsOfType r.result (by_routine cell n o c w).value) (sym there)
    (role_type built pures worlds cell n r r.role c w (routine_at table.routines n r is.routines there) refl callable)
