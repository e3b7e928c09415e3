-- Names of constants, as type words.
use Rattle.std.proofs.Common.{◌≡◌, ℕ, ◌≤◌, Bool, true, false, cond, ◌||◌, List, [], ◌∷◌, length, map, Option, Some, None, is_some, bytes_eq, Bor, refl, ◌∙◌, arith}
use Rattle.nwq_value.specs.declared.engine.Const.{Const}
use Rattle.std.specs.Option.{option_copied}
use Rattle.nwq_value.specs.declared.engine.Routine.{Routine}
use Rattle.nwq_value.specs.Engine.{Constant, constant_named, routine_named}
use Rattle.engine_table.specs.Names.{is_among}

by_test : (b c : Bool) (x : Const) (o : Option Const) → is_some o ≡ c → is_some (cond b (Some x) o) ≡ (b || c)
by_test true c x o e = refl
by_test false c x o e = e

pub named_among : (name : List ℕ) (cs : List Constant) → is_some (constant_named name cs) ≡ is_among name (map (λ c. c.name) cs)
unfolding constant_named
named_among name [] = refl
named_among name (c ∷ cs) = by_test (bytes_eq name c.name) (is_among name (map (λ c. c.name) cs)) c.value (constant_named name cs) (named_among name cs)

lost : {A : Type 0} (o : Option A) → is_some o ≡ false → o ≡ None
lost None e = refl
lost (Some x) e = cc

pub not_among : (name : List ℕ) (cs : List Constant) → is_among name (map (λ c. c.name) cs) ≡ false → constant_named name cs ≡ None
not_among name cs e = lost (constant_named name cs) (named_among name cs ∙ e)

pub no_routines : (name : List ℕ) (rs : List Routine) → rs ≡ [] → routine_named name rs ≡ None
unfolding routine_named
no_routines name [] e = refl
no_routines name (r ∷ rs) e = cc

pub is_some-copied : {A : Type 0} (o : Option (Bor A)) → is_some o ≡ is_some (option_copied o)
is_some-copied None = refl
is_some-copied (Some x) = refl

pub none_named : (name : List ℕ) (rs : List Routine) (count : ℕ) → count ≡ length rs → count ≤ 0 → false ≡ is_some (routine_named name rs)
unfolding routine_named
none_named name [] count is none = refl
none_named name (r ∷ rs) count is none = absurd (omega (arith, is, none))
