-- What becomes of a table's names and facts as it grows. No contract speaks of these lemmas: they
-- serve the proofs here and of the tables that are read of a header.
use Rattle.std.proofs.Common.{◌≡◌, ℕ, zero, suc, ◌+◌, ◌<◌, Bool, true, false, if◌then◌else◌, List, [], ◌∷◌, ◌++◌, length, map, slice_get, Option, None, Some, refl, sym, ap, subst, ◌∙◌, arith, IfSome, Bor}
use Rattle.std.proofs.lemmas.Grind.{common_steps}
use Rattle.std.specs.Cmp.Lexicographic.{nat_list_eq_equiv, bytes_decides}
use Rattle.std.specs.List.{IsDistinct, AllByRecursion}
use Rattle.std.specs.Option.{option_map, option_copied}
use Rattle.std.specs.Str.{bytes_eq}
use Rattle.nwq_value.specs.declared.engine.Const.{Const}
use Rattle.nwq_value.specs.declared.engine.Routine.{Routine}
use Rattle.nwq_value.specs.Engine.{Constant, EngineTable, IsTable, IsConstant, IsRoutine, AreRoutines, AreConstants, AreApart, routine_named, constant_named}

-- ---- a search that finds nothing

parts : {A : Type 0} (b : Bool) (x : A) (rest : Option A) → (if b then Some x else rest) ≡ None
    → (b ≡ false) × (rest ≡ None)
parts true x rest e = cc
parts false x rest e = (refl, e)

later : {A B : Type 0} (f : A → B) (o : Option A) → option_map f o ≡ None → o ≡ None
later f None e = refl
later f (Some x) e = cc

pub routine_cons : (name : List ℕ) (r : Routine) (rs : List Routine)
    → routine_named name (r ∷ rs) ≡ None
    → (bytes_eq name r.name ≡ false) × (routine_named name rs ≡ None)
unfolding routine_named
routine_cons name r rs e = let p = parts (bytes_eq name r.name) 0
    (option_map suc (routine_named name rs)) e in (p.0, later suc (routine_named name rs) p.1)

routine_absent : (name : List ℕ) (r : Routine) (rs : List Routine) → bytes_eq name r.name ≡ false
    → routine_named name rs ≡ None → routine_named name (r ∷ rs) ≡ None
unfolding routine_named
routine_absent name r rs other none = ap
    (λ b. if b then Some 0 else option_map suc (routine_named name rs)) other
    ∙ ap (option_map suc) none

pub constant_cons : (name : List ℕ) (c : Constant) (cs : List Constant)
    → constant_named name (c ∷ cs) ≡ None
    → (bytes_eq name c.name ≡ false) × (constant_named name cs ≡ None)
unfolding constant_named
constant_cons name c cs e = parts (bytes_eq name c.name) c.value (constant_named name cs) e

-- ---- names stay distinct

flipped : (a b : List ℕ) → bytes_eq a b ≡ false → bytes_eq b a ≡ false
flipped a b e = nat_list_eq_equiv.symm b a ∙ e

all_more : {A : Type 0} (P : A → Type 0) (xs : List A) (x : A) → AllByRecursion P xs → P x
    → AllByRecursion P (xs ++ x ∷ [])
all_more P [] x all here = (here, tt)
all_more P (y ∷ ys) x all here = (all.0, all_more P ys x all.1 here)

distinct_more : (names : List (List ℕ)) (name : List ℕ)
    → AllByRecursion (λ y. bytes_eq name y ≡ false) names → IsDistinct bytes_eq names
    → IsDistinct bytes_eq (names ++ name ∷ [])
unfolding IsDistinct
distinct_more [] name others distinct = (tt, tt)
distinct_more (x ∷ xs) name others distinct = (
  all_more (λ y. bytes_eq x y ≡ false) xs name distinct.0 (flipped name x others.0),
  distinct_more xs name others.1 distinct.1,
)

no_routine : (name : List ℕ) (rs : List Routine) → routine_named name rs ≡ None
    → AllByRecursion (λ y. bytes_eq name y ≡ false) (map (λ r. r.name) rs)
no_routine name [] e = tt
no_routine name (r ∷ rs) e = let p = routine_cons name r rs e in (p.0, no_routine name rs p.1)

no_constant : (name : List ℕ) (cs : List Constant) → constant_named name cs ≡ None
    → AllByRecursion (λ y. bytes_eq name y ≡ false) (map (λ c. c.name) cs)
no_constant name [] e = tt
no_constant name (c ∷ cs) e = let p = constant_cons name c cs e in (p.0, no_constant name cs p.1)

-- ---- a routine more

routine_absent_more : (name : List ℕ) (rs : List Routine) (r : Routine)
    → routine_named name rs ≡ None → bytes_eq name r.name ≡ false
    → routine_named name (rs ++ r ∷ []) ≡ None
unfolding routine_named
routine_absent_more name [] r none other = routine_absent name r [] other refl
routine_absent_more name (x ∷ xs) r none other =
    let p = routine_cons name x xs none in routine_absent name x (xs ++ r ∷ []) p.0
    (routine_absent_more name xs r p.1 other)

apart_more : (cs : List Constant) (rs : List Routine) (r : Routine) → AreApart cs rs
    → constant_named r.name cs ≡ None → AreApart cs (rs ++ r ∷ [])
apart_more [] rs r apart none = tt
apart_more (c ∷ cs) rs r apart none =
    let p = constant_cons r.name c cs none in (
      routine_absent_more c.name rs r apart.0 (flipped r.name c.name p.0),
      apart_more cs rs r apart.1 p.1,
    )

apart_new : (cs : List Constant) (rs : List Routine) (c : Constant) → AreApart cs rs
    → routine_named c.name rs ≡ None → AreApart (cs ++ c ∷ []) rs
apart_new [] rs c apart none = (none, tt)
apart_new (x ∷ xs) rs c apart none = (apart.0, apart_new xs rs c apart.1 none)

routines_more : (rs : List Routine) (r : Routine) → AreRoutines rs → IsRoutine r
    → AreRoutines (rs ++ r ∷ [])
routines_more [] r all here = (here, tt)
routines_more (x ∷ xs) r all here = (all.0, routines_more xs r all.1 here)

constants_more : (cs : List Constant) (c : Constant) → AreConstants cs → IsConstant c.value
    → AreConstants (cs ++ c ∷ [])
constants_more [] c all here = (here, tt)
constants_more (x ∷ xs) c all here = (all.0, constants_more xs c all.1 here)

pub names_more : {A : Type 0} (f : A → List ℕ) (xs : List A) (x : A)
    → map f (xs ++ x ∷ []) ≡ map f xs ++ f x ∷ []
names_more f [] x = refl
names_more f (y ∷ ys) x = ap (λ l. f y ∷ l) (names_more f ys x)

pub one_more : {A : Type 0} (xs : List A) (x : A) → length (xs ++ x ∷ []) ≡ length xs + 1
one_more xs x = grind (arith, common_steps)

-- a table with a routine more, and one with a constant more
pub table_pushed : (t : EngineTable) (r : Routine) → IsTable t
    → routine_named r.name t.routines ≡ None → constant_named r.name t.constants ≡ None
    → length t.routines < 65535 → IsRoutine r
    → IsTable (record { routines = t.routines ++ r ∷ []; constants = t.constants })
table_pushed t r kept no_r no_c room here = record {
  few = let e = one_more t.routines r in omega arith;
  routines = routines_more t.routines r kept.routines here;
  constants = kept.constants;
  routine_names =
      rw names_more (distinct_more (map (λ x. x.name) t.routines) r.name
      (no_routine r.name t.routines no_r) kept.routine_names);
  constant_names = kept.constant_names;
  apart = apart_more t.constants t.routines r kept.apart no_c;
}

pub table_defined : (t : EngineTable) (c : Constant) → IsTable t
    → routine_named c.name t.routines ≡ None → constant_named c.name t.constants ≡ None
    → IsConstant c.value → IsTable
    (record { routines = t.routines; constants = t.constants ++ c ∷ [] })
table_defined t c kept no_r no_c here = record {
  few = kept.few;
  routines = kept.routines;
  constants = constants_more t.constants c kept.constants here;
  routine_names = kept.routine_names;
  constant_names =
      rw names_more (distinct_more (map (λ x. x.name) t.constants) c.name
      (no_constant c.name t.constants no_c) kept.constant_names);
  apart = apart_new t.constants t.routines c kept.apart no_r;
}

pub table_empty : IsTable (record { routines = []; constants = [] })
unfolding IsDistinct
table_empty = record {
  few = omega arith;
  routines = tt;
  constants = tt;
  routine_names = tt;
  constant_names = tt;
  apart = tt;
}

-- ---- what a table says of the routine that it gives

all_at : (P : List ℕ → Type 0) (rs : List Routine) (i : ℕ) (r : Routine)
    → AllByRecursion P (map (λ x. x.name) rs) → slice_get rs i ≡ Some r → P r.name
all_at P [] i r all at = cc
all_at P (x ∷ xs) zero r all at = let is : x ≡ r = cc in subst (λ y. P y.name) is all.0
all_at P (x ∷ xs) (suc i) r all at = all_at P xs i r all.1 at

pub routine_number : (rs : List Routine) (i : ℕ) (r : Routine)
    → IsDistinct bytes_eq (map (λ x. x.name) rs) → slice_get rs i ≡ Some r
    → routine_named r.name rs ≡ Some i
unfolding routine_named IsDistinct
routine_number [] i r distinct at = cc
routine_number (x ∷ xs) zero r distinct at =
    let is : x ≡ r = cc in
    let same : bytes_eq r.name x.name
    ≡ true = subst (λ y. bytes_eq r.name y.name ≡ true) (sym is)
    (nat_list_eq_equiv.refl r.name) in
    ap (λ b. if b then Some 0 else option_map suc (routine_named r.name xs)) same
routine_number (x ∷ xs) (suc i) r distinct at =
    let other = flipped x.name r.name
    (all_at (λ y. bytes_eq x.name y ≡ false) xs i r distinct.0 at) in
    ap (λ b. if b then Some 0 else option_map suc (routine_named r.name xs)) other
    ∙ ap (option_map suc) (routine_number xs i r distinct.1 at)

pub routine_kept : (rs : List Routine) (i : ℕ) (r : Routine) → AreRoutines rs
    → slice_get rs i ≡ Some r → IsRoutine r
routine_kept [] i r all at = cc
routine_kept (x ∷ xs) zero r all at = let is : x ≡ r = cc in subst IsRoutine is all.0
routine_kept (x ∷ xs) (suc i) r all at = routine_kept xs i r all.1 at

within : (b : Bool) (o : Option ℕ) (n len : ℕ) → (if b then Some 0 else option_map suc o) ≡ Some n
    → ((k : ℕ) → o ≡ Some k → k < len) → n < suc len
within true o n len e rest = let is : 0 ≡ n = cc in omega arith
within false None n len e rest = cc
within false (Some k) n len e rest = let is : suc k ≡ n = cc in omega (arith, rest k refl)

pub routine_within : (name : List ℕ) (rs : List Routine) (n : ℕ) → routine_named name rs ≡ Some n
    → n < length rs
unfolding routine_named
routine_within name [] n e = cc
routine_within name (r ∷ rs) n e = within (bytes_eq name r.name) (routine_named name rs) n
    (length rs) e (routine_within name rs)

pub constant_apart : (name : List ℕ) (cs : List Constant) (rs : List Routine) (c : Const)
    → AreApart cs rs → constant_named name cs ≡ Some c → routine_named name rs ≡ None
unfolding constant_named
constant_apart name [] rs c apart e = cc
constant_apart name (x ∷ xs) rs c apart e = by (bytes_eq name x.name) refl e
    (constant_apart name xs rs c apart.1)
  where
    by : (b : Bool) → bytes_eq name x.name ≡ b
        → (if b then Some x.value else constant_named name xs) ≡ Some c
        → (constant_named name xs ≡ Some c → routine_named name rs ≡ None)
        → routine_named name rs ≡ None
    by true is e rest = subst (λ n. routine_named n rs ≡ None)
        (sym ((bytes_decides name x.name).0 is)) apart.0
    by false is e rest = rest e

-- a lent constant has no routine's name
pub lent_apart : (o : Option (Bor Const)) (name : List ℕ) (t : EngineTable) → IsTable t
    → option_copied o ≡ constant_named name t.constants
    → IfSome o (λ c. routine_named name t.routines ≡ None)
lent_apart None name t kept is = tt
lent_apart (Some c) name t kept is = constant_apart name t.constants t.routines c.now kept.apart
    (sym is)
