-- What a table's index of names tells of its routines and constants, as these grow.
use Rattle.std.proofs.Common.{◌≡◌, ◌∙◌, ℕ, suc, Bool, true, false, if◌then◌else◌, ◌<◌, ◌≤◌, ◌+◌, List, [], ◌∷◌, ◌++◌, length, map, slice_get, Option, None, Some, Result, Ok, Err, OnOk, OnErr, IfSome, Bor, refl, sym, ap, subst, arith}
use Rattle.std.specs.Bool.{nat_eq}
use Rattle.std.specs.Cmp.Lexicographic.{bytes_decides}
use Rattle.std.specs.List.{IsDistinct}
use Rattle.std.specs.Map.{lookup, values_of}
use Rattle.std.specs.Option.{option_map, option_and_then, option_copied}
use Rattle.std.specs.Str.{bytes_eq}
use Rattle.nwq_value.specs.declared.engine.Routine.{Routine}
use Rattle.nwq_value.specs.declared.table.Named.{Named}
use Rattle.nwq_value.specs.Engine.{Constant, IsTable, IsConstant, IsRoutine, AreRoutines, routine_named, constant_named}
use Rattle.nwq_value.specs.Entries.{constant_in, constants_in, constant_under, routine_under, table_of, AreFound}
use Rattle.nwq_value.specs.Index.{number_under, IsSame, Puts}
use Rattle.nwq_value.proofs.KeyLemmas.{differ, equal, lookup_other, lookup_new, no_place, position_other, position_new, values_more, as_many}
use Rattle.nwq_value.specs.TableLemmas.{one_more, routine_cons, constant_cons, table_pushed, table_defined, routine_kept, routine_number}

-- ---- a name more

routine_more : (x : List ℕ) (rs : List Routine) (r : Routine) → routine_named r.name rs ≡ None
    → routine_named x (rs ++ r ∷ []) ≡ (if bytes_eq x r.name then Some (length rs) else routine_named x rs)
unfolding routine_named
routine_more x [] r none = refl
routine_more x (y ∷ ys) r none =
    let apart = routine_cons r.name y ys none in
    ap (λ o. if bytes_eq x y.name then Some 0 else option_map suc o) (routine_more x ys r apart.1)
    ∙ by (bytes_eq x r.name) (bytes_eq x y.name) (λ is. ap (λ k. bytes_eq k y.name) ((bytes_decides x r.name).0 is) ∙ apart.0)
  where
    by : (b other : Bool) → (b ≡ true → other ≡ false)
        → (if other then Some 0 else option_map suc (if b then Some (length ys) else routine_named x ys))
        ≡ (if b then Some (suc (length ys)) else (if other then Some 0 else option_map suc (routine_named x ys)))
    by true true e = let no = e refl in cc
    by true false e = refl
    by false other e = refl

constant_more : (x : List ℕ) (cs : List Constant) (c : Constant) → constant_named c.name cs ≡ None
    → constant_named x (cs ++ c ∷ []) ≡ (if bytes_eq x c.name then Some c.value else constant_named x cs)
unfolding constant_named
constant_more x [] c none = refl
constant_more x (y ∷ ys) c none =
    let apart = constant_cons c.name y ys none in
    ap (λ o. if bytes_eq x y.name then Some y.value else o) (constant_more x ys c apart.1)
    ∙ by (bytes_eq x c.name) (bytes_eq x y.name) (λ is. ap (λ k. bytes_eq k y.name) ((bytes_decides x c.name).0 is) ∙ apart.0)
  where
    by : (b other : Bool) → (b ≡ true → other ≡ false)
        → (if other then Some y.value else (if b then Some c.value else constant_named x ys))
        ≡ (if b then Some c.value else (if other then Some y.value else constant_named x ys))
    by true true e = let no = e refl in cc
    by true false e = refl
    by false other e = refl

-- an answer for each name, where the new name's stays
same_answer : {A : Type 0} (answer : List ℕ → Option A) (x own : List ℕ) (a : Option A) → answer own ≡ a → answer x ≡ (if bytes_eq x own then a else answer x)
same_answer answer x own a is = by (bytes_eq x own) refl
  where
    by : (b : Bool) → bytes_eq x own ≡ b → answer x ≡ (if b then a else answer x)
    by true e = ap answer ((bytes_decides x own).0 e) ∙ is
    by false e = refl

module _ (own : List ℕ) (m : ℕ) (names new : List (List ℕ × ℕ)) (puts : Puts own (Some m) names new)
    (below : (x : List ℕ) (n : ℕ) → number_under x names ≡ Some n → n < m) where
  told_more : {A : Type 0} (look after : ℕ → Option A) (answer now : List ℕ → Option A) → ((x : List ℕ) → option_and_then look (number_under x names) ≡ answer x)
      → ((n : ℕ) → n < m → after n ≡ look n) → ((x : List ℕ) → now x ≡ (if bytes_eq x own then after m else answer x))
      → (x : List ℕ) → option_and_then after (number_under x new) ≡ now x
  told_more {A} look after answer now told stays more x =
      ap (option_and_then after) (puts x) ∙ by (bytes_eq x own) (number_under x names) (below x) (told x) ∙ sym (more x)
    where
      by : (b : Bool) (o : Option ℕ) → ((n : ℕ) → o ≡ Some n → n < m) → option_and_then look o ≡ answer x
          → option_and_then after (if b then Some m else o) ≡ (if b then after m else answer x)
      by true o less is = refl
      by false None less is = is
      by false (Some n) less is = stays n (less n refl) ∙ is

  below_more : (x : List ℕ) (n : ℕ) → number_under x new ≡ Some n → n < suc m
  below_more x n e = by (bytes_eq x own) (number_under x names) (below x) (sym (puts x) ∙ e)
    where
      by : (b : Bool) (o : Option ℕ) → ((k : ℕ) → o ≡ Some k → k < m) → (if b then Some m else o) ≡ Some n → n < suc m
      by true o less is = let same : m ≡ n = cc in omega (arith, same)
      by false o less is = omega (arith, less n is)

  used_more : {A : Type 0} (x : List ℕ) (a : A) (o : Option A) → (if bytes_eq x own then Some a else o) ≡ None → (o ≡ None → number_under x names ≡ None)
      → number_under x new ≡ None
  used_more {A} x a o e later = puts x ∙ by (bytes_eq x own) e
    where
      by : (b : Bool) → (if b then Some a else o) ≡ None → (if b then Some m else number_under x names) ≡ None
      by true is = cc
      by false is = later is

-- ---- entries under the numbers

stays_apart : (n m : ℕ) → n < m → nat_eq n m ≡ false
stays_apart n m less = differ n m (λ is. omega (arith, is, less))

later_apart : (n m : ℕ) → suc m ≤ n → nat_eq n m ≡ false
later_apart n m more = differ n m (λ is. omega (arith, is, more))

routines_named : (x : List ℕ) (rs : List (ℕ × Routine)) (m : ℕ) (r : Routine) → routine_named r.name (values_of rs) ≡ None → lookup (nat_eq m) rs ≡ None
    → routine_named x (values_of (rs ++ (m, r) ∷ [])) ≡ (if bytes_eq x r.name then routine_under (rs ++ (m, r) ∷ []) m else routine_named x (values_of rs))
routines_named x rs m r none free =
    ap (routine_named x) (values_more rs m r) ∙ routine_more x (values_of rs) r none
    ∙ ap (λ n. if bytes_eq x r.name then Some n else routine_named x (values_of rs)) (as_many rs)
    ∙ ap (λ o. if bytes_eq x r.name then o else routine_named x (values_of rs)) (sym (position_new (nat_eq m) rs m r (equal m) free))

mapped_more : (cs : List Named) (c : Named) → map constant_in (cs ++ c ∷ []) ≡ map constant_in cs ++ constant_in c ∷ []
mapped_more [] c = refl
mapped_more (x ∷ xs) c = ap (λ l. constant_in x ∷ l) (mapped_more xs c)

pub constants_more : (cs : List (ℕ × Named)) (m : ℕ) (c : Named) → constants_in (cs ++ (m, c) ∷ []) ≡ constants_in cs ++ constant_in c ∷ []
constants_more cs m c = ap (map constant_in) (values_more cs m c) ∙ mapped_more (values_of cs) c

constants_named : (x : List ℕ) (cs : List (ℕ × Named)) (m : ℕ) (c : Named) → constant_named c.name (constants_in cs) ≡ None → lookup (nat_eq m) cs ≡ None
    → constant_named x (constants_in (cs ++ (m, c) ∷ [])) ≡ (if bytes_eq x c.name then constant_under (cs ++ (m, c) ∷ []) m else constant_named x (constants_in cs))
constants_named x cs m c none free =
    ap (constant_named x) (constants_more cs m c) ∙ constant_more x (constants_in cs) (constant_in c) none
    ∙ ap (λ o. if bytes_eq x c.name then option_map (λ (n : Named). n.value) o else constant_named x (constants_in cs)) (sym (lookup_new (nat_eq m) cs m c (equal m) free))

-- ---- what the index tells

pub found_pushed : (names new : List (List ℕ × ℕ)) (rs : List (ℕ × Routine)) (cs : List (ℕ × Named)) (r : Routine) → AreFound names rs cs
    → routine_named r.name (values_of rs) ≡ None → constant_named r.name (constants_in cs) ≡ None → Puts r.name (Some (length rs + length cs)) names new
    → AreFound new (rs ++ (length rs + length cs, r) ∷ []) cs
found_pushed names new rs cs r found no_r no_c puts =
    let m = length rs + length cs in
    let many = one_more rs (m, r) in
    let free = found.free_routine m (omega arith) in
    let value : constant_named r.name (constants_in cs) ≡ constant_under cs m = no_c ∙ sym (ap (option_map (λ (c : Named). c.value)) (found.free_constant m (omega arith))) in record {
      routine = told_more r.name m names new puts found.below (routine_under rs) (routine_under (rs ++ (m, r) ∷ [])) (λ x. routine_named x (values_of rs))
          (λ x. routine_named x (values_of (rs ++ (m, r) ∷ []))) found.routine
          (λ n less. position_other (nat_eq n) rs m r (stays_apart n m less)) (λ x. routines_named x rs m r no_r free);
      constant = told_more r.name m names new puts found.below (constant_under cs) (constant_under cs) (λ x. constant_named x (constants_in cs))
          (λ x. constant_named x (constants_in cs)) found.constant
          (λ n less. refl) (λ x. same_answer (λ y. constant_named y (constants_in cs)) x r.name (constant_under cs m) value);
      used = λ x none missing. used_more r.name m names new puts found.below x (length (values_of rs)) (routine_named x (values_of rs))
          (sym (ap (routine_named x) (values_more rs m r) ∙ routine_more x (values_of rs) r no_r) ∙ none) (λ o. found.used x o missing);
      below = λ x n e. let less = below_more r.name m names new puts found.below x n e in omega (arith, less, many);
      free_routine = λ n more. let over : suc m ≤ n = omega (arith, more, many) in
          lookup_other (nat_eq n) rs m r (later_apart n m over) ∙ found.free_routine n (omega (arith, over));
      free_constant = λ n more. found.free_constant n (omega (arith, more, many));
    }

pub found_defined : (names new : List (List ℕ × ℕ)) (rs : List (ℕ × Routine)) (cs : List (ℕ × Named)) (c : Named) → AreFound names rs cs
    → routine_named c.name (values_of rs) ≡ None → constant_named c.name (constants_in cs) ≡ None → Puts c.name (Some (length rs + length cs)) names new
    → AreFound new rs (cs ++ (length rs + length cs, c) ∷ [])
found_defined names new rs cs c found no_r no_c puts =
    let m = length rs + length cs in
    let many = one_more cs (m, c) in
    let free = found.free_constant m (omega arith) in
    let place : routine_named c.name (values_of rs) ≡ routine_under rs m = no_r ∙ sym (no_place (nat_eq m) rs (found.free_routine m (omega arith))) in record {
      routine = told_more c.name m names new puts found.below (routine_under rs) (routine_under rs) (λ x. routine_named x (values_of rs))
          (λ x. routine_named x (values_of rs)) found.routine
          (λ n less. refl) (λ x. same_answer (λ y. routine_named y (values_of rs)) x c.name (routine_under rs m) place);
      constant = told_more c.name m names new puts found.below (constant_under cs) (constant_under (cs ++ (m, c) ∷ [])) (λ x. constant_named x (constants_in cs))
          (λ x. constant_named x (constants_in (cs ++ (m, c) ∷ []))) found.constant
          (λ n less. ap (option_map (λ (k : Named). k.value)) (lookup_other (nat_eq n) cs m c (stays_apart n m less))) (λ x. constants_named x cs m c no_c free);
      used = λ x none missing. used_more c.name m names new puts found.below x c.value (constant_named x (constants_in cs))
          (sym (ap (constant_named x) (constants_more cs m c) ∙ constant_more x (constants_in cs) (constant_in c) no_c) ∙ missing) (λ o. found.used x none o);
      below = λ x n e. let less = below_more c.name m names new puts found.below x n e in omega (arith, less, many);
      free_routine = λ n more. found.free_routine n (omega (arith, more, many));
      free_constant = λ n more. let over : suc m ≤ n = omega (arith, more, many) in
          lookup_other (nat_eq n) cs m c (later_apart n m over) ∙ found.free_constant n (omega (arith, over));
    }

pub found_nothing : AreFound [] [] []
unfolding routine_named constant_named
found_nothing = record {
  routine = λ x. refl;
  constant = λ x. refl;
  used = λ x none missing. refl;
  below = λ x n e. cc;
  free_routine = λ n more. refl;
  free_constant = λ n more. refl;
}

-- ---- after a push, whether it found memory

same_found : (names new : List (List ℕ × ℕ)) (rs : List (ℕ × Routine)) (cs : List (ℕ × Named)) → IsSame names new → AreFound names rs cs → AreFound new rs cs
same_found names new rs cs same found = record {
  routine = λ x. ap (option_and_then (routine_under rs)) (same x) ∙ found.routine x;
  constant = λ x. ap (option_and_then (constant_under cs)) (same x) ∙ found.constant x;
  used = λ x none missing. same x ∙ found.used x none missing;
  below = λ x n e. found.below x n (sym (same x) ∙ e);
  free_routine = found.free_routine;
  free_constant = found.free_constant;
}

pub kept_pushed : {A B : Type 0} (o : Result A B) (m : ℕ) (rs after : List (ℕ × Routine)) (cs : List (ℕ × Named)) (r : Routine) (names new : List (List ℕ × ℕ))
    → m ≡ length rs + length cs → AreFound names rs cs × IsTable (table_of rs cs) → routine_named r.name (values_of rs) ≡ None → constant_named r.name (constants_in cs) ≡ None
    → length (values_of rs) < 65535 → IsRoutine r → OnOk o (after ≡ rs ++ (m, r) ∷ [])
    → OnOk o (Puts r.name (Some m) names new) → OnErr o (after ≡ rs) → OnErr o (IsSame names new)
    → AreFound new after cs × IsTable (table_of after cs)
kept_pushed (Ok x) m rs after cs r names new count kept no_r no_c room here entries puts old same = (
  subst (λ l. AreFound new l cs) (sym (entries ∙ ap (λ k. rs ++ (k, r) ∷ []) count))
      (found_pushed names new rs cs r kept.0 no_r no_c (subst (λ k. Puts r.name (Some k) names new) count puts)),
  subst (λ l. IsTable (record { routines = l; constants = constants_in cs })) (sym (ap values_of entries ∙ values_more rs m r))
      (table_pushed (table_of rs cs) r kept.1 no_r no_c room here),
)
kept_pushed (Err e) m rs after cs r names new count kept no_r no_c room here entries puts old same = (
  subst (λ l. AreFound new l cs) (sym old) (same_found names new rs cs same kept.0),
  subst (λ l. IsTable (table_of l cs)) (sym old) kept.1,
)

pub kept_defined : {A B : Type 0} (o : Result A B) (m : ℕ) (rs : List (ℕ × Routine)) (cs after : List (ℕ × Named)) (c : Named) (names new : List (List ℕ × ℕ))
    → m ≡ length rs + length cs → AreFound names rs cs × IsTable (table_of rs cs) → routine_named c.name (values_of rs) ≡ None → constant_named c.name (constants_in cs) ≡ None
    → IsConstant c.value → OnOk o (after ≡ cs ++ (m, c) ∷ []) → OnOk o (Puts c.name (Some m) names new)
    → OnErr o (after ≡ cs) → OnErr o (IsSame names new) → AreFound new rs after × IsTable (table_of rs after)
kept_defined (Ok x) m rs cs after c names new count kept no_r no_c here entries puts old same = (
  subst (AreFound new rs) (sym (entries ∙ ap (λ k. cs ++ (k, c) ∷ []) count))
      (found_defined names new rs cs c kept.0 no_r no_c (subst (λ k. Puts c.name (Some k) names new) count puts)),
  subst (λ l. IsTable (record { routines = values_of rs; constants = l })) (sym (ap constants_in entries ∙ constants_more cs m c))
      (table_defined (table_of rs cs) (constant_in c) kept.1 no_r no_c here),
)
kept_defined (Err e) m rs cs after c names new count kept no_r no_c here entries puts old same = (
  subst (AreFound new rs) (sym old) (same_found names new rs cs same kept.0),
  subst (λ l. IsTable (table_of rs l)) (sym old) kept.1,
)

-- ---- a routine that is lent

pub lent_kept : (o : Option (Bor Routine)) (i : ℕ) (rs : List Routine) → AreRoutines rs → option_copied o ≡ slice_get rs i → IfSome o (λ r. IsRoutine r.now)
lent_kept None i rs all is = tt
lent_kept (Some r) i rs all is = routine_kept rs i r.now all (sym is)

pub lent_number : (o : Option (Bor Routine)) (i : ℕ) (rs : List Routine) → IsDistinct bytes_eq (map (λ r. r.name) rs) → option_copied o ≡ slice_get rs i
    → IfSome o (λ r. routine_named r.now.name rs ≡ Some i)
lent_number None i rs distinct is = tt
lent_number (Some r) i rs distinct is = routine_number rs i r.now distinct (sym is)
