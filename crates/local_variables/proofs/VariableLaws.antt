-- Variables by type and name: one at most of each, and what becomes of that as they are put and
-- taken out.
use Rattle.std.proofs.Common.{◌≡◌, ℕ, Bool, true, false, cond, not, ◌||◌, List, [], ◌∷◌, ◌++◌, filter, is_some, Option, None, Some, refl, sym, ap, ◌∙◌}
use Rattle.std.specs.List.{list_any, IsDistinct, AllByRecursion}
use Rattle.std.specs.Cmp.{IsEquivalence}
use Rattle.std.proofs.lemmas.Cmp.{nat_list_eq_equiv}
use Rattle.local_variables.specs.Variables.{Variable, IntVar, TextVar, is_int, is_text, same_variable, matching, put}
use Rattle.local_variables.specs.Laws.{PutIsFound, DroppedIsGone, PutIsThere}

same_refl : (v : Variable) → same_variable v v ≡ true
same_refl (IntVar name n) = nat_list_eq_equiv.refl name
same_refl (TextVar name text) = nat_list_eq_equiv.refl name

same_symm : (v w : Variable) → same_variable v w ≡ same_variable w v
same_symm (IntVar name n) (IntVar other m) = nat_list_eq_equiv.symm name other
same_symm (IntVar name n) (TextVar other text) = refl
same_symm (TextVar name text) (IntVar other m) = refl
same_symm (TextVar name text) (TextVar other more) = nat_list_eq_equiv.symm name other

same_congr : (v w x : Variable) → same_variable v w ≡ true → same_variable v x ≡ same_variable w x
same_congr (IntVar name n) (IntVar other m) (IntVar last k) e = nat_list_eq_equiv.congr name other last e
same_congr (IntVar name n) (IntVar other m) (TextVar last text) e = refl
same_congr (IntVar name n) (TextVar other text) x e = absurd cc
same_congr (TextVar name text) (IntVar other m) x e = absurd cc
same_congr (TextVar name text) (TextVar other more) (IntVar last k) e = refl
same_congr (TextVar name text) (TextVar other more) (TextVar last end) e = nat_list_eq_equiv.congr name other last e

pub same_equiv : IsEquivalence same_variable
same_equiv = record { refl = same_refl; symm = same_symm; congr = same_congr }

pub apart : (a b : Bool) → (a || b) ≡ false → (a ≡ false) × (b ≡ false)
apart true b e = absurd cc
apart false b e = (refl, e)

-- ---- a variable that is put

one_put : (P : Variable → Type 0) (v w : Variable) (b : Bool) (vars rest : List Variable) → P v → P w → AllByRecursion P vars → AllByRecursion P rest → AllByRecursion P (cond b (v ∷ vars) (w ∷ rest))
one_put P v w true vars rest new here all done = (new, all)
one_put P v w false vars rest new here all done = (here, done)

pub all_put : (P : Variable → Type 0) (v : Variable) (vars : List Variable) → AllByRecursion P vars → P v → AllByRecursion P (put v vars)
all_put P v [] all new = (new, tt)
all_put P v (w ∷ vars) all new = one_put P v w (same_variable v w) vars (put v vars) new all.0 all.1 (all_put P v vars all.1 new)

like_old : (v w : Variable) (vars : List Variable) → same_variable v w ≡ true → AllByRecursion (λ y. same_variable w y ≡ false) vars → AllByRecursion (λ y. same_variable v y ≡ false) vars
like_old v w [] is all = tt
like_old v w (x ∷ vars) is all = (same_congr v w x is ∙ all.0, like_old v w vars is all.1)

apart_put : (v w : Variable) (b : Bool) (vars : List Variable) → same_variable v w ≡ b
    → AllByRecursion (λ y. same_variable w y ≡ false) vars → b ≡ false
    → AllByRecursion (λ y. same_variable w y ≡ false) (put v vars)
apart_put v w b vars is all none = all_put (λ y. same_variable w y ≡ false) v vars all (same_symm w v ∙ (is ∙ none))

pub put_distinct : (v : Variable) (vars : List Variable) → IsDistinct same_variable vars → IsDistinct same_variable (put v vars)
unfolding IsDistinct
put_distinct v [] d = (tt, tt)
put_distinct v (w ∷ vars) d = by_test (same_variable v w) refl (put_distinct v vars d.1)
  where
    by_test : (b : Bool) → same_variable v w ≡ b → IsDistinct same_variable (put v vars) → IsDistinct same_variable (cond b (v ∷ vars) (w ∷ put v vars))
    by_test true is done = (like_old v w vars is d.0, d.1)
    by_test false is done = (apart_put v w false vars is d.0 refl, done)

-- a variable that isn't there is put last
pub put_last : (v : Variable) (vars : List Variable) → list_any (same_variable v) vars ≡ false → put v vars ≡ vars ++ v ∷ []
put_last v [] none = refl
put_last v (w ∷ vars) none = let parts = apart (same_variable v w) (list_any (same_variable v) vars) none in rw parts.0 (ap (λ (vs : List Variable). w ∷ vs) (put_last v vars parts.1))

-- ---- variables that are taken out

one_kept : (P : Variable → Type 0) (b : Bool) (v : Variable) (rest : List Variable) → P v → AllByRecursion P rest → AllByRecursion P (cond b (v ∷ rest) rest)
one_kept P true v rest here done = (here, done)
one_kept P false v rest here done = done

pub all_kept : (P : Variable → Type 0) (test : Variable → Bool) (vars : List Variable) → AllByRecursion P vars → AllByRecursion P (filter test vars)
all_kept P test [] all = tt
all_kept P test (v ∷ vars) all = one_kept P (test v) v (filter test vars) all.0 (all_kept P test vars all.1)

distinct_kept_at : (b : Bool) (v : Variable) (rest : List Variable)
    → AllByRecursion (λ y. same_variable v y ≡ false) rest → IsDistinct same_variable rest
    → IsDistinct same_variable (cond b (v ∷ rest) rest)
unfolding IsDistinct
distinct_kept_at true v rest all done = (all, done)
distinct_kept_at false v rest all done = done

pub filter_distinct : (test : Variable → Bool) (vars : List Variable) → IsDistinct same_variable vars → IsDistinct same_variable (filter test vars)
unfolding IsDistinct
filter_distinct test [] d = tt
filter_distinct test (v ∷ vars) d = distinct_kept_at (test v) v (filter test vars) (all_kept (λ y. same_variable v y ≡ false) test vars d.0) (filter_distinct test vars d.1)

-- the list without the first variable that passes a test
abbrev pub without_first : (Variable → Bool) → List Variable → List Variable
without_first test [] = []
without_first test (v ∷ vars) = cond (test v) vars (v ∷ without_first test vars)

all_pass : (test : Variable → Bool) (vars : List Variable) → AllByRecursion (λ y. test y ≡ false) vars → filter (λ v. not (test v)) vars ≡ vars
all_pass test [] all = refl
all_pass test (v ∷ vars) all = rw all.0 (ap (λ (vs : List Variable). v ∷ vs) (all_pass test vars all.1))

like_test : (test : Variable → Bool) (w : Variable) (vars : List Variable)
    → ((y : Variable) → same_variable w y ≡ test y) → AllByRecursion (λ y. same_variable w y ≡ false) vars
    → AllByRecursion (λ y. test y ≡ false) vars
like_test test w [] like all = tt
like_test test w (x ∷ vars) like all = (sym (like x) ∙ all.0, like_test test w vars like all.1)

-- where a test asks for a type and name, one variable at most passes
pub filter_without : (test : Variable → Bool) (vars : List Variable) → ((w y : Variable) → test w ≡ true → same_variable w y ≡ test y) → IsDistinct same_variable vars →
    without_first test vars ≡ filter (λ v. not (test v)) vars
unfolding IsDistinct
filter_without test [] like d = refl
filter_without test (v ∷ vars) like d = by_test (test v) refl (filter_without test vars like d.1)
  where
    by_test : (b : Bool) → test v ≡ b → without_first test vars ≡ filter (λ w. not (test w)) vars
        → cond b vars (v ∷ without_first test vars)
        ≡ cond (not b) (v ∷ filter (λ w. not (test w)) vars) (filter (λ w. not (test w)) vars)
    by_test true is more = sym (all_pass test vars (like_test test v vars (λ y. like v y is) d.0))
    by_test false is more = ap (λ (vs : List Variable). v ∷ vs) more

pub int_like : (name : List ℕ) (w y : Variable) → is_int name w ≡ true → same_variable w y ≡ is_int name y
int_like name (IntVar other n) (IntVar last m) e = sym (nat_list_eq_equiv.congr name other last e)
int_like name (IntVar other n) (TextVar last text) e = refl
int_like name (TextVar other text) y e = absurd cc

pub text_like : (name : List ℕ) (w y : Variable) → is_text name w ≡ true → same_variable w y ≡ is_text name y
text_like name (TextVar other n) (TextVar last m) e = sym (nat_list_eq_equiv.congr name other last e)
text_like name (TextVar other n) (IntVar last text) e = refl
text_like name (IntVar other text) y e = absurd cc

-- ---- what is found after a change

first_same : (x v w : Variable) (b c d : Bool) (rest : Option Variable) → same_variable v w ≡ b → same_variable x v ≡ c → same_variable x w ≡ d → b ≡ true →
    cond c (Some v) rest ≡ cond c (Some v) (cond d (Some w) rest)
first_same x v w b true d rest is here there given = refl
first_same x v w b false true rest is here there given =
    let turned : same_variable v x ≡ same_variable w x = same_congr v w x (is ∙ given) in
    let other : true ≡ false = sym there ∙ (same_symm x w ∙ (sym turned ∙ (same_symm v x ∙ here))) in
    absurd cc
first_same x v w b false false rest is here there given = refl

first_other : (x v w : Variable) (b c d : Bool) (rest : Option Variable) → same_variable v w ≡ b → same_variable x v ≡ c → same_variable x w ≡ d → b ≡ false →
    cond d (Some w) (cond c (Some v) rest) ≡ cond c (Some v) (cond d (Some w) rest)
first_other x v w b true true rest is here there none =
    let joined : same_variable v w ≡ true = sym (same_congr x v w here) ∙ there in
    let other : true ≡ false = sym joined ∙ (is ∙ none) in
    absurd cc
first_other x v w b true false rest is here there none = refl
first_other x v w b false true rest is here there none = refl
first_other x v w b false false rest is here there none = refl

pub matching_put : (x v : Variable) (vars : List Variable) → matching x (put v vars) ≡ cond (same_variable x v) (Some v) (matching x vars)
matching_put x v [] = refl
matching_put x v (w ∷ vars) = by_test (same_variable v w) refl (matching_put x v vars)
  where
    by_test : (b : Bool) → same_variable v w ≡ b → matching x (put v vars) ≡ cond (same_variable x v) (Some v) (matching x vars) →
        matching x (cond b (v ∷ vars) (w ∷ put v vars)) ≡ cond (same_variable x v) (Some v) (cond (same_variable x w) (Some w) (matching x vars))
    by_test true is more = first_same x v w true (same_variable x v) (same_variable x w) (matching x vars) is refl refl refl
    by_test false is more =
        ap (cond (same_variable x w) (Some w)) more
        ∙ first_other x v w false (same_variable x v) (same_variable x w) (matching x vars) is refl refl refl

pub put_is_there : PutIsThere
put_is_there v x vars = any_matching (put v vars) ∙ (ap is_some (matching_put x v vars) ∙ (by_test (same_variable x v) ∙ ap (λ (b : Bool). same_variable x v || b) (sym (any_matching vars))))
  where
    one : (b : Bool) (w : Variable) (rest : Option Variable) → (b || is_some rest) ≡ is_some (cond b (Some w) rest)
    one true w rest = refl
    one false w rest = refl

    any_matching : (ws : List Variable) → list_any (same_variable x) ws ≡ is_some (matching x ws)
    any_matching [] = refl
    any_matching (w ∷ ws) = ap (λ (b : Bool). same_variable x w || b) (any_matching ws) ∙ one (same_variable x w) w (matching x ws)

    by_test : (b : Bool) → is_some (cond b (Some v) (matching x vars)) ≡ (b || is_some (matching x vars))
    by_test true = refl
    by_test false = refl

pub put_is_found : PutIsFound
put_is_found v w vars = matching_put w v vars

pub dropped_is_gone : DroppedIsGone
dropped_is_gone v w [] = by_test (same_variable w v)
  where
    nothing : Option Variable
    nothing = None

    by_test : (b : Bool) → nothing ≡ cond b nothing nothing
    by_test true = refl
    by_test false = refl
dropped_is_gone v w (x ∷ vars) = by_test (same_variable v x) refl (same_variable w v) refl (same_variable w x) refl (dropped_is_gone v w vars)
  where
    by_test : (b : Bool) → same_variable v x ≡ b → (c : Bool) → same_variable w v ≡ c → (d : Bool) → same_variable w x ≡ d →
        matching w (filter (λ y. not (same_variable v y)) vars) ≡ cond c None (matching w vars) →
        matching w (cond (not b) (x ∷ filter (λ y. not (same_variable v y)) vars) (filter (λ y. not (same_variable v y)) vars)) ≡ cond c None (cond d (Some x) (matching w vars))
    by_test true here true there d at more = more
    by_test true here false there true at more =
        let e : false ≡ true = sym there ∙ (same_equiv.symm w v ∙ (same_equiv.congr v x w here ∙ (same_equiv.symm x w ∙ at))) in
        absurd cc
    by_test true here false there false at more = more
    by_test false here true there true at more =
        let e : false ≡ true = sym here ∙ (sym (same_equiv.congr w v x there) ∙ at) in
        absurd cc
    by_test false here true there false at more = rw at more
    by_test false here false there true at more = rw at refl
    by_test false here false there false at more = rw at more
