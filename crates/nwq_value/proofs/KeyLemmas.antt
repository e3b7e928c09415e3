-- Entries under numbers, as one more comes last.
use Rattle.std.proofs.Common.{◌≡◌, ◌∙◌, ℕ, suc, ◌+◌, Bool, true, false, cond, if◌then◌else◌, List, [], ◌∷◌, ◌++◌, length, position, Option, None, Some, not, ◌<◌, refl, sym, ap, arith}
use Rattle.std.proofs.lemmas.Bool.Decides.{Decides-eqb, Decides-like, Decides-ltb, same_from_decides}
use Rattle.std.specs.Bool.{nat_eq, nat_lt}
use Rattle.std.specs.List.{position_or_len}
use Rattle.std.specs.Map.{keys_of, lookup, values_of}
use Rattle.std.specs.Option.{option_map}

pub differ : (a b : ℕ) → (a ≡ b → ⊥) → nat_eq a b ≡ false
differ a b other = by (nat_eq a b) refl
  where
    by : (c : Bool) → nat_eq a b ≡ c → c ≡ false
    by true is = absurd (other ((Decides-eqb a b).0 is))
    by false is = refl

pub equal : (a : ℕ) → nat_eq a a ≡ true
equal a = (Decides-eqb a a).1 refl

-- ---- what stands under a number

missed : {A : Type 0} (b : Bool) (x : A) (rest : Option A) → cond b (Some x) rest ≡ None → (b ≡ false) × (rest ≡ None)
missed true x rest e = cc
missed false x rest e = (refl, e)

pub lookup_other : {V : Type 0} (test : ℕ → Bool) (es : List (ℕ × V)) (k : ℕ) (v : V) → test k ≡ false → lookup test (es ++ (k, v) ∷ []) ≡ lookup test es
lookup_other test [] k v other = ap (λ b. cond b (Some v) None) other
lookup_other test (e ∷ es) k v other = ap (cond (test e.0) (Some e.1)) (lookup_other test es k v other)

pub lookup_new : {V : Type 0} (test : ℕ → Bool) (es : List (ℕ × V)) (k : ℕ) (v : V) → test k ≡ true → lookup test es ≡ None → lookup test (es ++ (k, v) ∷ []) ≡ Some v
lookup_new test [] k v here none = ap (λ b. cond b (Some v) None) here
lookup_new test (e ∷ es) k v here none =
    let apart = missed (test e.0) e.1 (lookup test es) none in
    ap (λ b. cond b (Some e.1) (lookup test (es ++ (k, v) ∷ []))) apart.0 ∙ lookup_new test es k v here apart.1

-- ---- where it stands

suc_less : (a b : ℕ) → nat_lt (suc a) (suc b) ≡ nat_lt a b
suc_less a b =
    same_from_decides {P = a < b} (nat_lt (suc a) (suc b)) (nat_lt a b)
    (Decides-like (nat_lt (suc a) (suc b)) (λ h. omega (arith, h)) (λ h. omega (arith, h)) (Decides-ltb (suc a) (suc b)))
    (Decides-ltb a b)

one : (n : ℕ) → 1 + n ≡ suc n
one n = omega arith

position_cons : (test : ℕ → Bool) (k : ℕ) (ks : List ℕ) → position test (k ∷ ks) ≡ (if test k then Some 0 else option_map suc (position test ks))
position_cons test k ks = by (test k)
  where
    n : ℕ
    n = position_or_len test ks

    mapped : (c : Bool) → cond c (Some (suc n)) None ≡ option_map suc (cond c (Some n) None)
    mapped true = refl
    mapped false = refl

    by : (b : Bool) → cond (nat_lt (cond (not b) (1 + n) 0) (suc (length ks))) (Some (cond (not b) (1 + n) 0)) None
        ≡ (if b then Some 0 else option_map suc (cond (nat_lt n (length ks)) (Some n) None))
    by true = ap (λ c. cond c (Some 0) None) ((Decides-ltb 0 (suc (length ks))).1 (omega arith))
    by false = ap (λ k. cond (nat_lt k (suc (length ks))) (Some k) None) (one n)
        ∙ ap (λ c. cond c (Some (suc n)) None) (suc_less n (length ks)) ∙ mapped (nat_lt n (length ks))

pub no_place : {V : Type 0} (test : ℕ → Bool) (es : List (ℕ × V)) → lookup test es ≡ None → position test (keys_of es) ≡ None
no_place test [] none = refl
no_place test (e ∷ es) none =
    let apart = missed (test e.0) e.1 (lookup test es) none in
    position_cons test e.0 (keys_of es)
    ∙ ap (λ b. if b then Some 0 else option_map suc (position test (keys_of es))) apart.0
    ∙ ap (option_map suc) (no_place test es apart.1)

pub position_other : {V : Type 0} (test : ℕ → Bool) (es : List (ℕ × V)) (k : ℕ) (v : V) → test k ≡ false
    → position test (keys_of (es ++ (k, v) ∷ [])) ≡ position test (keys_of es)
position_other test [] k v other = position_cons test k [] ∙ ap (λ b. if b then Some 0 else None) other
position_other test (e ∷ es) k v other =
    position_cons test e.0 (keys_of (es ++ (k, v) ∷ []))
    ∙ ap (λ o. if test e.0 then Some 0 else option_map suc o) (position_other test es k v other)
    ∙ sym (position_cons test e.0 (keys_of es))

pub position_new : {V : Type 0} (test : ℕ → Bool) (es : List (ℕ × V)) (k : ℕ) (v : V) → test k ≡ true → lookup test es ≡ None
    → position test (keys_of (es ++ (k, v) ∷ [])) ≡ Some (length es)
position_new test [] k v here none = position_cons test k [] ∙ ap (λ b. if b then Some 0 else None) here
position_new test (e ∷ es) k v here none =
    let apart = missed (test e.0) e.1 (lookup test es) none in
    position_cons test e.0 (keys_of (es ++ (k, v) ∷ []))
    ∙ ap (λ b. if b then Some 0 else option_map suc (position test (keys_of (es ++ (k, v) ∷ [])))) apart.0
    ∙ ap (option_map suc) (position_new test es k v here apart.1)

-- ---- the values

pub values_more : {V : Type 0} (es : List (ℕ × V)) (k : ℕ) (v : V) → values_of (es ++ (k, v) ∷ []) ≡ values_of es ++ v ∷ []
values_more [] k v = refl
values_more (e ∷ es) k v = ap (λ l. e.1 ∷ l) (values_more es k v)

pub as_many : {V : Type 0} (es : List (ℕ × V)) → length (values_of es) ≡ length es
as_many [] = refl
as_many (e ∷ es) = ap suc (as_many es)
