-- Items under rising stamps: one put after another, and one taken out again.
use Rattle.std.proofs.Common.{◌≡◌, ◌≢◌, ◌<◌, ◌≤◌, ◌∷◌, [], ℕ, suc, Bool, true, false, List, length, Option, Some, None, refl, sym, ap, ◌∙◌, arith}
use Rattle.std.specs.Prelude.{nat_eq, nat_lt, if◌then◌else◌}
use Rattle.std.proofs.lemmas.Bool.{eqb-true, eq-eqb, ltb-true, ltb-false}
use Rattle.std.proofs.lemmas.Bool.Decides.{nat_tests}
use Rattle.stamped_slots.specs.Stamps.{at, put, without}

pub not_eq : (m n : ℕ) → m ≢ n → nat_eq m n ≡ false
not_eq m n other = by (nat_eq m n) refl
  where
    by : (b : Bool) → nat_eq m n ≡ b → b ≡ false
    by true e = absurd (other (eqb-true m n e))
    by false e = refl

lt_is : (m n : ℕ) → m < n → nat_lt m n ≡ true
lt_is m n less = grind (arith, nat_tests)

ge_is : (m n : ℕ) → n ≤ m → nat_lt m n ≡ false
ge_is m n less = grind (arith, nat_tests)

passes : {T : Type 0} (m : ℕ) (x : T) (e : ℕ × T) (es : List (ℕ × T)) → nat_lt e.0 m ≡ true → put m x (e ∷ es) ≡ e ∷ put m x es
passes m x e es is = ap (λ (b : Bool). if b then e ∷ put m x es else (m, x) ∷ e ∷ es) is

stops : {T : Type 0} (m : ℕ) (x : T) (e : ℕ × T) (es : List (ℕ × T)) → nat_lt e.0 m ≡ false → put m x (e ∷ es) ≡ (m, x) ∷ e ∷ es
stops m x e es is = ap (λ (b : Bool). if b then e ∷ put m x es else (m, x) ∷ e ∷ es) is

-- two that come to stand before all others
front_swap : {T : Type 0} (m n : ℕ) (x y : T) (es : List (ℕ × T)) → m ≢ n → put m x es ≡ (m, x) ∷ es → put n y es ≡ (n, y) ∷ es → put m x ((n, y) ∷ es) ≡ put n y ((m, x) ∷ es)
front_swap m n x y es other first second = by (nat_lt n m) refl
  where
    by : (b : Bool) → nat_lt n m ≡ b → put m x ((n, y) ∷ es) ≡ put n y ((m, x) ∷ es)
    by true e =
        let less = ltb-true n m e in
        passes m x (n, y) es e ∙ ap (λ t. (n, y) ∷ t) first ∙ sym (stops n y (m, x) es (ge_is m n (omega (arith, less))))
    by false e =
        let most = ltb-false n m e in
        stops m x (n, y) es e ∙ sym (passes n y (m, x) es (lt_is m n (omega (arith, most, other))) ∙ ap (λ t. (m, x) ∷ t) second)

pub put_swap : {T : Type 0} (m n : ℕ) (x y : T) (es : List (ℕ × T)) → m ≢ n → put m x (put n y es) ≡ put n y (put m x es)
put_swap m n x y [] other = front_swap m n x y [] other refl refl
put_swap m n x y (e ∷ es) other = by (nat_lt e.0 m) (nat_lt e.0 n) refl refl (put_swap m n x y es other)
  where
    by : (a b : Bool) → nat_lt e.0 m ≡ a → nat_lt e.0 n ≡ b → put m x (put n y es) ≡ put n y (put m x es) → put m x (put n y (e ∷ es)) ≡ put n y (put m x (e ∷ es))
    by true true f g more =
        ap (put m x) (passes n y e es g) ∙ passes m x e (put n y es) f ∙ ap (λ t. e ∷ t) more ∙ sym (ap (put n y) (passes m x e es f) ∙ passes n y e (put m x es) g)
    by true false f g more =
        let less = ltb-true e.0 m f in
        let most = ltb-false e.0 n g in
        ap (put m x) (stops n y e es g) ∙ passes m x (n, y) (e ∷ es) (lt_is n m (omega (arith, less, most))) ∙ ap (λ t. (n, y) ∷ t) (passes m x e es f)
        ∙ sym (ap (put n y) (passes m x e es f) ∙ stops n y e (put m x es) g)
    by false true f g more =
        let less = ltb-true e.0 n g in
        let most = ltb-false e.0 m f in
        ap (put m x) (passes n y e es g) ∙ stops m x e (put n y es) f
        ∙ sym (ap (put n y) (stops m x e es f) ∙ passes n y (m, x) (e ∷ es) (lt_is m n (omega (arith, less, most))) ∙ ap (λ t. (m, x) ∷ t) (passes n y e es g))
    by false false f g more =
        ap (put m x) (stops n y e es g) ∙ front_swap m n x y (e ∷ es) other (stops m x e es f) (stops n y e es g) ∙ sym (ap (put n y) (stops m x e es f))

pub long_put : {T : Type 0} (n : ℕ) (x : T) (es : List (ℕ × T)) → length (put n x es) ≡ suc (length es)
long_put n x [] = refl
long_put n x (e ∷ es) = by (nat_lt e.0 n) (long_put n x es)
  where
    by : (b : Bool) → length (put n x es) ≡ suc (length es) → length (if b then e ∷ put n x es else (n, x) ∷ e ∷ es) ≡ suc (suc (length es))
    by true more = ap suc more
    by false more = refl

pub at_other : {T : Type 0} (m n : ℕ) (x : T) (es : List (ℕ × T)) → m ≢ n → at n (put m x es) ≡ at n es
at_other m n x [] other = rw (not_eq m n other) refl
at_other m n x (e ∷ es) other = by (nat_lt e.0 m) (at_other m n x es other)
  where
    by : (b : Bool) → at n (put m x es) ≡ at n es → at n (if b then e ∷ put m x es else (m, x) ∷ e ∷ es) ≡ at n (e ∷ es)
    by true more = ap (λ t. if nat_eq e.0 n then Some e.1 else t) more
    by false more = rw (not_eq m n other) refl

pub at_same : {T : Type 0} (n : ℕ) (x : T) (es : List (ℕ × T)) → at n (put n x es) ≡ Some x
at_same n x [] = rw (eq-eqb n n refl) refl
at_same n x (e ∷ es) = by (nat_lt e.0 n) refl (at_same n x es)
  where
    by : (b : Bool) → nat_lt e.0 n ≡ b → at n (put n x es) ≡ Some x → at n (if b then e ∷ put n x es else (n, x) ∷ e ∷ es) ≡ Some x
    by true is more = let less = ltb-true e.0 n is in rw (not_eq e.0 n (λ same. omega (arith, less, same))) more
    by false is more = rw (eq-eqb n n refl) refl

none_if : {T : Type 0} (b : Bool) (x : T) (o : Option T) → (if b then Some x else o) ≡ None → (b ≡ false) × (o ≡ None)
none_if true x o is = absurd cc
none_if false x o is = (refl, is)

pub without_put : {T : Type 0} (n : ℕ) (x : T) (es : List (ℕ × T)) → at n es ≡ None → without n (put n x es) ≡ es
without_put n x [] none = rw (eq-eqb n n refl) refl
without_put n x (e ∷ es) none = by (nat_lt e.0 n) (without_put n x es (none_if (nat_eq e.0 n) e.1 (at n es) none).1)
  where
    by : (b : Bool) → without n (put n x es) ≡ es → without n (if b then e ∷ put n x es else (n, x) ∷ e ∷ es) ≡ e ∷ es
    by true more = rw (none_if (nat_eq e.0 n) e.1 (at n es) none).0 (ap (λ t. e ∷ t) more)
    by false more = rw (eq-eqb n n refl) refl
