-- What is found of items under rising stamps once one was put or taken out. No contract speaks of
-- these lemmas: they serve the proofs of the crates above.
use Rattle.std.proofs.Common.{◌≡◌, ◌≢◌, ◌<◌, ◌≤◌, ◌+◌, ◌∷◌, ◌++◌, [], ℕ, Bool, true, false, List, Some, None, ◌==◌, refl, sym, ap, ◌∙◌, arith}
use Rattle.std.specs.Prelude.{nat_lt, if◌then◌else◌}
use Rattle.std.proofs.lemmas.Bool.{eqb-true, eq-eqb, ltb-true}
use Rattle.std.proofs.lemmas.Bool.Decides.{nat_tests}
use Rattle.stamped_slots.specs.Stamps.{at, put, without, Rise, AreUnder}

pub not_same : (m n : ℕ) → m ≢ n → (m == n) ≡ false
not_same m n other = by (m == n) refl
  where
    by : (b : Bool) → (m == n) ≡ b → b ≡ false
    by true e = absurd (other (eqb-true m n e))
    by false e = refl

pub rise_from : {T : Type 0} (low high : ℕ) (es : List (ℕ × T)) → low ≤ high → Rise high es
    → Rise low es
rise_from low high [] le up = tt
rise_from low high (e ∷ es) le up = (omega (arith, le, up.0), up.1)

-- nothing stands under a stamp below all
pub none_below : {T : Type 0} (stamp : ℕ) (es : List (ℕ × T)) → Rise (stamp + 1) es
    → at stamp es ≡ None
none_below stamp [] up = refl
none_below stamp (e ∷ es) up = rw (not_same e.0 stamp (λ same. omega (arith, same, up.0)))
    (none_below stamp es (rise_from (stamp + 1) (e.0 + 1) es (omega (arith, up.0)) up.1))

-- nor above all
pub none_above : {T : Type 0} (low stamp : ℕ) (es : List (ℕ × T)) → low ≤ stamp → AreUnder low es
    → at stamp es ≡ None
none_above low stamp [] le under = refl
none_above low stamp (e ∷ es) le under = rw
    (not_same e.0 stamp (λ same. omega (arith, same, under.0, le)))
    (none_above low stamp es le under.1)

pub at_other : {T : Type 0} (m n : ℕ) (x : T) (es : List (ℕ × T)) → m ≢ n
    → at n (put m x es) ≡ at n es
at_other m n x [] other = rw (not_same m n other) refl
at_other m n x (e ∷ es) other = by (nat_lt e.0 m) (at_other m n x es other)
  where
    by : (b : Bool) → at n (put m x es) ≡ at n es
        → at n (if b then e ∷ put m x es else (m, x) ∷ e ∷ es) ≡ at n (e ∷ es)
    by true more = ap (λ t. if e.0 == n then Some e.1 else t) more
    by false more = rw (not_same m n other) refl

pub at_same : {T : Type 0} (n : ℕ) (x : T) (es : List (ℕ × T)) → at n (put n x es) ≡ Some x
at_same n x [] = rw (eq-eqb n n refl) refl
at_same n x (e ∷ es) = by (nat_lt e.0 n) refl (at_same n x es)
  where
    by : (b : Bool) → nat_lt e.0 n ≡ b → at n (put n x es) ≡ Some x
        → at n (if b then e ∷ put n x es else (n, x) ∷ e ∷ es) ≡ Some x
    by true is more = let less = ltb-true e.0 n is in rw
        (not_same e.0 n (λ same. omega (arith, less, same))) more
    by false is more = rw (eq-eqb n n refl) refl

-- a stamp above all others comes last
pub put_last : {T : Type 0} (n : ℕ) (x : T) (es : List (ℕ × T)) → AreUnder n es
    → put n x es ≡ es ++ (n, x) ∷ []
put_last n x [] under = refl
put_last n x (e ∷ es) under =
    let less : nat_lt e.0 n ≡ true = (let lt = under.0 in grind (arith, nat_tests)) in rw less
    (ap (λ t. e ∷ t) (put_last n x es under.1))

pub under_last : {T : Type 0} (n more : ℕ) (x : T) (es : List (ℕ × T)) → n < more → AreUnder n es
    → AreUnder more (es ++ (n, x) ∷ [])
under_last n more x [] lt under = (lt, tt)
under_last n more x (e ∷ es) lt under =
    (omega (arith, lt, under.0), under_last n more x es lt under.1)

-- what is there has a stamp below the bound
pub under_at : {T : Type 0} (n stamp : ℕ) (x : T) (es : List (ℕ × T)) → AreUnder n es
    → at stamp es ≡ Some x → stamp < n
under_at n stamp x [] under there = absurd cc
under_at n stamp x (e ∷ es) under there = by (e.0 == stamp) refl there
    (under_at n stamp x es under.1)
  where
    by : (b : Bool) → (e.0 == stamp) ≡ b → (if b then Some e.1 else at stamp es) ≡ Some x
        → (at stamp es ≡ Some x → stamp < n) → stamp < n
    by true is there more = let same = eqb-true e.0 stamp is in omega (arith, same, under.0)
    by false is there more = more there

pub under_without : {T : Type 0} (n stamp : ℕ) (es : List (ℕ × T)) → AreUnder n es
    → AreUnder n (without stamp es)
under_without n stamp [] under = tt
under_without n stamp (e ∷ es) under = by (e.0 == stamp) (under_without n stamp es under.1)
  where
    by : (b : Bool) → AreUnder n (without stamp es)
        → AreUnder n (if b then es else e ∷ without stamp es)
    by true more = under.1
    by false more = (under.0, more)

pub gone_other : {T : Type 0} (m n : ℕ) (es : List (ℕ × T)) → m ≢ n → at n (without m es) ≡ at n es
gone_other m n [] other = refl
gone_other m n (e ∷ es) other = by (e.0 == m) refl (gone_other m n es other)
  where
    by : (b : Bool) → (e.0 == m) ≡ b → at n (without m es) ≡ at n es
        → at n (if b then es else e ∷ without m es) ≡ at n (e ∷ es)
    by true is more = let same = eqb-true e.0 m is in sym
        (rw (not_same e.0 n (λ here. other (sym same ∙ here))) refl)
    by false is more = ap (λ t. if e.0 == n then Some e.1 else t) more

pub gone_same : {T : Type 0} (n low : ℕ) (es : List (ℕ × T)) → Rise low es
    → at n (without n es) ≡ None
gone_same n low [] up = refl
gone_same n low (e ∷ es) up = by (e.0 == n) refl (gone_same n (e.0 + 1) es up.1)
  where
    by : (b : Bool) → (e.0 == n) ≡ b → at n (without n es) ≡ None
        → at n (if b then es else e ∷ without n es) ≡ None
    by true is more = let same = eqb-true e.0 n is in none_below n es
        (rise_from (n + 1) (e.0 + 1) es (omega (arith, same)) up.1)
    by false is more = rw is more
