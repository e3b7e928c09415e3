-- Pairs of a key and a stamp in a tree, by the key and then by the stamp.
use Rattle.std.proofs.Common.{◌≡◌, ◌≢◌, ◌≤◌, ◌==◌, ◌∷◌, [], ℕ, Bool, true, false, cond, List, None, Some, refl, sym, ap, subst, ◌∙◌, arith}
use Rattle.std.specs.Prelude.{nat_lt, ◌&&◌, ◌||◌}
use Rattle.std.specs.List.{list_any, slice_get}
use Rattle.std.specs.Option.{IfSome}
use Rattle.std.specs.declared.cmp.Ordering.{Ordering}
use Rattle.std.specs.Ordering.{nat_cmp, ordering_then, is_eq, is_gt}
use Rattle.std.specs.declared.cmp.Ordering.TheVariants.{Less, Equal, Greater}
use Rattle.std.specs.declared.ops.Bound.TheVariants.{Included, Unbounded}
use Rattle.std.specs.BTreeMap.{is_at}
use Rattle.std.specs.BTreeSet.{BTreeSet, contains, Updates, IsKeyRangeOf, IsKeyInRange}
use Rattle.std.specs.BTreeMap.Range.{IsLeBy}
use Rattle.std.proofs.lemmas.Bool.{eqb-true, eq-eqb, ltb-true, ltb-false, true≢false}
use Rattle.stamped_slots.specs.Index.{is_pair, is_under, Marks, IsLeast}

abbrev pub pair_cmp : ℕ × ℕ → ℕ × ℕ → Ordering
pair_cmp x y = ordering_then (nat_cmp x.0 y.0) (nat_cmp x.1 y.1)

differ : (n g : ℕ) → n ≢ g → (n == g) ≡ false
differ n g other = by (n == g) refl
  where
    by : (b : Bool) → (n == g) ≡ b → b ≡ false
    by true e = absurd (other (eqb-true n g e))
    by false e = refl

-- ---- equal pairs

eq_cmp : (x y : ℕ) → is_eq (nat_cmp x y) ≡ (x == y)
eq_cmp x y = by (nat_lt x y) refl
  where
    same : (b : Bool) → is_eq (cond b Equal Greater) ≡ b
    same true = refl
    same false = refl

    by : (b : Bool) → nat_lt x y ≡ b → is_eq (cond b Less (cond (x == y) Equal Greater)) ≡ (x == y)
    by true lt = sym (differ x y (λ same. omega (arith, same, ltb-true x y lt)))
    by false ge = same (x == y)

eq_then : (o p : Ordering) → is_eq (ordering_then o p) ≡ (is_eq o && is_eq p)
eq_then Less p = refl
eq_then Equal p = refl
eq_then Greater p = refl

at_pair : (key stamp : ℕ) (e : ℕ × ℕ) → is_at (pair_cmp (key, stamp)) e ≡ is_pair key stamp e
at_pair key stamp e =
    eq_then (nat_cmp key e.0) (nat_cmp stamp e.1) ∙ ap (λ b. b && is_eq (nat_cmp stamp e.1)) (eq_cmp key e.0) ∙ ap (λ b. (key == e.0) && b) (eq_cmp stamp e.1)

pub any_pair : (key stamp : ℕ) (pairs : List (ℕ × ℕ)) → list_any (is_at (pair_cmp (key, stamp))) pairs ≡ is_under key stamp pairs
any_pair key stamp [] = refl
any_pair key stamp (e ∷ pairs) =
    ap (λ b. b || list_any (is_at (pair_cmp (key, stamp))) pairs) (at_pair key stamp e) ∙ ap (λ b. is_pair key stamp e || b) (any_pair key stamp pairs)

pub marked : (key stamp : ℕ) (there : Bool) (m n : BTreeSet (ℕ × ℕ)) → Updates pair_cmp m n (key, stamp) there → Marks key stamp there m.keys n.keys
marked key stamp there m n updates k s =
    sym (any_pair k s n.keys) ∙ updates.0 (k, s) ∙ ap (λ b. cond b there (contains pair_cmp m (k, s))) (at_pair key stamp (k, s))
    ∙ ap (λ b. cond (is_pair key stamp (k, s)) there b) (any_pair k s m.keys)

-- ---- the order of pairs

le_cmp : (x y : ℕ) → is_gt (nat_cmp x y) ≡ false → x ≤ y
le_cmp x y le = by (nat_lt x y) refl le
  where
    same : (b : Bool) → (x == y) ≡ b → is_gt (cond b Equal Greater) ≡ false → x ≤ y
    same true e le = omega (arith, eqb-true x y e)
    same false e le = absurd (true≢false le)

    by : (b : Bool) → nat_lt x y ≡ b → is_gt (cond b Less (cond (x == y) Equal Greater)) ≡ false → x ≤ y
    by true lt le = omega (arith, ltb-true x y lt)
    by false ge le = same (x == y) refl le

cmp_le : (x y : ℕ) → x ≤ y → is_gt (nat_cmp x y) ≡ false
cmp_le x y le = by (nat_lt x y) refl
  where
    same : (b : Bool) → (x == y) ≡ b → y ≤ x → is_gt (cond b Equal Greater) ≡ false
    same true e ge = refl
    same false e ge = absurd (let equal : (x == y) ≡ true = eq-eqb x y (omega (arith, le, ge)) in cc)

    by : (b : Bool) → nat_lt x y ≡ b → is_gt (cond b Less (cond (x == y) Equal Greater)) ≡ false
    by true lt = refl
    by false ge = same (x == y) refl (ltb-false x y ge)

cmp_same : (x : ℕ) → nat_cmp x x ≡ Equal
cmp_same x = by (nat_lt x x) refl
  where
    by : (b : Bool) → nat_lt x x ≡ b → cond b Less (cond (x == x) Equal Greater) ≡ Equal
    by true lt = absurd (omega (arith, ltb-true x x lt))
    by false ge = ap (λ b. cond b Equal Greater) (eq-eqb x x refl)

first_le : (x y : ℕ × ℕ) → is_gt (pair_cmp x y) ≡ false → x.0 ≤ y.0
first_le x y le = le_cmp x.0 y.0 (by (nat_cmp x.0 y.0) le)
  where
    by : (o : Ordering) → is_gt (ordering_then o (nat_cmp x.1 y.1)) ≡ false → is_gt o ≡ false
    by Less le = refl
    by Equal le = refl
    by Greater le = le

second_le : (key s t : ℕ) → is_gt (pair_cmp (key, s) (key, t)) ≡ false → s ≤ t
second_le key s t le = le_cmp s t (sym (ap (λ o. is_gt (ordering_then o (nat_cmp s t))) (cmp_same key)) ∙ le)

le_pair : (key s t : ℕ) → s ≤ t → is_gt (pair_cmp (key, s) (key, t)) ≡ false
le_pair key s t le = ap (λ o. is_gt (ordering_then o (nat_cmp s t))) (cmp_same key) ∙ cmp_le s t le

-- ---- the least of a range

-- what would be before the least one
before : (key s : ℕ) (pairs : List (ℕ × ℕ)) (P : Type 0) → (is_under key s pairs ≡ true → P) → (P → ⊥) → is_under key s pairs ≡ false
before key s pairs P holds never = by (is_under key s pairs) refl
  where
    by : (b : Bool) → is_under key s pairs ≡ b → b ≡ false
    by true is = absurd (never (holds is))
    by false is = refl

module _ (key from : ℕ) (m : BTreeSet (ℕ × ℕ)) (r : List (ℕ × ℕ)) (range : IsKeyRangeOf pair_cmp (Included (key, from)) Unbounded m r) where
  pub least_none : r ≡ [] → IsLeast key from None m.keys
  least_none none s le = sym (any_pair key s m.keys) ∙ range.5 none (key, s) (le_pair key from s le, tt)

  module _ (e : ℕ × ℕ) (t : List (ℕ × ℕ)) (is : r ≡ e ∷ t) where
    there : IsKeyInRange pair_cmp (Included (key, from)) Unbounded m e
    there = subst (λ (r : List (ℕ × ℕ)). IfSome (slice_get r 0) (IsKeyInRange pair_cmp (Included (key, from)) Unbounded m)) is range.1

    first : (s : ℕ) → from ≤ s → is_under key s m.keys ≡ true → is_gt (pair_cmp e (key, s)) ≡ false
    first s le under =
        subst (λ (r : List (ℕ × ℕ)). IfSome (slice_get r 0) (λ k. IsLeBy pair_cmp k (key, s))) is
        (range.2 (key, s) (le_pair key from s le, tt) (any_pair key s m.keys ∙ under))

    pub least_other : e.0 ≢ key → IsLeast key from None m.keys
    least_other other s le =
        before key s m.keys (e.0 ≡ key) (λ under. omega (arith, first_le e (key, s) (first s le under), first_le (key, from) e there.0.0))
        other

    pub least_some : e.0 ≡ key → IsLeast key from (Some e.1) m.keys
    least_some same = (
      second_le key from e.1 (subst (λ k. is_gt (pair_cmp (key, from) (k, e.1)) ≡ false) same there.0.0),
      subst (λ k. is_under k e.1 m.keys ≡ true) same (sym (any_pair e.0 e.1 m.keys) ∙ there.1),
      λ s le lt. before key s m.keys (e.1 ≤ s) (λ under. second_le key e.1 s (subst (λ k. is_gt (pair_cmp (k, e.1) (key, s)) ≡ false) same (first s le under)))
          (λ more. omega (arith, more, lt)),
    )
