-- The first kind in order whose row is true.
use Rattle.std.proofs.Common.{◌≡◌, ◌∙◌, refl, sym, ap, ℕ, ◌+◌, ◌<◌, ◌≤◌, Bool, true, false, true≢false, List, [], ◌∷◌, if◌then◌else◌, arith, ◌==◌, le_antisymm}
use Rattle.typing_rules.specs.declared.fault.FaultKind.{FaultKind}
use Rattle.typing_rules.specs.declared.fault.FaultKind.TheVariants.{RefusedType, Unknown, Redeclared, Arity, NotConst, NotPlace, Outside, Mismatch, NoReturn, Cells, Entry}
use Rattle.typing_rules.specs.Nodes.{rank, Rows, kinds, first_in, first_kind}

-- a kind from its rank
abbrev kind_of : ℕ → FaultKind
kind_of n =
    if n == 0 then RefusedType else (if n == 1 then Unknown else (if n == 2 then Redeclared else (if n == 3 then Arity
    else (if n == 4 then NotConst else (if n == 5 then NotPlace else (if n == 6 then Outside else (if n == 7 then Mismatch
    else (if n == 8 then NoReturn else (if n == 9 then Cells else Entry)))))))))

of_rank : (k : FaultKind) → kind_of (rank k) ≡ k
of_rank RefusedType = refl
of_rank Unknown = refl
of_rank Redeclared = refl
of_rank Arity = refl
of_rank NotConst = refl
of_rank NotPlace = refl
of_rank Outside = refl
of_rank Mismatch = refl
of_rank NoReturn = refl
of_rank Cells = refl
of_rank Entry = refl

pub one_rank : (j k : FaultKind) → rank j ≡ rank k → j ≡ k
one_rank j k e = sym (of_rank j) ∙ (ap kind_of e ∙ of_rank k)

-- the kinds of rank n and more, in order
abbrev Ordered : ℕ → List FaultKind → Type 0
Ordered n [] = (j : FaultKind) → rank j < n
Ordered n (k ∷ ks) = (rank k ≡ n) × Ordered (n + 1) ks

few : (j : FaultKind) → rank j < 11
few RefusedType = omega arith
few Unknown = omega arith
few Redeclared = omega arith
few Arity = omega arith
few NotConst = omega arith
few NotPlace = omega arith
few Outside = omega arith
few Mismatch = omega arith
few NoReturn = omega arith
few Cells = omega arith
few Entry = omega arith

abbrev IsFirst : Rows → FaultKind → FaultKind → Type 0
IsFirst r j k = (rank k ≤ rank j) × (r k ≡ true)

past : (n a b : ℕ) → n ≤ a → b ≡ n → (b ≡ a → ⊥) → n + 1 ≤ a
past n a b h e d = not_same (b == a) refl
  where
    not_same : (c : Bool) → (b == a) ≡ c → n + 1 ≤ a
    not_same c i = first_of (omega arith, grind arith)

pub first_one : (n : ℕ) (ks : List FaultKind) → Ordered n ks → (r : Rows) (j : FaultKind) → n ≤ rank j → r j ≡ true → IsFirst r j (first_in ks r)
first_one n [] o r j h e = absurd (omega (arith, o j, h))
first_one n (k ∷ ks) o r j h e = by (r k) refl (λ i. first_one (n + 1) ks o.1 r j (past n (rank j) (rank k) h o.0 i) e)
  where
    by : (b : Bool) → r k ≡ b → ((rank k ≡ rank j → ⊥) → IsFirst r j (first_in ks r)) → IsFirst r j (if b then k else first_in ks r)
    by true i more = (omega (arith, o.0, h), i)
    by false i more = more (λ same. true≢false (sym e ∙ (ap r (sym (one_rank k j same)) ∙ i)))

in_order : Ordered 0 kinds
in_order = (refl, (refl, (refl, (refl, (refl, (refl, (refl, (refl, (refl, (refl, (refl, few)))))))))))

-- where a row is true, the first kind's row is, and no kind before it
pub first_is : (r : Rows) (j : FaultKind) → r j ≡ true → IsFirst r j (first_kind r)
first_is r j e = first_one 0 kinds in_order r j (omega arith) e

-- the only kind that can be the first
pub only_first : (r : Rows) (k : FaultKind) → r k ≡ true → ((j : FaultKind) → r j ≡ true → rank k ≤ rank j) → first_kind r ≡ k
only_first r k e least =
    let f = first_is r k e in
    one_rank (first_kind r) k (le_antisymm f.0 (least (first_kind r) f.1))
