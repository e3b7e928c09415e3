-- The laws of the order: what a list in order tells of its head, and what one entry more changes.
use Rattle.std.proofs.Common.{◌≡◌, ◌≢◌, ℕ, zero, suc, ◌<◌, ◌≤◌, Bool, true, false, List, [], ◌∷◌, ◌++◌, length, take, drop, Option, None, Some, slice_get, refl, sym, ap, subst, ◌∙◌, inl, inr, arith}
use Rattle.std.specs.Prelude.{if◌then◌else◌, unwrap_or, IfSome}
use Rattle.delay_agenda.specs.declared.entry.Entry.{Entry}
use Rattle.delay_agenda.specs.Order.{IsBefore, is_before, put_entry, IsBeforeAll, AreInOrder, AreBelow, HasNone, AreDistinct, IsNext}

-- two options that are equal hold equal values
held : {A : Type 0} (a b : A) → Some a ≡ Some b → a ≡ b
held a b same = ap (λ o. unwrap_or o a) same

before_member : {X : Type 0} (e : Entry X) (es : List (Entry X)) → IsBeforeAll e es
    → (i : ℕ) (a : Entry X) → slice_get es i ≡ Some a → IsBefore e a
before_member e [] all i a at = cc
before_member e (x ∷ rest) all zero a at = subst (λ z. IsBefore e z) (held x a at) all.0
before_member e (x ∷ rest) all (suc i) a at = before_member e rest all.1 i a at

due_when : {X : Type 0} (e a : Entry X) → IsBefore e a → e.due ≤ a.due
due_when e a (inl less) = omega arith
due_when e a (inr tie) = omega (arith, tie.0)

number_when : {X : Type 0} (e a : Entry X) → IsBefore e a → a.due ≡ e.due → e.number ≤ a.number
number_when e a (inl less) same = omega arith
number_when e a (inr tie) same = omega (arith, tie.1)

least_due : {X : Type 0} (e : Entry X) (es : List (Entry X)) → IsBeforeAll e es
    → (i : ℕ) (a : Entry X) → slice_get (e ∷ es) i ≡ Some a → e.due ≤ a.due
least_due e es all zero a at = let same = ap (λ z. z.due) (held e a at) in omega arith
least_due e es all (suc i) a at = due_when e a (before_member e es all i a at)

least_number : {X : Type 0} (e : Entry X) (es : List (Entry X)) → IsBeforeAll e es
    → (i : ℕ) (a : Entry X) → slice_get (e ∷ es) i ≡ Some a → a.due ≡ e.due → e.number ≤ a.number
least_number e es all zero a at due = let same = ap (λ z. z.number) (held e a at) in omega arith
least_number e es all (suc i) a at due = number_when e a (before_member e es all i a at) due

pub head_is_next : {X : Type 0} (e : Entry X) (es : List (Entry X)) → AreInOrder (e ∷ es) → IsNext e (e ∷ es)
head_is_next e es order = record {
  member = (0, refl);
  least_due = least_due e es order.0;
  least_number = least_number e es order.0;
}

adds_if : {X : Type 0} (b : Bool) (e x : Entry X) (rest more : List (Entry X))
    → ((n : ℕ) × (n ≤ length rest) × (more ≡ take n rest ++ e ∷ drop n rest))
    → (n : ℕ) × (n ≤ length (x ∷ rest)) × ((if b then x ∷ more else e ∷ x ∷ rest) ≡ take n (x ∷ rest) ++ e ∷ drop n (x ∷ rest))
adds_if true e x rest more next = (suc next.0, (let within = next.1 in omega arith), ap (λ l. x ∷ l) next.2)
adds_if false e x rest more next = (zero, omega arith, refl)

pub put_adds_one : {X : Type 0} (e : Entry X) (es : List (Entry X))
    → (n : ℕ) × (n ≤ length es) × (put_entry e es ≡ take n es ++ e ∷ drop n es)
put_adds_one e [] = (zero, omega arith, refl)
put_adds_one e (x ∷ rest) = adds_if (is_before x e) e x rest (put_entry e rest) (put_adds_one e rest)

pub below_member : {X : Type 0} (next : ℕ) (es : List (Entry X)) → AreBelow next es
    → (i : ℕ) (a : Entry X) → slice_get es i ≡ Some a → a.number < next
below_member next [] below i a at = cc
below_member next (x ∷ rest) below zero a at = subst (λ z. z.number < next) (held x a at) below.0
below_member next (x ∷ rest) below (suc i) a at = below_member next rest below.1 i a at

none_member : {X : Type 0} (n : ℕ) (es : List (Entry X)) → HasNone n es
    → (i : ℕ) (a : Entry X) → slice_get es i ≡ Some a → a.number ≢ n
none_member n [] none i a at = cc
none_member n (x ∷ rest) none zero a at = subst (λ z. z.number ≢ n) (held x a at) none.0
none_member n (x ∷ rest) none (suc i) a at = none_member n rest none.1 i a at

pub distinct_members : {X : Type 0} (es : List (Entry X)) → AreDistinct es
    → (i j : ℕ) (a b : Entry X) → slice_get es i ≡ Some a → slice_get es j ≡ Some b → a.number ≡ b.number → i ≡ j
distinct_members [] distinct i j a b at_i at_j same = cc
distinct_members (x ∷ rest) distinct zero zero a b at_i at_j same = refl
distinct_members (x ∷ rest) distinct zero (suc j) a b at_i at_j same =
    absurd (none_member x.number rest distinct.0 j b at_j (sym same ∙ sym (ap (λ z. z.number) (held x a at_i))))
distinct_members (x ∷ rest) distinct (suc i) zero a b at_i at_j same =
    absurd (none_member x.number rest distinct.0 i a at_i (same ∙ sym (ap (λ z. z.number) (held x b at_j))))
distinct_members (x ∷ rest) distinct (suc i) (suc j) a b at_i at_j same = ap suc (distinct_members rest distinct.1 i j a b at_i at_j same)

-- what was taken is the entry that is next
pub next_taken : {X : Type 0} (es : List (Entry X)) (taken : Option (Entry X)) → taken ≡ slice_get es 0 → AreInOrder es → IfSome taken (λ e. IsNext e es)
next_taken [] None is order = tt
next_taken [] (Some e) is order = cc
next_taken (x ∷ xs) None is order = cc
next_taken (x ∷ xs) (Some e) is order =
    subst (λ t. IsNext t (x ∷ xs)) (sym (held e x is)) (head_is_next x xs order)
