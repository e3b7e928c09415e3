-- Lists and options of which something holds, and what answers were made of.
use Rattle.std.proofs.Common.{◌≡◌, ℕ, zero, suc, Bool, true, false, if◌then◌else◌, List, [], ◌∷◌, ◌++◌, Option, None, Some, option_map, slice_get, refl, ap, subst}
use Rattle.std.proofs.lemmas.Option.{same_Some, none-some}
use Rattle.std.specs.Option.{option_and_then}
use Rattle.std.specs.List.{AllByRecursion}
use Rattle.typing_rules.specs.declared.fault.FaultKind.{FaultKind}
use Rattle.typing_rules.specs.Nodes.{Rows, first_kind, fine, ruled, asked, two, three}
use Rattle.typing_rules.specs.Verdicts.{one_more}
use Rattle.typing_rules.specs.Rules.{when}

-- P of the value, where there is one
abbrev pub Holds : {A : Type 0} → (A → Type 0) → Option A → Type 0
Holds P None = Unit {0}
Holds P (Some a) = P a

pub holds_of : {A : Type 0} (P : A → Type 0) (o : Option A) (a : A) → Holds P o → o ≡ Some a → P a
holds_of P None a h e = absurd (none-some a e)
holds_of P (Some b) a h e = subst P (same_Some b a e) h

pub all_last : {A : Type 0} (P : A → Type 0) (xs : List A) (x : A) → AllByRecursion P xs → P x → AllByRecursion P (xs ++ x ∷ [])
all_last P [] x h k = (k, tt)
all_last P (y ∷ ys) x h k = (h.0, all_last P ys x h.1 k)

pub all_at : {A : Type 0} (P : A → Type 0) (xs : List A) (n : ℕ) → AllByRecursion P xs → Holds P (slice_get xs n)
all_at P [] n h = tt
all_at P (x ∷ xs) zero h = h.0
all_at P (x ∷ xs) (suc n) h = all_at P xs n h.1

pub map_is : {A B : Type 0} (f : A → B) (o : Option A) (b : B) → option_map f o ≡ Some b → (a : A) × (o ≡ Some a) × (f a ≡ b)
map_is f None b e = absurd (none-some b e)
map_is f (Some a) b e = (a, refl, same_Some _ _ e)

pub then_is : {A B : Type 0} (f : A → Option B) (o : Option A) (b : B) → option_and_then f o ≡ Some b → (a : A) × (o ≡ Some a) × (f a ≡ Some b)
then_is f None b e = absurd (none-some b e)
then_is f (Some a) b e = (a, refl, e)

pub when_is : {A : Type 0} (b : Bool) (x y : A) → when b x ≡ Some y → (b ≡ true) × (x ≡ y)
when_is true x y e = (refl, same_Some _ _ e)
when_is false x y e = absurd (none-some y e)

pub if_is : {A : Type 0} (b : Bool) (o : Option A) (y : A) → (if b then o else None) ≡ Some y → (b ≡ true) × (o ≡ Some y)
if_is true o y e = (refl, e)
if_is false o y e = absurd (none-some y e)

pub one_more_is : {A : Type 0} (o : Option A) (rest : Option (List A)) (ts : List A) → one_more o rest ≡ Some ts
    → (t : A) × (us : List A) × (o ≡ Some t) × (rest ≡ Some us) × (t ∷ us ≡ ts)
one_more_is (Some a) (Some us) ts e = (a, us, refl, refl, same_Some _ _ e)
one_more_is (Some a) None ts e = absurd (none-some ts e)
one_more_is None rest ts e = absurd (none-some ts e)

pub two_is : {A B : Type 0} (o : Option A) (p : Option B) (q : A × B) → two o p ≡ Some q → (o ≡ Some q.0) × (p ≡ Some q.1)
two_is (Some a) (Some b) q e = let h = same_Some _ _ e in (ap (λ r. Some r.0) h, ap (λ r. Some r.1) h)
two_is (Some a) None q e = absurd (none-some q e)
two_is None p q e = absurd (none-some q e)

pub three_is : {A B C : Type 0} (o : Option A) (p : Option B) (r : Option C) (q : A × B × C) → three o p r ≡ Some q
    → (o ≡ Some q.0) × (p ≡ Some q.1) × (r ≡ Some q.2)
three_is (Some a) (Some b) (Some c) q e = let h = same_Some _ _ e in (ap (λ r. Some r.0) h, ap (λ r. Some r.1) h, ap (λ r. Some r.2) h)
three_is (Some a) (Some b) None q e = absurd (none-some q e)
three_is (Some a) None r q e = absurd (none-some q e)
three_is None p r q e = absurd (none-some q e)

ruled_is : {B : Type 0} (k : FaultKind) (o : Option B) (b : B) → fine (ruled k o) ≡ Some b → o ≡ Some b
ruled_is k (Some c) b e = e
ruled_is k None b e = absurd (none-some b e)

pub asked_is : {A B : Type 0} (rows : A → Rows) (rule : A → Option B) (o : Option A) (b : B) → fine (asked rows rule o) ≡ Some b
    → (a : A) × (o ≡ Some a) × (rule a ≡ Some b)
asked_is rows rule None b e = absurd (none-some b e)
asked_is rows rule (Some a) b e = (a, refl, ruled_is (first_kind (rows a)) (rule a) b e)
