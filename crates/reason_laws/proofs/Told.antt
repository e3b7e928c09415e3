-- Lists of faults, each of which has its reason in a list of nodes.
use Rattle.std.proofs.Common.{◌≡◌, ℕ, Bool, true, false, List, [], ◌∷◌, ◌++◌, Option, None, Some, ◌⊎◌, inl, inr, refl, sym, ap, subst, ◌∙◌, true≢false}
use Rattle.typing_rules.specs.declared.fault.Fault.{Fault}
use Rattle.typing_rules.specs.declared.fault.FaultKind.{FaultKind}
use Rattle.typing_rules.specs.Nodes.{Rows, Among, asked, at, first_kind, ruled}
use Rattle.typing_rules.specs.Rules.{when}
use Rattle.expression_reasons.specs.declared.reason.Reason.{Reason}
use Rattle.expression_reasons.specs.Seen.{Node, own}
use Rattle.expression_reasons.specs.Why.{because, unless}
use Rattle.reason_laws.specs.Laws.{Tells, is_joined, kind_of}

-- the node of this token, with a reason of this kind
pub record IsOf (n : ℕ) (k : FaultKind) (x : Node) : Type 0 where
  pub token : x.token ≡ n
  pub tells : Tells x.why k

abbrev pub Has : ℕ → FaultKind → List Node → Type 0
Has n k [] = ⊥
Has n k (x ∷ xs) = IsOf n k x ⊎ Has n k xs

-- each fault of the kinds that are joined has its reason
pub record Each (fs : List Fault) (xs : List Node) : Type 0 where
  pub by : (f : Fault) → is_joined f.kind ≡ true → Among f fs → Has f.token f.kind xs

has_left : (n : ℕ) (k : FaultKind) (xs ys : List Node) → Has n k xs → Has n k (xs ++ ys)
has_left n k [] ys h = absurd h
has_left n k (x ∷ xs) ys (inl h) = inl h
has_left n k (x ∷ xs) ys (inr h) = inr (has_left n k xs ys h)

has_right : (n : ℕ) (k : FaultKind) (xs ys : List Node) → Has n k ys → Has n k (xs ++ ys)
has_right n k [] ys h = h
has_right n k (x ∷ xs) ys h = inr (has_right n k xs ys h)

split : (f : Fault) (fs gs : List Fault) → Among f (fs ++ gs) → Among f fs ⊎ Among f gs
split f [] gs h = inr h
split f (g ∷ fs) gs (inl h) = inl (inl h)
split f (g ∷ fs) gs (inr h) = by (split f fs gs h)
  where
    by : Among f fs ⊎ Among f gs → Among f (g ∷ fs) ⊎ Among f gs
    by (inl k) = inl (inr k)
    by (inr k) = inr k

-- ---- parts

pub each_none : {xs : List Node} → Each [] xs
each_none = record { by = λ f j h. absurd h }

pub each_left : {fs : List Fault} {xs : List Node} (ys : List Node) → Each fs xs → Each fs (xs ++ ys)
each_left {xs = xs} ys h = record { by = λ f j a. has_left f.token f.kind xs ys (h.by f j a) }

pub each_right : {fs : List Fault} {ys : List Node} (xs : List Node) → Each fs ys → Each fs (xs ++ ys)
each_right {ys = ys} xs h = record { by = λ f j a. has_right f.token f.kind xs ys (h.by f j a) }

pub each_both : {fs gs : List Fault} {xs : List Node} → Each fs xs → Each gs xs → Each (fs ++ gs) xs
each_both {fs = fs} {gs = gs} {xs = xs} h k = record { by = λ f j a. both f j (split f fs gs a) }
  where
    both : (f : Fault) → is_joined f.kind ≡ true → Among f fs ⊎ Among f gs → Has f.token f.kind xs
    both f j (inl a) = h.by f j a
    both f j (inr a) = k.by f j a

pub each_join : {fs gs : List Fault} {xs ys : List Node} → Each fs xs → Each gs ys → Each (fs ++ gs) (xs ++ ys)
each_join {xs = xs} {ys = ys} h k = each_both (each_left ys h) (each_right xs k)

-- ---- a node by itself

abbrev one : ℕ → FaultKind → List Fault
one n k = record { kind = k; token = n } ∷ []

-- a fault of this kind, at a node with this reason
pub each_wrong : (n : ℕ) (k : FaultKind) (why : Option Reason) → (is_joined k ≡ true → Tells why k) → Each (one n k) (own n why)
each_wrong n k why told = record { by = λ f j h. found f j h }
  where
    found : (f : Fault) → is_joined f.kind ≡ true → Among f (one n k) → Has f.token f.kind (own n why)
    found f j (inl e) = subst (λ g. is_joined g.kind ≡ true → Has g.token g.kind (own n why)) e (λ i. inl (record { token = refl; tells = told i })) j
    found f j (inr h) = absurd h

-- a fault of a kind that isn't joined
pub each_other : {xs : List Node} (n : ℕ) (k : FaultKind) → is_joined k ≡ false → Each (one n k) xs
each_other {xs = xs} n k other = record { by = λ f j h. found f j h }
  where
    found : (f : Fault) → is_joined f.kind ≡ true → Among f (one n k) → Has f.token f.kind xs
    found f j (inl e) = absurd (true≢false (sym j ∙ (ap (λ g. is_joined g.kind) (sym e) ∙ other)))
    found f j (inr h) = absurd h

-- the reason is that of the first row
abbrev pub Fitting : {A B : Type 0} → (A → Rows) → (A → Option B) → (A → Reason) → Type 0
Fitting {A = A} rows rule reason = (a : A) → rule a ≡ None → is_joined (first_kind (rows a)) ≡ true → kind_of (reason a) ≡ first_kind (rows a)

module _ {A B : Type 0} (n : ℕ) (rows : A → Rows) (rule : A → Option B) where
  pub each_asked : (reason : A → Reason) → Fitting rows rule reason → (o : Option A) → Each (at n (asked rows rule o)) (own n (because rule reason o))
  each_asked reason fitting None = each_none
  each_asked reason fitting (Some a) = by (rule a) refl
    where
      by : (b : Option B) → rule a ≡ b → Each (at n (ruled (first_kind (rows a)) b)) (own n (unless b (reason a)))
      by (Some b) e = each_none
      by None e = each_wrong n (first_kind (rows a)) (Some (reason a)) (λ j. record { reason = reason a; is = refl; kind = fitting a e j })

  -- a node whose rows are of other kinds
  pub each_silent : {xs : List Node} → ((a : A) → is_joined (first_kind (rows a)) ≡ false) → (o : Option A) → Each (at n (asked rows rule o)) xs
  each_silent other None = each_none
  each_silent {xs = xs} other (Some a) = by (rule a)
    where
      by : (b : Option B) → Each (at n (ruled (first_kind (rows a)) b)) xs
      by (Some b) = each_none
      by None = each_other n (first_kind (rows a)) (other a)

-- a test that decides between a rule and this reason
pub each_tested : {A B : Type 0} (n : ℕ) (k : FaultKind) (b : Bool) (made : B) (x : A) (r : Reason) → kind_of r ≡ k
    → Each (at n (ruled k (when b made))) (own n (unless (when b x) r))
each_tested n k true made x r e = each_none
each_tested n k false made x r e = each_wrong n k (Some r) (λ j. record { reason = r; is = refl; kind = e })
