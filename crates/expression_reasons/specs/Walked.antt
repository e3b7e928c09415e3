-- What is found at a node, its parts being walked.
use Rattle.std.proofs.Common.{◌≡◌, ℕ, ◌==◌, Bool, true, false, if◌then◌else◌, List, [], ◌++◌, Option, None, Some, Result, Ok, Err, sym, ap, subst, ◌∙◌, refl}
use Rattle.std.specs.Result.{OnOk}
use Rattle.expression_reasons.specs.declared.reason.Reason.{Reason}
use Rattle.expression_reasons.specs.Seen.{Node, first_of, noted, seen, seen_append}

-- from a node to what it is known to be
pub node_found : {A E D : Type 0} (r : Result A E) (F : D → List Node) (k : ℕ) (e d : D) → e ≡ d
    → (old new : Option Reason) → OnOk r (new ≡ seen k old (F d)) → OnOk r (new ≡ seen k old (F e))
node_found r F k e d node old new h = subst (λ y. OnOk r (new ≡ seen k old (F y))) (sym node) h

-- one without nodes
pub none_found : {D : Type 0} (F : D → List Node) (k : ℕ) (e d : D) → e ≡ d
    → (old : Option Reason) → F d ≡ [] → old ≡ seen k old (F e)
none_found F k e d node old none = sym (ap (λ y. seen k old (F y)) node ∙ ap (seen k old) none)

-- behind one part
pub one_found : {A E : Type 0} (r : Result A E) (k : ℕ) (old mid new : Option Reason) (xs ys : List Node)
    → mid ≡ seen k old xs → OnOk r (new ≡ seen k mid ys) → OnOk r (new ≡ seen k old (xs ++ ys))
one_found r k old mid new xs ys walked h =
    subst (λ o. OnOk r (new ≡ o)) (ap (λ m. seen k m ys) walked ∙ sym (seen_append k old xs ys)) h

-- behind two
pub two_found : {A E : Type 0} (r : Result A E) (k : ℕ) (old mid late new : Option Reason) (xs ys zs : List Node)
    → mid ≡ seen k old xs → late ≡ seen k mid ys → OnOk r (new ≡ seen k late zs) → OnOk r (new ≡ seen k old (xs ++ (ys ++ zs)))
two_found r k old mid late new xs ys zs walked on h =
    one_found r k old mid new xs (ys ++ zs) walked (one_found r k mid late new ys zs on h)

-- behind three
pub three_found : {A E : Type 0} (r : Result A E) (k : ℕ) (old last new : Option Reason) (xs ys zs ws : List Node)
    → last ≡ seen k (seen k (seen k old xs) ys) zs → OnOk r (new ≡ seen k last ws) → OnOk r (new ≡ seen k old (xs ++ (ys ++ (zs ++ ws))))
three_found r k old last new xs ys zs ws walked h =
    subst (λ o. OnOk r (new ≡ o))
    (ap (λ m. seen k m ws) walked
    ∙ (sym (seen_append k (seen k (seen k old xs) ys) zs ws)
    ∙ (sym (seen_append k (seen k old xs) ys (zs ++ ws)) ∙ sym (seen_append k old xs (ys ++ (zs ++ ws)))))) h

-- what holds anyhow
pub always : {A E P : Type 0} (r : Result A E) → P → OnOk r P
always (Ok a) h = h
always (Err e) h = tt

-- what is in sight behind a node
pub node_sight : {A E D C : Type 0} (r : Result A E) (e d : D) → e ≡ d → (after : D → C) (c : C)
    → OnOk r (c ≡ after d) → OnOk r (c ≡ after e)
node_sight r e d node after c h = subst (λ y. OnOk r (c ≡ after y)) (sym node) h

-- a node without a reason
pub none_noted : (k : ℕ) (o : Option Reason) (n : ℕ) → o ≡ noted k o n None
none_noted k o n = by (n == k) o
  where
    by : (b : Bool) (o : Option Reason) → o ≡ (if b then first_of o None else o)
    by true None = refl
    by true (Some r) = refl
    by false o = refl
