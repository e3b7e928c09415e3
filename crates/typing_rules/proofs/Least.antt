-- The least of a list of faults.
use Rattle.std.proofs.Common.{◌≡◌, ◌∙◌, ◌≤◌, refl, sym, subst, Bool, true, false, if◌then◌else◌, nat_lt, List, [], ◌∷◌, Option, None, Some, ◌⊎◌, inl, inr, arith, le_refl}
use Rattle.std.proofs.lemmas.Bool.Decides.{nat_tests}
use Rattle.std.proofs.lemmas.Option.{none-some, same_Some}
use Rattle.typing_rules.specs.declared.fault.Fault.{Fault}
use Rattle.typing_rules.specs.Nodes.{Among, earlier, kept}

earlier_is : (o : Option Fault) (g f : Fault) → earlier o g ≡ Some f → (o ≡ Some f) ⊎ (g ≡ f)
earlier_is None g f e = inr (same_Some _ _ e)
earlier_is (Some h) g f e = by (nat_lt g.token h.token) e
  where
    by : (b : Bool) → (if b then Some g else Some h) ≡ Some f → (Some h ≡ Some f) ⊎ (g ≡ f)
    by true i = inr (same_Some _ _ i)
    by false i = inl i

pub kept_is : (o : Option Fault) (fs : List Fault) (f : Fault) → kept o fs ≡ Some f → (o ≡ Some f) ⊎ Among f fs
kept_is o [] f e = inl e
kept_is o (g ∷ gs) f e = first (kept_is (earlier o g) gs f e)
  where
    second : (o ≡ Some f) ⊎ (g ≡ f) → (o ≡ Some f) ⊎ ((g ≡ f) ⊎ Among f gs)
    second (inl h) = inl h
    second (inr h) = inr (inl h)

    first : (earlier o g ≡ Some f) ⊎ Among f gs → (o ≡ Some f) ⊎ ((g ≡ f) ⊎ Among f gs)
    first (inl h) = second (earlier_is o g f h)
    first (inr h) = inr (inr h)

abbrev Below : Fault → Option Fault → Type 0
Below f None = Unit {0}
Below f (Some g) = f.token ≤ g.token

earlier_below : (o : Option Fault) (g f : Fault) → Below f (earlier o g) → Below f o × (f.token ≤ g.token)
earlier_below None g f h = (tt, h)
earlier_below (Some k) g f h = by (nat_lt g.token k.token) refl h
  where
    by : (b : Bool) → nat_lt g.token k.token ≡ b → Below f (if b then Some g else Some k) → (f.token ≤ k.token) × (f.token ≤ g.token)
    by true i j = (grind (arith, nat_tests), j)
    by false i j = (j, grind (arith, nat_tests))

below_more : (f k : Fault) (ks : List Fault) (g : Fault) → f.token ≤ k.token → ((x : Fault) → Among x ks → f.token ≤ x.token) → (k ≡ g) ⊎ Among g ks → f.token ≤ g.token
below_more f k ks g l r (inl h) = subst (λ (x : Fault). f.token ≤ x.token) h l
below_more f k ks g l r (inr h) = r g h

pub kept_below : (o : Option Fault) (fs : List Fault) (f : Fault) → kept o fs ≡ Some f → Below f o × ((g : Fault) → Among g fs → f.token ≤ g.token)
kept_below o [] f e = (subst (Below f) (sym e) (le_refl f.token), λ g h. absurd h)
kept_below o (k ∷ ks) f e =
    let rest = kept_below (earlier o k) ks f e in
    let first = earlier_below o k f rest.0 in
    (first.0, λ g h. below_more f k ks g first.1 rest.1 h)

earlier_some : (o : Option Fault) (g : Fault) → (f : Fault) × (earlier o g ≡ Some f)
earlier_some None g = (g, refl)
earlier_some (Some h) g = by (nat_lt g.token h.token)
  where
    by : (b : Bool) → (f : Fault) × ((if b then Some g else Some h) ≡ Some f)
    by true = (g, refl)
    by false = (h, refl)

kept_some : (fs : List Fault) (o : Option Fault) (f : Fault) → o ≡ Some f → kept o fs ≡ None → ⊥
kept_some [] o f i e = none-some f (sym e ∙ i)
kept_some (g ∷ gs) o f i e = let h = earlier_some o g in kept_some gs (earlier o g) h.0 h.1 e

pub kept_none : (fs : List Fault) → kept None fs ≡ None → fs ≡ []
kept_none [] e = refl
kept_none (g ∷ gs) e = absurd (kept_some gs (Some g) g refl e)
