-- What a node's judgement gives, its parts being walked. Like those of RowLaws these lemmas hold of
-- nodes and parts of every type.
use Rattle.std.proofs.Common.{◌≡◌, ℕ, List, ◌++◌, Option, Result, Ok, Err, sym, ap, subst, ◌∙◌}
use Rattle.std.specs.Option.{option_map}
use Rattle.std.specs.Result.{IfOk, OnOk}
use Rattle.nwq_value.specs.declared.memory.NoMemory.{NoMemory}
use Rattle.typing_rules.specs.declared.fault.Fault.{Fault}
use Rattle.typing_rules.specs.Nodes.{Verdict, fine, at, kept}
use Rattle.nss_expressions.specs.Kept.{kept_append}

-- D is a node, X what is typed, R what code answers, seen as an X
module _ {D X R : Type 0} (plain : R → X) (V : D → Verdict X) (F : D → List Fault) (n : ℕ)
    (r : Result (Option R) NoMemory) (e d : D) (node : e ≡ d) where
  -- of one part
  pub one_value : {A : Type 0} (f : Option A → Verdict X) (o p : Option A) → o ≡ p → V d ≡ f p
      → IfOk r (λ x. option_map plain x ≡ fine (f o))
      → IfOk r (λ x. option_map plain x ≡ fine (V e))
  one_value f o p part is h = subst (λ v. IfOk r (λ x. option_map plain x ≡ fine v))
      (ap f part ∙ (sym is ∙ ap V (sym node))) h

  pub one_least : {A : Type 0} (f : Option A → Verdict X) (o p : Option A)
      (old mid new : Option Fault) (xs : List Fault) → o ≡ p → F d ≡ xs ++ at n (f p)
      → mid ≡ kept old xs
      → OnOk r (new ≡ kept mid (at n (f o))) → OnOk r (new ≡ kept old (F e))
  one_least f o p old mid new xs part is walked h =
      subst (λ k. OnOk r (new ≡ k))
      (ap (λ m. kept m (at n (f o))) walked
      ∙ (sym (kept_append old xs (at n (f o)))
      ∙ (ap (λ q. kept old (xs ++ at n (f q))) part
      ∙ (ap (kept old) (sym is) ∙ ap (λ y. kept old (F y)) (sym node))))) h

  -- of two
  pub two_value : {A B : Type 0} (f : Option A → Option B → Verdict X) (o p : Option A)
      (q t : Option B) → o ≡ p → q ≡ t → V d ≡ f p t
      → IfOk r (λ x. option_map plain x ≡ fine (f o q))
      → IfOk r (λ x. option_map plain x ≡ fine (V e))
  two_value f o p q t first second is h =
      subst (λ v. IfOk r (λ x. option_map plain x ≡ fine v))
      (ap (λ y. f y q) first ∙ (ap (f p) second ∙ (sym is ∙ ap V (sym node)))) h

  pub two_least : {A B : Type 0} (f : Option A → Option B → Verdict X) (o p : Option A)
      (q t : Option B) (old mid late new : Option Fault) (xs ys : List Fault) → o ≡ p → q ≡ t
      → F d ≡ (xs ++ ys) ++ at n (f p t) → mid ≡ kept old xs → late ≡ kept mid ys
      → OnOk r (new ≡ kept late (at n (f o q))) → OnOk r (new ≡ kept old (F e))
  two_least f o p q t old mid late new xs ys first second is walked on h =
      one_least (λ y. f y t) o p old late new (xs ++ ys) first is
      (on ∙ (ap (λ m. kept m ys) walked ∙ sym (kept_append old xs ys)))
      (subst (λ z. OnOk r (new ≡ kept late (at n (f o z)))) second h)

  -- of two, of which the second isn't walked
  pub call_least : {A B : Type 0} (f : Option A → Option B → Verdict X) (o p : Option A)
      (q t : Option B) (old mid new : Option Fault) (xs : List Fault) → o ≡ p → q ≡ t
      → F d ≡ xs ++ at n (f p t) → mid ≡ kept old xs → OnOk r (new ≡ kept mid (at n (f o q)))
      → OnOk r (new ≡ kept old (F e))
  call_least f o p q t old mid new xs first second is walked h =
      one_least (λ y. f y t) o p old mid new xs first is walked
      (subst (λ z. OnOk r (new ≡ kept mid (at n (f o z)))) second h)

  -- a node by itself
  pub node_value : IfOk r (λ x. option_map plain x ≡ fine (V d))
      → IfOk r (λ x. option_map plain x ≡ fine (V e))
  node_value h = subst (λ v. IfOk r (λ x. option_map plain x ≡ fine v)) (ap V (sym node)) h

  pub node_least : (old new : Option Fault) → OnOk r (new ≡ kept old (F d))
      → OnOk r (new ≡ kept old (F e))
  node_least old new h = subst (λ k. OnOk r (new ≡ k)) (ap (λ y. kept old (F y)) (sym node)) h

  -- of three parts
  pub three_value : {A B C : Type 0} (f : Option A → Option B → Option C → Verdict X)
      (o p : Option A) (q t : Option B) (u w : Option C) → o ≡ p → q ≡ t → u ≡ w → V d ≡ f p t w
      → IfOk r (λ x. option_map plain x ≡ fine (f o q u))
      → IfOk r (λ x. option_map plain x ≡ fine (V e))
  three_value f o p q t u w first second third is h =
      subst (λ v. IfOk r (λ x. option_map plain x ≡ fine v))
      (ap (λ y. f y q u) first ∙
      (ap (λ y. f p y u) second ∙ (ap (f p t) third ∙ (sym is ∙ ap V (sym node))))) h

  pub three_least : {A B C : Type 0} (f : Option A → Option B → Option C → Verdict X)
      (o p : Option A) (q t : Option B) (u w : Option C) (old mid late last new : Option Fault)
      (xs ys zs : List Fault)
      → o ≡ p → q ≡ t → u ≡ w → F d ≡ (xs ++ (ys ++ zs)) ++ at n (f p t w) → mid ≡ kept old xs
      → late ≡ kept mid ys → last ≡ kept late zs
      → OnOk r (new ≡ kept last (at n (f o q u))) → OnOk r (new ≡ kept old (F e))
  three_least f o p q t u w old mid late last new xs ys zs first second third is walked on onward h =
      one_least (λ y. f y t w) o p old last new (xs ++ (ys ++ zs)) first is
      (onward ∙ (ap (λ m. kept m zs) on
      ∙ (sym (kept_append mid ys zs)
      ∙ (ap (λ m. kept m (ys ++ zs)) walked ∙ sym (kept_append old xs (ys ++ zs))))))
      (subst (λ z. OnOk r (new ≡ kept last (at n (f o t z)))) third
      (subst (λ z. OnOk r (new ≡ kept last (at n (f o z u)))) second h))

  -- of four
  pub four_value : {A B C E : Type 0} (f : Option A → Option B → Option C → Option E → Verdict X)
      (o p : Option A) (q t : Option B) (u w : Option C) (a b : Option E) → o ≡ p → q ≡ t
      → u ≡ w → a ≡ b
      → V d ≡ f p t w b → IfOk r (λ x. option_map plain x ≡ fine (f o q u a))
      → IfOk r (λ x. option_map plain x ≡ fine (V e))
  four_value f o p q t u w a b first second third fourth is h =
      subst (λ v. IfOk r (λ x. option_map plain x ≡ fine v))
      (ap (λ y. f y q u a) first
      ∙ (ap (λ y. f p y u a) second
      ∙ (ap (λ y. f p t y a) third ∙ (ap (f p t w) fourth ∙ (sym is ∙ ap V (sym node)))))) h

  pub four_least : {A B C E : Type 0} (f : Option A → Option B → Option C → Option E → Verdict X)
      (o p : Option A) (q t : Option B) (u w : Option C) (a b : Option E)
      (old mid late last new : Option Fault) (xs ys zs ws : List Fault) → o ≡ p → q ≡ t → u ≡ w
      → a ≡ b → F d ≡ (xs ++ (ys ++ (zs ++ ws))) ++ at n (f p t w b)
      → mid ≡ kept (kept (kept old xs) ys) zs → last ≡ kept mid ws
      → OnOk r (new ≡ kept last (at n (f o q u a))) → OnOk r (new ≡ kept old (F e))
  four_least f o p q t u w a b old mid late last new xs ys zs ws first second third fourth is walked onward h =
      one_least (λ y. f y t w b) o p old last new (xs ++ (ys ++ (zs ++ ws))) first is
      (onward ∙ (ap (λ m. kept m ws) walked
      ∙ (sym (kept_append (kept (kept old xs) ys) zs ws)
      ∙ (sym (kept_append (kept old xs) ys (zs ++ ws))
      ∙ sym (kept_append old xs (ys ++ (zs ++ ws)))))))
      (subst (λ z. OnOk r (new ≡ kept last (at n (f o t w z)))) fourth
      (subst (λ z. OnOk r (new ≡ kept last (at n (f o t z a)))) third
      (subst (λ z. OnOk r (new ≡ kept last (at n (f o z u a)))) second h)))

-- what holds anyhow
pub always : {A E P : Type 0} (r : Result A E) → P → OnOk r P
always (Ok a) h = h
always (Err e) h = tt

-- what is in sight behind a node
pub node_sight : {A E D C : Type 0} (r : Result A E) (e d : D) → e ≡ d → (after : D → C) (c : C)
    → OnOk r (c ≡ after d) → OnOk r (c ≡ after e)
node_sight r e d node after c h = subst (λ y. OnOk r (c ≡ after y)) (sym node) h

-- an answer of a call that doesn't fail
abbrev pub answered : {A : Type 0} → A → Result A NoMemory
answered a = Ok a
