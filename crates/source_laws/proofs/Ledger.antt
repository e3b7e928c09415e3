-- Pieces of a run one after another, and the cases of an evaluation.
use Rattle.std.proofs.Common.{arith, ◌≡◌, ◌≤◌, ◌+◌, ℕ, zero, suc, Bool, true, false, Some, sym, ◌∙◌, ap, refl, zero-add}
use Rattle.saved_state.specs.declared.saved.Saved.{Saved}
use Rattle.world_rules.specs.World.{World}
use Rattle.world_rules.specs.Alike.{Alike}
use Rattle.machine_rules.specs.Machine.{Goes, step}
use Rattle.machine_rules.specs.Runs.{Ran, run, after_step}
use Rattle.source_meaning.specs.Evaluation.{Deferred, Progress, Outcome, Gives, Divides, OutOfSteps, bind, spend, spend_of, chosen}
use Rattle.source_laws.specs.Ledger.{Machine, MachineHost, later, Took, Sim}

recount : (r : Ran (World Saved)) (m n : ℕ) → m ≡ n → record r { count = m } ≡ record r { count = n }
recount r m n e = ap (λ (k : ℕ). record r { count = k }) e

module _ (host : MachineHost) where
  none_goes : (s : Machine) (k : ℕ) → run host (0 + k) s ≡ later 0 (run host k s)
  none_goes s k = ap (λ (m : ℕ). run host m s) (zero-add k) ∙ recount (run host k s) (run host k s).count (0 + (run host k s).count) (sym (zero-add (run host k s).count))

  pub took_none : (n c : ℕ) (s : Machine) → Took host n c s n c s
  took_none n c s = record { count = 0; goes = none_goes s; spent = omega arith; paid = omega arith; few = omega arith }

  one_first : (k : ℕ) → 1 + k ≡ suc k
  one_first k = omega arith

  one_goes : (s t : Machine) → step host s ≡ Some (Goes t) → (k : ℕ) → run host (1 + k) s ≡ later 1 (run host k t)
  one_goes s t h k =
      ap (λ (m : ℕ). run host m s) (one_first k)
      ∙ ap (λ next. after_step next s (run host k)) h
      ∙ recount (run host k t) (suc (run host k t).count) (1 + (run host k t).count) (sym (one_first (run host k t).count))

  -- an instruction that costs a credit, and one with a step
  pub took_free : (n c : ℕ) (s t : Machine) → step host s ≡ Some (Goes t) → Took host n (suc c) s n c t
  took_free n c s t h = record { count = 1; goes = one_goes s t h; spent = omega arith; paid = omega arith; few = omega arith }

  pub took_paid : (n c : ℕ) (s t : Machine) → step host s ≡ Some (Goes t) → Took host (suc n) c s n (15 + c) t
  took_paid n c s t h = record { count = 1; goes = one_goes s t h; spent = omega arith; paid = omega arith; few = omega arith }

  -- an instruction that costs one of the credits
  pub took_cost : (n c d : ℕ) (s t : Machine) → d + 1 ≤ c → step host s ≡ Some (Goes t) → Took host n c s n d t
  took_cost n c d s t less h = record { count = 1; goes = one_goes s t h; spent = omega arith; paid = omega arith; few = omega arith }

  then_goes : (a b : ℕ) (s t u : Machine) → ((k : ℕ) → run host (a + k) s ≡ later a (run host k t)) → ((k : ℕ) → run host (b + k) t ≡ later b (run host k u))
      → (k : ℕ) → run host (a + b + k) s ≡ later (a + b) (run host k u)
  then_goes a b s t u g h k =
      let first : a + b + k ≡ a + (b + k) = omega arith in
      let last : a + (b + (run host k u).count) ≡ a + b + (run host k u).count = omega arith in
      ap (λ (m : ℕ). run host m s) first ∙ g (b + k) ∙ ap (later a) (h k) ∙ recount (run host k u) (a + (b + (run host k u).count)) (a + b + (run host k u).count) last

  pub took_then : {n c : ℕ} {s : Machine} {m d : ℕ} {t : Machine} {l e : ℕ} {u : Machine} → Took host n c s m d t → Took host m d t l e u → Took host n c s l e u
  took_then {s = s} {t = t} {u = u} a b = record {
    count = a.count + b.count;
    goes = then_goes a.count b.count s t u a.goes b.goes;
    spent = let x = a.spent in let y = b.spent in omega arith;
    paid = let x = a.paid in let y = b.paid in omega arith;
    few = let x = a.few in let y = b.few in omega arith;
  }

  -- credits may be dropped
  pub took_less : {n c : ℕ} {s : Machine} {m d : ℕ} {t : Machine} (e : ℕ) → e ≤ d → Took host n c s m d t → Took host n c s m e t
  took_less e less a = record { count = a.count; goes = a.goes; spent = a.spent; paid = a.paid; few = let x = a.few in omega arith }

module _ (host : MachineHost) (R : Saved → Deferred → Type 0) where
  -- instructions before an evaluation
  pub sim_after : {A : Type 0} (B : A → Progress → Type 0) (place : (a : A) (p : Progress) → B a p → Machine) {n c : ℕ} {s : Machine} {m d : ℕ} {t : Machine} (e : A → ℕ) (r : Outcome A)
      → Took host n c s m d t → Sim host R B place m d t e r → Sim host R B place n c s e r
  sim_after B place e (Gives a p) k h = (h.0, took_then host k h.1)
  sim_after B place e (Divides self p) k h = (h.0, took_then host k h.1, h.2, h.3, h.4)
  sim_after B place e (OutOfSteps p) k h = (h.0, took_then host k h.1, h.2)

  -- one evaluation after another
  pub sim_bind : {A C : Type 0} (B : A → Progress → Type 0) (place : (a : A) (p : Progress) → B a p → Machine)
      (D : C → Progress → Type 0) (there : (a : C) (p : Progress) → D a p → Machine)
      (n c : ℕ) (s : Machine) (d : A → ℕ) (e : C → ℕ) (r : Outcome A) (go : A → Progress → Outcome C)
      → Sim host R B place n c s d r
      → ((a : A) (p : Progress) (b : B a p) → p.left ≤ n → Sim host R D there p.left (d a) (place a p b) e (go a p))
      → Sim host R D there n c s e (bind r go)
  unfolding bind
  sim_bind B place D there n c s d e (Gives a p) go h k = sim_after D there e (go a p) h.1 (k a p h.0 h.1.spent)
  sim_bind B place D there n c s d e (Divides self p) go h k = h
  sim_bind B place D there n c s d e (OutOfSteps p) go h k = h

  -- a step, with the instruction that is made for it
  spend_case : {A : Type 0} (B : A → Progress → Type 0) (place : (a : A) (p : Progress) → B a p → Machine)
      (c : ℕ) (s t : Machine) (e : A → ℕ) (p : Progress) (go : Progress → Outcome A) (left : ℕ) → p.left ≡ left
      → step host s ≡ Some (Goes t) → Alike R s.world p.world
      → ((m : ℕ) → p.left ≡ suc m → Sim host R B place m (15 + c) t e (go (record p { left = m })))
      → Sim host R B place left c s e (spend_of left p go)
  spend_case B place c s t e p go zero is h alike k = (s, took_less host 0 (omega arith) (took_none host 0 c s), alike)
  spend_case B place c s t e p go (suc m) is h alike k = sim_after B place e (go (record p { left = m })) (took_paid host m c s t h) (k m is)

  pub sim_spend : {A : Type 0} (B : A → Progress → Type 0) (place : (a : A) (p : Progress) → B a p → Machine)
      (c : ℕ) (s t : Machine) (e : A → ℕ) (p : Progress) (go : Progress → Outcome A)
      → step host s ≡ Some (Goes t) → Alike R s.world p.world
      → ((m : ℕ) → p.left ≡ suc m → Sim host R B place m (15 + c) t e (go (record p { left = m })))
      → Sim host R B place p.left c s e (spend p go)
  unfolding spend
  sim_spend B place c s t e p go h alike k = spend_case B place c s t e p go p.left refl h alike k

  -- the same where the instruction is known once a step is left
  paid_case : {A : Type 0} (B : A → Progress → Type 0) (place : (a : A) (p : Progress) → B a p → Machine)
      (c : ℕ) (s : Machine) (e : A → ℕ) (p : Progress) (go : Progress → Outcome A) (left : ℕ) → p.left ≡ left → Alike R s.world p.world
      → ((m : ℕ) → p.left ≡ suc m → (t : Machine) × (step host s ≡ Some (Goes t)) × Sim host R B place m (15 + c) t e (go (record p { left = m })))
      → Sim host R B place left c s e (spend_of left p go)
  paid_case B place c s e p go zero is alike k = (s, took_less host 0 (omega arith) (took_none host 0 c s), alike)
  paid_case B place c s e p go (suc m) is alike k = let x = k m is in sim_after B place e (go (record p { left = m })) (took_paid host m c s x.0 x.1) x.2

  pub sim_paid : {A : Type 0} (B : A → Progress → Type 0) (place : (a : A) (p : Progress) → B a p → Machine)
      (c : ℕ) (s : Machine) (e : A → ℕ) (p : Progress) (go : Progress → Outcome A) → Alike R s.world p.world
      → ((m : ℕ) → p.left ≡ suc m → (t : Machine) × (step host s ≡ Some (Goes t)) × Sim host R B place m (15 + c) t e (go (record p { left = m })))
      → Sim host R B place p.left c s e (spend p go)
  unfolding spend
  sim_paid B place c s e p go alike k = paid_case B place c s e p go p.left refl alike k

  -- one of two ways
  pub sim_chosen : {A : Type 0} (B : A → Progress → Type 0) (place : (a : A) (p : Progress) → B a p → Machine)
      (n c : ℕ) (s : Machine) (e : A → ℕ) (b : Bool) (go other : Progress → Outcome A) (p : Progress)
      → (b ≡ true → Sim host R B place n c s e (go p)) → (b ≡ false → Sim host R B place n c s e (other p)) → Sim host R B place n c s e (chosen b go other p)
  sim_chosen B place n c s e true go other p h k = h refl
  sim_chosen B place n c s e false go other p h k = k refl

  -- a value's place by further instructions
  pub sim_map : {A : Type 0} (B : A → Progress → Type 0) (place : (a : A) (p : Progress) → B a p → Machine)
      (D : A → Progress → Type 0) (there : (a : A) (p : Progress) → D a p → Machine) (n c : ℕ) (s : Machine) (d e : A → ℕ) (r : Outcome A)
      → Sim host R B place n c s d r
      → ((a : A) (p : Progress) (b : B a p) → (x : D a p) × Took host p.left (d a) (place a p b) p.left (e a) (there a p x))
      → Sim host R D there n c s e r
  sim_map B place D there n c s d e (Gives a p) h k = let x = k a p h.0 in (x.0, took_then host h.1 x.1)
  sim_map B place D there n c s d e (Divides self p) h k = h
  sim_map B place D there n c s d e (OutOfSteps p) h k = h
