-- Faults among tokens: at each token no more faults than tokens of its number.
use Rattle.std.proofs.Common.{arith, ◌≡◌, ◌≢◌, ℕ, ◌+◌, ◌≤◌, ◌<◌, List, [], ◌∷◌, ◌++◌, length, Option, Some, ◌⊎◌, inl, inr, refl, sym, ap, ◌∙◌}
use Rattle.std.specs.Prelude.{◌==◌, if◌then◌else◌}
use Rattle.std.proofs.lemmas.Bool.{cases_eq, eq-eqb, ne_eqb}
use Rattle.nss_symbols.specs.Symbols.{Symbol, Numbered, numbered_from}
use Rattle.nss_symbols.specs.Symbols as symbols
use Rattle.typing_rules.specs.declared.fault.Fault.{Fault}
use Rattle.typing_rules.specs.Nodes.{Verdict, Fine, Wrong, Open, Rows, Among, asked, at, fine, two}

-- ---- counts

-- 1 where the numbers are equal
unfoldable pub hit : ℕ → ℕ → ℕ
hit n m = if m == n then 1 else 0

pub hit_cases : (n m : ℕ) → ((m ≡ n) × (hit n m ≡ 1)) ⊎ ((m ≡ n → ⊥) × (hit n m ≡ 0))
unfolding hit
hit_cases n m = by (cases_eq m n)
  where
    by : (m ≡ n) ⊎ (m ≢ n) → ((m ≡ n) × (hit n m ≡ 1)) ⊎ ((m ≡ n → ⊥) × (hit n m ≡ 0))
    by (inl e) = inl (e, ap (λ b. if b then 1 else 0) (eq-eqb m n e))
    by (inr ne) = inr (ne, ap (λ b. if b then 1 else 0) (ne_eqb m n ne))

abbrev pub fault_count : ℕ → List Fault → ℕ
fault_count n [] = 0
fault_count n (f ∷ fs) = hit n f.token + fault_count n fs

abbrev pub number_count : ℕ → List Numbered → ℕ
number_count n [] = 0
number_count n (x ∷ xs) = hit n x.number + number_count n xs

faults_append : (n : ℕ) (fs gs : List Fault) → fault_count n (fs ++ gs) ≡ fault_count n fs + fault_count n gs
faults_append n [] gs = omega arith
faults_append n (f ∷ fs) gs = let h = faults_append n fs gs in omega arith

numbers_append : (n : ℕ) (xs ys : List Numbered) → number_count n (xs ++ ys) ≡ number_count n xs + number_count n ys
numbers_append n [] ys = omega arith
numbers_append n (x ∷ xs) ys = let h = numbers_append n xs ys in omega arith

-- a verdict has one fault at most, at its token
own_count : {A : Type 0} (n m : ℕ) (v : Verdict A) → fault_count n (at m v) ≤ hit n m
own_count n m (Fine a) = omega arith
own_count n m (Wrong k) = omega arith
own_count n m Open = omega arith

-- ---- faults within tokens

pub record Within (fs : List Fault) (xs : List Numbered) : Type 0 where
  pub by : (n : ℕ) → fault_count n fs ≤ number_count n xs

pub within_none : {xs : List Numbered} → Within [] xs
within_none = record { by = λ n. omega arith }

-- a fault at the first token
pub within_own : {A : Type 0} {n : ℕ} {s : Symbol} {xs : List Numbered} (v : Verdict A) → Within (at n v) (symbols.at n s ∷ xs)
within_own {n = m} v = record { by = λ n. let a = own_count n m v in omega arith }

-- faults of parts, then one at the first token
pub within_node : {A : Type 0} {n : ℕ} {s : Symbol} {fs : List Fault} {xs : List Numbered} (v : Verdict A) → Within fs xs
    → Within (fs ++ at n v) (symbols.at n s ∷ xs)
within_node {n = m} {fs = fs} v h = record {
  by = λ n. let a = h.by n in let b = own_count n m v in let d = faults_append n fs (at m v) in omega arith;
}

-- one at the first token, then faults of others
pub within_first : {A : Type 0} {n : ℕ} {s : Symbol} {fs : List Fault} {xs : List Numbered} (v : Verdict A) → Within fs xs
    → Within (at n v ++ fs) (symbols.at n s ∷ xs)
within_first {n = m} {fs = fs} v h = record {
  by = λ n. let a = h.by n in let b = own_count n m v in let d = faults_append n (at m v) fs in omega arith;
}

-- a token without fault
pub within_skip : {fs : List Fault} {x : Numbered} {xs : List Numbered} → Within fs xs → Within fs (x ∷ xs)
within_skip h = record { by = λ n. let a = h.by n in omega arith }

pub within_join : {fs gs : List Fault} {xs ys : List Numbered} → Within fs xs → Within gs ys → Within (fs ++ gs) (xs ++ ys)
within_join {fs = fs} {gs = gs} {xs = xs} {ys = ys} h k = record {
  by = λ n.
      let a = h.by n in let b = k.by n in
      let d = faults_append n fs gs in let e = numbers_append n xs ys in omega arith;
}

-- the faults of what stands last come first
pub within_crossed : {fs gs : List Fault} {xs ys : List Numbered} → Within fs xs → Within gs ys → Within (gs ++ fs) (xs ++ ys)
within_crossed {fs = fs} {gs = gs} {xs = xs} {ys = ys} h k = record {
  by = λ n.
      let a = h.by n in let b = k.by n in
      let d = faults_append n gs fs in let e = numbers_append n xs ys in omega arith;
}

pub within_before : {fs : List Fault} {xs : List Numbered} (ys : List Numbered) → Within fs xs → Within fs (xs ++ ys)
within_before {xs = xs} ys h = record { by = λ n. let a = h.by n in let e = numbers_append n xs ys in omega arith }

pub within_alone : {fs : List Fault} {xs : List Numbered} → Within fs xs → Within (fs ++ []) xs
within_alone {fs = fs} h = record { by = λ n. let a = h.by n in let d = faults_append n fs [] in omega arith }

-- faults of two parts, then one at the token between them
pub within_infix : {A : Type 0} {fs gs : List Fault} {xs ys : List Numbered} (n : ℕ) (s : Symbol) (v : Verdict A) → Within fs xs → Within gs ys
    → Within ((fs ++ gs) ++ at n v) (xs ++ symbols.at n s ∷ ys)
within_infix {fs = fs} {gs = gs} {xs = xs} {ys = ys} m s v h k = record {
  by = λ n.
      let a = h.by n in let b = k.by n in let o = own_count n m v in
      let d = faults_append n fs gs in let e = faults_append n (fs ++ gs) (at m v) in
      let i = numbers_append n xs (symbols.at m s ∷ ys) in omega arith;
}

-- faults of a part, then one at a token behind it
pub within_suffix : {A : Type 0} {fs : List Fault} {xs : List Numbered} (n : ℕ) (s : Symbol) (ys : List Numbered) (v : Verdict A) → Within fs xs
    → Within (fs ++ at n v) (xs ++ symbols.at n s ∷ ys)
within_suffix {fs = fs} {xs = xs} m s ys v h = record {
  by = λ n.
      let a = h.by n in let o = own_count n m v in let d = faults_append n fs (at m v) in
      let i = numbers_append n xs (symbols.at m s ∷ ys) in omega arith;
}

-- ---- a function: its head and the whole of it have one token

-- where the head is at fault, the whole has a part that isn't typed
one_of_both : {A B C : Type 0} (n m : ℕ) (head : Verdict A) (o : Option B) (rows : A × B → Rows) (rule : A × B → Option C)
    → fault_count n (at m head) + fault_count n (at m (asked rows rule (two (fine head) o))) ≤ hit n m
one_of_both n m (Fine a) o rows rule = let b = own_count n m (asked rows rule (two (Some a) o)) in omega arith
one_of_both n m (Wrong k) o rows rule = omega arith
one_of_both n m Open o rows rule = omega arith

pub within_function : {A B C : Type 0} {fs gs : List Fault} {ys zs : List Numbered} (n : ℕ) (s : Symbol) (xs : List Numbered) (head : Verdict A) (o : Option B)
    (rows : A × B → Rows) (rule : A × B → Option C) → Within fs ys → Within gs zs
    → Within (((fs ++ at n head) ++ gs) ++ at n (asked rows rule (two (fine head) o))) (xs ++ symbols.at n s ∷ (ys ++ zs))
within_function {fs = fs} {gs = gs} {ys = ys} {zs = zs} m s xs head o rows rule h k = record {
  by = λ n.
      let a = h.by n in let b = k.by n in let p = one_of_both n m head o rows rule in
      let d = faults_append n fs (at m head) in
      let e = faults_append n (fs ++ at m head) gs in
      let i = faults_append n ((fs ++ at m head) ++ gs) (at m (asked rows rule (two (fine head) o))) in
      let j = numbers_append n ys zs in
      let l = numbers_append n xs (symbols.at m s ∷ (ys ++ zs)) in omega arith;
}

-- ---- tokens have one number each

abbrev Hits : ℕ → ℕ → Type 0
Hits n m = ((m ≡ n) × (hit n m ≡ 1)) ⊎ ((m ≡ n → ⊥) × (hit n m ≡ 0))

-- a token of another number, before tokens of which none has this number
none_more : (n k count : ℕ) → (k ≡ n → ⊥) → count ≡ 0 → Hits n k → hit n k + count ≡ 0
none_more n k count ne h (inl e) = absurd (ne e.0)
none_more n k count ne h (inr e) = let a = e.1 in omega (arith, h, a)

numbers_below : (n k : ℕ) (tokens : List Symbol) → n < k → number_count n (numbered_from k tokens) ≡ 0
numbers_below n k [] h = refl
numbers_below n k (t ∷ ts) h =
    none_more n k (number_count n (numbered_from (k + 1) ts)) (λ e. omega (arith, e, h)) (numbers_below n (k + 1) ts (omega (arith, h))) (hit_cases n k)

numbers_above : (n k : ℕ) (tokens : List Symbol) → k + length tokens ≤ n → number_count n (numbered_from k tokens) ≡ 0
numbers_above n k [] h = refl
numbers_above n k (t ∷ ts) h =
    none_more n k (number_count n (numbered_from (k + 1) ts)) (λ e. omega (arith, e, h)) (numbers_above n (k + 1) ts (omega (arith, h))) (hit_cases n k)

once_more : (n k count : ℕ) → (n < k + 1 → count ≡ 0) → count ≤ 1 → Hits n k → hit n k + count ≤ 1
once_more n k count none h (inl e) = let a = e.1 in let b = none (omega (arith, e.0)) in omega (arith, a, b)
once_more n k count none h (inr e) = let a = e.1 in omega (arith, a, h)

numbers_once : (n k : ℕ) (tokens : List Symbol) → number_count n (numbered_from k tokens) ≤ 1
numbers_once n k [] = omega arith
numbers_once n k (t ∷ ts) =
    once_more n k (number_count n (numbered_from (k + 1) ts)) (numbers_below n (k + 1) ts) (numbers_once n (k + 1) ts) (hit_cases n k)

-- the faults of the items, and one behind all tokens
pub once_with_end : {A : Type 0} (tokens : List Symbol) (count : ℕ) (fs : List Fault) (v : Verdict A) → count ≡ length tokens
    → Within fs (numbered_from 0 tokens) → (n : ℕ) → fault_count n (fs ++ at count v) ≤ 1
once_with_end {A = A} tokens count fs v e h n = by (hit_cases n count)
  where
    by : ((count ≡ n) × (hit n count ≡ 1)) ⊎ ((count ≡ n → ⊥) × (hit n count ≡ 0)) → fault_count n (fs ++ at count v) ≤ 1
    by (inl i) =
        let a = h.by n in let b = own_count n count v in let d = faults_append n fs (at count v) in
        let j = i.0 in let k = i.1 in let l = numbers_above n 0 tokens (omega arith) in omega arith
    by (inr i) =
        let a = h.by n in let b = own_count n count v in let d = faults_append n fs (at count v) in
        let k = i.1 in let l = numbers_once n 0 tokens in omega arith

-- ---- lists with one fault at each token

hit_same : (n m : ℕ) → m ≡ n → hit n m ≡ 1
hit_same n m e = by (hit_cases n m)
  where
    by : ((m ≡ n) × (hit n m ≡ 1)) ⊎ ((m ≡ n → ⊥) × (hit n m ≡ 0)) → hit n m ≡ 1
    by (inl h) = h.1
    by (inr h) = absurd (h.0 e)

among_counts : (n : ℕ) (fs : List Fault) (f : Fault) → f.token ≡ n → Among f fs → 1 ≤ fault_count n fs
among_counts n [] f e h = absurd h
among_counts n (g ∷ gs) f e (inl h) = let a = hit_same n g.token (ap Fault.token h ∙ e) in omega arith
among_counts n (g ∷ gs) f e (inr h) = let a = among_counts n gs f e h in omega arith

pub once_is_one : (fs : List Fault) (f g : Fault) → ((n : ℕ) → fault_count n fs ≤ 1) → Among f fs → Among g fs → f.token ≡ g.token → f ≡ g
once_is_one [] f g once h k e = absurd h
once_is_one (x ∷ xs) f g once (inl h) (inl k) e = sym h ∙ k
once_is_one (x ∷ xs) f g once (inl h) (inr k) e =
    let a = hit_same g.token x.token (ap Fault.token h ∙ e) in let b = among_counts g.token xs g refl k in let d = once g.token in absurd (omega arith)
once_is_one (x ∷ xs) f g once (inr h) (inl k) e =
    let a = hit_same g.token x.token (ap Fault.token k) in let b = among_counts g.token xs f e h in let d = once g.token in absurd (omega arith)
once_is_one (x ∷ xs) f g once (inr h) (inr k) e = once_is_one xs f g (λ n. let d = once n in omega arith) h k e
