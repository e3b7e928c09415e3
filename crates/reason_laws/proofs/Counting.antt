-- Nodes among tokens: at each token no more nodes than tokens of its number.
use Rattle.std.proofs.Common.{arith, ◌≡◌, ◌≢◌, ℕ, ◌+◌, ◌≤◌, ◌<◌, Bool, true, false, List, [], ◌∷◌, ◌++◌, Option, None, Some, ◌⊎◌, inl, inr, refl, ap, ◌∙◌}
use Rattle.std.specs.Prelude.{◌==◌, if◌then◌else◌}
use Rattle.std.proofs.lemmas.Bool.{cases_eq, eq-eqb, ne_eqb}
use Rattle.nss_symbols.specs.Symbols.{Symbol, Numbered, numbered_from}
use Rattle.nss_symbols.specs.Symbols as symbols
use Rattle.typing_rules.specs.declared.fault.FaultKind.{FaultKind}
use Rattle.expression_reasons.specs.declared.reason.Reason.{Reason}
use Rattle.expression_reasons.specs.Seen.{Node, first_of, own, seen}
use Rattle.reason_laws.specs.Laws.{Tells}
use Rattle.reason_laws.proofs.Told.{Has}

-- 1 where the numbers are equal
unfoldable pub hit : ℕ → ℕ → ℕ
hit n m = if m == n then 1 else 0

abbrev Hits : ℕ → ℕ → Type 0
Hits n m = ((m ≡ n) × (hit n m ≡ 1)) ⊎ ((m ≡ n → ⊥) × (hit n m ≡ 0))

hit_cases : (n m : ℕ) → Hits n m
unfolding hit
hit_cases n m = by (cases_eq m n)
  where
    by : (m ≡ n) ⊎ (m ≢ n) → ((m ≡ n) × (hit n m ≡ 1)) ⊎ ((m ≡ n → ⊥) × (hit n m ≡ 0))
    by (inl e) = inl (e, ap (λ b. if b then 1 else 0) (eq-eqb m n e))
    by (inr ne) = inr (ne, ap (λ b. if b then 1 else 0) (ne_eqb m n ne))

abbrev pub node_count : ℕ → List Node → ℕ
node_count n [] = 0
node_count n (x ∷ xs) = hit n x.token + node_count n xs

abbrev pub number_count : ℕ → List Numbered → ℕ
number_count n [] = 0
number_count n (x ∷ xs) = hit n x.number + number_count n xs

nodes_append : (n : ℕ) (xs ys : List Node) → node_count n (xs ++ ys) ≡ node_count n xs + node_count n ys
nodes_append n [] ys = omega arith
nodes_append n (x ∷ xs) ys = let h = nodes_append n xs ys in omega arith

numbers_append : (n : ℕ) (xs ys : List Numbered) → number_count n (xs ++ ys) ≡ number_count n xs + number_count n ys
numbers_append n [] ys = omega arith
numbers_append n (x ∷ xs) ys = let h = numbers_append n xs ys in omega arith

-- ---- nodes within tokens

pub record Within (xs : List Node) (ts : List Numbered) : Type 0 where
  pub by : (n : ℕ) → node_count n xs ≤ number_count n ts

pub within_none : {ts : List Numbered} → Within [] ts
within_none = record { by = λ n. omega arith }

-- a node at the first token
pub within_own : {n : ℕ} {s : Symbol} {ts : List Numbered} {why : Option Reason} → Within (own n why) (symbols.at n s ∷ ts)
within_own = record { by = λ n. omega arith }

-- a token without node
pub within_skip : {xs : List Node} {t : Numbered} {ts : List Numbered} → Within xs ts → Within xs (t ∷ ts)
within_skip h = record { by = λ n. let a = h.by n in omega arith }

-- nodes of parts, then one at the first token
pub within_node : {n : ℕ} {s : Symbol} {xs : List Node} {ts : List Numbered} (why : Option Reason) → Within xs ts → Within (xs ++ own n why) (symbols.at n s ∷ ts)
within_node {n = m} {xs = xs} why h = record { by = λ n. let a = h.by n in let d = nodes_append n xs (own m why) in omega arith }

-- one between nodes of parts, whose first token it is
pub within_tested : {n : ℕ} {s : Symbol} {ts : List Numbered} (xs ys : List Node) (why : Option Reason) → Within (xs ++ ys) ts → Within ((xs ++ own n why) ++ ys) (symbols.at n s ∷ ts)
within_tested {n = m} xs ys why h = record {
  by = λ n.
      let a = h.by n in let d = nodes_append n xs ys in let e = nodes_append n (xs ++ own m why) ys in
      let f = nodes_append n xs (own m why) in omega arith;
}

pub within_condition : {n : ℕ} {s : Symbol} {ts : List Numbered} (xs ys zs : List Node) (why : Option Reason) → Within (xs ++ (ys ++ zs)) ts
    → Within (xs ++ ((ys ++ own n why) ++ zs)) (symbols.at n s ∷ ts)
within_condition {n = m} xs ys zs why h = record {
  by = λ n.
      let a = h.by n in let d = nodes_append n xs (ys ++ zs) in let e = nodes_append n ys zs in
      let f = nodes_append n xs ((ys ++ own m why) ++ zs) in let g = nodes_append n (ys ++ own m why) zs in
      let i = nodes_append n ys (own m why) in omega arith;
}

pub within_join : {xs ys : List Node} {ts us : List Numbered} → Within xs ts → Within ys us → Within (xs ++ ys) (ts ++ us)
within_join {xs = xs} {ys = ys} {ts = ts} {us = us} h k = record {
  by = λ n.
      let a = h.by n in let b = k.by n in
      let d = nodes_append n xs ys in let e = numbers_append n ts us in omega arith;
}

-- the nodes of what stands last come first
pub within_crossed : {xs ys : List Node} {ts us : List Numbered} → Within xs ts → Within ys us → Within (ys ++ xs) (ts ++ us)
within_crossed {xs = xs} {ys = ys} {ts = ts} {us = us} h k = record {
  by = λ n.
      let a = h.by n in let b = k.by n in
      let d = nodes_append n ys xs in let e = numbers_append n ts us in omega arith;
}

pub within_before : {xs : List Node} {ts : List Numbered} (us : List Numbered) → Within xs ts → Within xs (ts ++ us)
within_before {ts = ts} us h = record { by = λ n. let a = h.by n in let e = numbers_append n ts us in omega arith }

pub within_behind : {xs : List Node} {us : List Numbered} (ts : List Numbered) → Within xs us → Within xs (ts ++ us)
within_behind {us = us} ts h = record { by = λ n. let a = h.by n in let e = numbers_append n ts us in omega arith }

pub within_alone : {xs : List Node} {ts : List Numbered} → Within xs ts → Within (xs ++ []) ts
within_alone {xs = xs} h = record { by = λ n. let a = h.by n in let d = nodes_append n xs [] in omega arith }

-- nodes of two parts, then one at the token between them
pub within_infix : {xs ys : List Node} {ts us : List Numbered} (n : ℕ) (s : Symbol) (why : Option Reason) → Within xs ts → Within ys us
    → Within (xs ++ (ys ++ own n why)) (ts ++ symbols.at n s ∷ us)
within_infix {xs = xs} {ys = ys} {ts = ts} {us = us} m s why h k = record {
  by = λ n.
      let a = h.by n in let b = k.by n in
      let d = nodes_append n xs (ys ++ own m why) in let e = nodes_append n ys (own m why) in
      let i = numbers_append n ts (symbols.at m s ∷ us) in omega arith;
}

-- nodes of a part, then one at a token behind it
pub within_suffix : {xs : List Node} {ts : List Numbered} (n : ℕ) (s : Symbol) (us : List Numbered) (why : Option Reason) → Within xs ts
    → Within (xs ++ own n why) (ts ++ symbols.at n s ∷ us)
within_suffix {xs = xs} {ts = ts} m s us why h = record {
  by = λ n.
      let a = h.by n in let d = nodes_append n xs (own m why) in
      let i = numbers_append n ts (symbols.at m s ∷ us) in omega arith;
}

-- ---- tokens have one number each

none_more : (n k count : ℕ) → (k ≡ n → ⊥) → count ≡ 0 → Hits n k → hit n k + count ≡ 0
none_more n k count ne h (inl e) = absurd (ne e.0)
none_more n k count ne h (inr e) = let a = e.1 in omega (arith, h, a)

numbers_below : (n k : ℕ) (tokens : List Symbol) → n < k → number_count n (numbered_from k tokens) ≡ 0
numbers_below n k [] h = refl
numbers_below n k (t ∷ ts) h =
    none_more n k (number_count n (numbered_from (k + 1) ts)) (λ e. omega (arith, e, h)) (numbers_below n (k + 1) ts (omega (arith, h))) (hit_cases n k)

once_more : (n k count : ℕ) → (n < k + 1 → count ≡ 0) → count ≤ 1 → Hits n k → hit n k + count ≤ 1
once_more n k count none h (inl e) = let a = e.1 in let b = none (omega (arith, e.0)) in omega (arith, a, b)
once_more n k count none h (inr e) = let a = e.1 in omega (arith, a, h)

numbers_once : (n k : ℕ) (tokens : List Symbol) → number_count n (numbered_from k tokens) ≤ 1
numbers_once n k [] = omega arith
numbers_once n k (t ∷ ts) =
    once_more n k (number_count n (numbered_from (k + 1) ts)) (numbers_below n (k + 1) ts) (numbers_once n (k + 1) ts) (hit_cases n k)

pub nodes_once : {xs : List Node} (tokens : List Symbol) → Within xs (numbered_from 0 tokens) → (n : ℕ) → node_count n xs ≤ 1
nodes_once tokens h n = let a = h.by n in let b = numbers_once n 0 tokens in omega arith

-- ---- so the reason that is found is that of the one node

hit_same : (n m : ℕ) → m ≡ n → hit n m ≡ 1
hit_same n m e = by (hit_cases n m)
  where
    by : Hits n m → hit n m ≡ 1
    by (inl h) = h.1
    by (inr h) = absurd (h.0 e)

has_counts : (n : ℕ) (k : FaultKind) (xs : List Node) → Has n k xs → 1 ≤ node_count n xs
has_counts n k [] h = absurd h
has_counts n k (x ∷ xs) (inl h) = let a = hit_same n x.token h.token in omega arith
has_counts n k (x ∷ xs) (inr h) = let a = has_counts n k xs h in omega arith

-- what is found stays
still : (b : Bool) (r : Reason) (o : Option Reason) → (if b then first_of (Some r) o else Some r) ≡ Some r
still true r o = refl
still false r o = refl

seen_kept : (n : ℕ) (r : Reason) (xs : List Node) → seen n (Some r) xs ≡ Some r
seen_kept n r [] = refl
seen_kept n r (x ∷ xs) = ap (λ o. seen n o xs) (still (x.token == n) r x.why) ∙ seen_kept n r xs

pub found_of_one : (n : ℕ) (k : FaultKind) (xs : List Node) → Has n k xs → node_count n xs ≤ 1 → Tells (seen n None xs) k
found_of_one n k [] h once = absurd h
found_of_one n k (x ∷ xs) (inl h) once = record {
  reason = h.tells.reason;
  is = ap (λ b. seen n (if b then first_of None x.why else None) xs) (eq-eqb x.token n h.token) ∙ (ap (λ o. seen n o xs) h.tells.is ∙ seen_kept n h.tells.reason xs);
  kind = h.tells.kind;
}
found_of_one n k (x ∷ xs) (inr h) few = by (found_of_one n k xs h) (hit_cases n x.token)
  where
    by : (node_count n xs ≤ 1 → Tells (seen n None xs) k) → Hits n x.token → Tells (seen n None (x ∷ xs)) k
    by more (inl e) = let a = e.1 in let b = has_counts n k xs h in absurd (omega (arith, few))
    by more (inr e) =
        let rest = more (omega (arith, few)) in
        record {
          reason = rest.reason;
          is = ap (λ b. seen n (if b then first_of None x.why else None) xs) (ne_eqb x.token n e.0) ∙ rest.is;
          kind = rest.kind;
        }
