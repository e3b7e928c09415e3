-- Nodes among tokens: no more nodes than tokens, and the nodes' numbers are numbers of the tokens.
use Rattle.std.proofs.Common.{◌≡◌, ℕ, suc, ◌+◌, ◌<◌, ◌≤◌, List, [], ◌∷◌, ◌++◌, length, sym, subst, arith, append-nil, length-append}
use Rattle.std.specs.List.{AllByRecursion}
use Rattle.nss_symbols.specs.Symbols.{Symbol, Numbered, at}

all_join : {A : Type 0} (P : A → Type 0) (xs ys : List A) → AllByRecursion P xs → AllByRecursion P ys → AllByRecursion P (xs ++ ys)
all_join P [] ys h k = k
all_join P (x ∷ xs) ys h k = (h.0, all_join P xs ys h.1 k)

all_first : {A : Type 0} (P : A → Type 0) (xs ys : List A) → AllByRecursion P (xs ++ ys) → AllByRecursion P xs
all_first P [] ys h = tt
all_first P (x ∷ xs) ys h = (h.0, all_first P xs ys h.1)

all_last : {A : Type 0} (P : A → Type 0) (xs ys : List A) → AllByRecursion P (xs ++ ys) → AllByRecursion P ys
all_last P [] ys h = h
all_last P (x ∷ xs) ys h = all_last P xs ys h.1

abbrev pub AreBelow : ℕ → List Numbered → Type 0
AreBelow c xs = AllByRecursion (λ s. s.number < c) xs

pub record Sits (c : ℕ) (ps : List ℕ) (xs : List Numbered) : Type 0 where
  pub count : length ps ≤ length xs
  pub below : AreBelow c xs → AllByRecursion (λ n. n < c) ps

pub sits_none : {c : ℕ} {xs : List Numbered} → Sits c [] xs
sits_none {xs = xs} = record { count = omega arith; below = λ h. tt }

-- a node whose token comes first
pub sits_node : {c : ℕ} {ps : List ℕ} {xs : List Numbered} {s : Symbol} {n : ℕ} → Sits c ps xs → Sits c (n ∷ ps) (at n s ∷ xs)
sits_node h = record { count = let k = h.count in omega arith; below = λ b. (b.0, h.below b.1) }

-- a token that is no node's
pub sits_skip : {c : ℕ} {ps : List ℕ} {xs : List Numbered} {s : Numbered} → Sits c ps xs → Sits c ps (s ∷ xs)
sits_skip h = record { count = let k = h.count in omega arith; below = λ b. h.below b.1 }

pub sits_join : {c : ℕ} {ps qs : List ℕ} {xs ys : List Numbered} → Sits c ps xs → Sits c qs ys → Sits c (ps ++ qs) (xs ++ ys)
sits_join {c = c} {ps = ps} {qs = qs} {xs = xs} {ys = ys} h k = record {
  count = let a = h.count in let b = k.count in let d = length-append ps qs in let e = length-append xs ys in omega arith;
  below = λ b. all_join (λ n. n < c) ps qs (h.below (all_first (λ s. s.number < c) xs ys b)) (k.below (all_last (λ s. s.number < c) xs ys b));
}

-- tokens after the nodes, and before them
pub sits_before : {c : ℕ} {ps : List ℕ} {xs : List Numbered} (ys : List Numbered) → Sits c ps xs → Sits c ps (xs ++ ys)
sits_before {c = c} {xs = xs} ys h = record {
  count = let a = h.count in let e = length-append xs ys in omega arith;
  below = λ b. h.below (all_first (λ s. s.number < c) xs ys b);
}

pub sits_after : {c : ℕ} {ps : List ℕ} (xs : List Numbered) {ys : List Numbered} → Sits c ps ys → Sits c ps (xs ++ ys)
sits_after {c = c} xs {ys = ys} h = record {
  count = let a = h.count in let e = length-append xs ys in omega arith;
  below = λ b. h.below (all_last (λ s. s.number < c) xs ys b);
}

pub sits_alone : {c : ℕ} {ps : List ℕ} {xs : List Numbered} → Sits c ps xs → Sits c (ps ++ []) xs
sits_alone {c = c} {ps = ps} {xs = xs} h = subst (λ (z : List ℕ). Sits c z xs) (sym (append-nil ps)) h

-- a node whose token stands between its parts
pub sits_infix : {c : ℕ} {ps qs : List ℕ} {xs ys : List Numbered} {n : ℕ} (s : Symbol) → Sits c ps xs → Sits c qs ys → Sits c (n ∷ (ps ++ qs)) (xs ++ at n s ∷ ys)
sits_infix {c = c} {ps = ps} {qs = qs} {xs = xs} {ys = ys} {n = n} s h k = record {
  count =
      let a = h.count in let b = k.count in let d = length-append ps qs in
      let e : length (xs ++ at n s ∷ ys) ≡ length xs + suc (length ys) = length-append xs (at n s ∷ ys) in omega arith;
  below = λ b.
      let last = all_last (λ t. t.number < c) xs (at n s ∷ ys) b in
      (last.0, all_join (λ m. m < c) ps qs (h.below (all_first (λ t. t.number < c) xs (at n s ∷ ys) b)) (k.below last.1));
}

-- a node whose token stands after its part
pub sits_suffix : {c : ℕ} {ps : List ℕ} {xs : List Numbered} {n : ℕ} (s : Symbol) (ys : List Numbered) → Sits c ps xs → Sits c (n ∷ ps) (xs ++ at n s ∷ ys)
sits_suffix {c = c} {ps = ps} {xs = xs} {n = n} s ys h = record {
  count = let a = h.count in let e : length (xs ++ at n s ∷ ys) ≡ length xs + suc (length ys) = length-append xs (at n s ∷ ys) in omega arith;
  below = λ b. ((all_last (λ t. t.number < c) xs (at n s ∷ ys) b).0, h.below (all_first (λ t. t.number < c) xs (at n s ∷ ys) b));
}

-- a node that shares its token with its part
pub sits_same : {c : ℕ} {ps : List ℕ} {xs : List Numbered} {s : Symbol} {n : ℕ} (end : Numbered) → Sits c ps (at n s ∷ xs) → Sits c (n ∷ ps) (at n s ∷ (xs ++ end ∷ []))
sits_same {c = c} {ps = ps} {xs = xs} {s = s} {n = n} end h = record {
  count =
      let a : length ps ≤ suc (length xs) = h.count in
      let e : length (xs ++ end ∷ []) ≡ length xs + 1 = length-append xs (end ∷ []) in omega arith;
  below = λ b. (b.0, h.below (b.0, all_first (λ t. t.number < c) xs (end ∷ []) b.1));
}
