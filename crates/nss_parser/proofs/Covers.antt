-- What is said of a tree by the tokens that spell it: it is no larger than they are many, and where
-- they are literals, it is known.
use Rattle.std.proofs.Common.{◌≡◌, ℕ, suc, ◌+◌, ◌≤◌, List, [], ◌∷◌, ◌++◌, length, arith, length-append}
use Rattle.std.specs.List.{AllByRecursion}
use Rattle.nss_symbols.specs.Symbols.{Numbered, IsLiteral}

abbrev pub AreLiterals : List Numbered → Type 0
AreLiterals xs = AllByRecursion (λ s. IsLiteral s.symbol) xs

first : (xs ys : List Numbered) → AreLiterals (xs ++ ys) → AreLiterals xs
first [] ys h = tt
first (x ∷ xs) ys h = (h.0, first xs ys h.1)

last : (xs ys : List Numbered) → AreLiterals (xs ++ ys) → AreLiterals ys
last [] ys h = h
last (x ∷ xs) ys h = last xs ys h.1

pub record Covers (P : Type 0) (n : ℕ) (xs : List Numbered) : Type 0 where
  pub size : n ≤ length xs
  pub known : AreLiterals xs → P

pub nothing : {xs : List Numbered} → Covers (Unit {0}) 0 xs
nothing {xs = xs} = record { size = omega arith; known = λ h. tt }

-- a token of its own
pub node : {P : Type 0} {n : ℕ} {xs : List Numbered} {s : Numbered} → Covers P n xs → Covers P (1 + n) (s ∷ xs)
node h = record { size = let k = h.size in omega arith; known = λ l. h.known l.1 }

-- a token that isn't counted
pub skip : {P : Type 0} {n : ℕ} {xs : List Numbered} {s : Numbered} → Covers P n xs → Covers P n (s ∷ xs)
skip h = record { size = let k = h.size in omega arith; known = λ l. h.known l.1 }

pub join : {P Q : Type 0} {n m : ℕ} {xs ys : List Numbered} → Covers P n xs → Covers Q m ys → Covers (P × Q) (n + m) (xs ++ ys)
join {xs = xs} {ys = ys} h k = record {
  size = let a = h.size in let b = k.size in let e = length-append xs ys in omega arith;
  known = λ l. (h.known (first xs ys l), k.known (last xs ys l));
}

pub before : {P : Type 0} {n : ℕ} {xs : List Numbered} (ys : List Numbered) → Covers P n xs → Covers P n (xs ++ ys)
before {xs = xs} ys h = record {
  size = let a = h.size in let e = length-append xs ys in omega arith;
  known = λ l. h.known (first xs ys l);
}

pub after : {P : Type 0} {n : ℕ} (xs : List Numbered) {ys : List Numbered} → Covers P n ys → Covers P n (xs ++ ys)
after xs {ys = ys} h = record {
  size = let a = h.size in let e = length-append xs ys in omega arith;
  known = λ l. h.known (last xs ys l);
}

-- a counted token behind
pub behind : {P : Type 0} {n : ℕ} {xs : List Numbered} (s : Numbered) (ys : List Numbered) → Covers P n xs → Covers P (1 + n) (xs ++ s ∷ ys)
behind {xs = xs} s ys h = record {
  size = let a = h.size in let e : length (xs ++ s ∷ ys) ≡ length xs + suc (length ys) = length-append xs (s ∷ ys) in omega arith;
  known = λ l. h.known (first xs (s ∷ ys) l);
}

-- a counted token between two parts
pub between : {P Q : Type 0} {n m : ℕ} {xs ys : List Numbered} (s : Numbered) → Covers P n xs → Covers Q m ys → Covers (P × Q) (1 + (n + m)) (xs ++ s ∷ ys)
between {xs = xs} {ys = ys} s h k = record {
  size =
      let a = h.size in let b = k.size in
      let e : length (xs ++ s ∷ ys) ≡ length xs + suc (length ys) = length-append xs (s ∷ ys) in omega arith;
  known = λ l. (h.known (first xs (s ∷ ys) l), k.known (last xs (s ∷ ys) l).1);
}

-- a counted token behind a part that isn't empty
pub ended : {P : Type 0} {n : ℕ} {xs : List Numbered} {s : Numbered} (end : Numbered) → Covers P n (s ∷ xs) → Covers P (1 + n) (s ∷ (xs ++ end ∷ []))
ended {n = n} {xs = xs} end h = record {
  size = let a : n ≤ suc (length xs) = h.size in let e : length (xs ++ end ∷ []) ≡ length xs + 1 = length-append xs (end ∷ []) in omega arith;
  known = λ l. h.known (l.0, first xs (end ∷ []) l.1);
}

-- the same in other words
pub covers_as : {P Q : Type 0} {n m : ℕ} {xs : List Numbered} → Covers P n xs → (P → Q) → m ≤ n → Covers Q m xs
covers_as h f le = record { size = let a = h.size in omega arith; known = λ l. f (h.known l) }
