-- What the cursor's view is by the tokens ahead.
use Rattle.std.proofs.Common.{◌≡◌, ℕ, suc, ◌+◌, ◌<◌, ◌≤◌, List, [], ◌∷◌, length, map, get_or, drop, None, Some, refl, sym, ap, subst, ◌∙◌, arith}
use Rattle.nss_symbols.specs.declared.symbol.Seen.{Seen}
use Rattle.nss_symbols.specs.Symbols.{Numbered, numbered_from}
use Rattle.nss_symbols.specs.Outcome.{Got, Stuck, first, here, take}
use Rattle.nss_symbols.specs.Cursor.{plain_symbol}

pub left_is : (n : ℕ) (xs : List Seen) → length (numbered_from n (map plain_symbol xs)) ≡ length xs
left_is n [] = refl
left_is n (x ∷ xs) = ap suc (left_is (n + 1) xs)

pub left_of : (n : ℕ) (xs : List Seen) (v : List Numbered) → numbered_from n (map plain_symbol xs) ≡ v → length xs ≡ length v
left_of n xs v e = sym (left_is n xs) ∙ ap length e

first_empty : (n : ℕ) (xs : List Seen) → length xs < 1 → None ≡ first (numbered_from n (map plain_symbol xs))
unfolding first
first_empty n [] h = refl
first_empty n (x ∷ xs) h = absurd (omega arith)

pub first_none : (n : ℕ) (xs : List Seen) (v : List Numbered) → numbered_from n (map plain_symbol xs) ≡ v → length xs < 1 → None ≡ first v
first_none n xs v e h = first_empty n xs h ∙ ap first e

first_full : (n : ℕ) (xs : List Seen) (d : Seen) → 1 ≤ length xs → Some (plain_symbol (get_or xs 0 d)) ≡ first (numbered_from n (map plain_symbol xs))
unfolding first
first_full n [] d h = absurd (omega arith)
first_full n (x ∷ xs) d h = refl

pub first_some : (n : ℕ) (xs : List Seen) (v : List Numbered) (d : Seen) → numbered_from n (map plain_symbol xs) ≡ v → 1 ≤ length xs → Some (plain_symbol (get_or xs 0 d)) ≡ first v
first_some n xs v d e h = first_full n xs d h ∙ ap first e

here_empty : (n : ℕ) (xs : List Seen) → length xs < 1 → here (numbered_from n (map plain_symbol xs)) ≡ Stuck (numbered_from n (map plain_symbol xs))
unfolding here
here_empty n [] h = refl
here_empty n (x ∷ xs) h = absurd (omega arith)

pub here_none : (n : ℕ) (xs : List Seen) (v : List Numbered) → numbered_from n (map plain_symbol xs) ≡ v → length xs < 1 → here v ≡ Stuck v
here_none n xs v e h = subst (λ (z : List Numbered). here z ≡ Stuck z) e (here_empty n xs h)

here_full : (n : ℕ) (xs : List Seen) → 1 ≤ length xs → here (numbered_from n (map plain_symbol xs)) ≡ Got n (numbered_from n (map plain_symbol xs))
unfolding here
here_full n [] h = absurd (omega arith)
here_full n (x ∷ xs) h = refl

pub here_some : (n : ℕ) (xs : List Seen) (v : List Numbered) → numbered_from n (map plain_symbol xs) ≡ v → 1 ≤ length xs → here v ≡ Got n v
here_some n xs v e h = subst (λ (z : List Numbered). here z ≡ Got n z) e (here_full n xs h)

take_empty : (n : ℕ) (xs : List Seen) → length xs < 1 → take (numbered_from n (map plain_symbol xs)) ≡ Stuck (numbered_from n (map plain_symbol xs))
unfolding take
take_empty n [] h = refl
take_empty n (x ∷ xs) h = absurd (omega arith)

pub take_none : (n : ℕ) (xs : List Seen) (v : List Numbered) → numbered_from n (map plain_symbol xs) ≡ v → length xs < 1 → take v ≡ Stuck v
take_none n xs v e h = subst (λ (z : List Numbered). take z ≡ Stuck z) e (take_empty n xs h)

take_full : (n : ℕ) (xs : List Seen) → 1 ≤ length xs → take (numbered_from n (map plain_symbol xs)) ≡ Got n (numbered_from (n + 1) (map plain_symbol (drop 1 xs)))
unfolding take
take_full n [] h = absurd (omega arith)
take_full n (x ∷ xs) h = refl

pub take_some : (n : ℕ) (xs : List Seen) (v : List Numbered) → numbered_from n (map plain_symbol xs) ≡ v → 1 ≤ length xs → take v ≡ Got n (numbered_from (n + 1) (map plain_symbol (drop 1 xs)))
take_some n xs v e h = ap take (sym e) ∙ take_full n xs h
