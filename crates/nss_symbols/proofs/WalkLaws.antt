-- The walk over the nest of tokens that is to go on with others.
use Rattle.std.proofs.Common.{◌≡◌, ◌∙◌, ◌<◌, ◌≤◌, ◌+◌, ◌↔◌, ap, sym, refl, subst, arith, ℕ, zero, suc, List, [], ◌∷◌, ◌++◌, append_assoc, Option, None, length, take, drop, get_or, map}
use Rattle.std.specs.List.{AllByRecursion}
use Rattle.std.proofs.lemmas.List.{take_all, take_more, take-append-drop}
use Rattle.nss_symbols.specs.declared.symbol.Seen.{Seen}
use Rattle.nss_symbols.specs.Cursor.{plain_symbol}
use Rattle.nss_symbols.specs.Symbols.{Symbol}
use Rattle.nss_symbols.specs.declared.terminal.Terminal.{Terminal}
use Rattle.nss_symbols.specs.Nest.{State, StaysWithin, changed, terminal_in, nests, nests_from, start, total, IsWithinNest}

-- ---- a list of nests within the limit, as numbers at places and as a list

low_at : (xs : List ℕ) → AllByRecursion (λ n. n ≤ 256) xs → (k : ℕ) → get_or xs k 0 ≤ 256
low_at [] h k = omega arith
low_at (x ∷ xs) h zero = h.0
low_at (x ∷ xs) h (suc k) = low_at xs h.1 k

at_low : (xs : List ℕ) → ((k : ℕ) → get_or xs k 0 ≤ 256) → AllByRecursion (λ n. n ≤ 256) xs
at_low [] h = tt
at_low (x ∷ xs) h = (h 0, at_low xs (λ k. h (suc k)))

map_append : {A B : Type 0} (f : A → B) (xs ys : List A) → map f (xs ++ ys) ≡ map f xs ++ map f ys
map_append f [] ys = refl
map_append f (x ∷ xs) ys = ap (λ r. f x ∷ r) (map_append f xs ys)

-- ---- the walk

-- After some tokens, whatever follows: no token nests too deep exactly where none from the last one
-- on does.
pub record Walked (ms : List (Option Terminal)) (before last : Option Terminal) (s : State) : Type 0 where
  pub small : total s ≤ 256
  pub on : (more : List (Option Terminal)) → AllByRecursion (λ n. n ≤ 256) (nests_from None start (ms ++ more))
      ↔ AllByRecursion (λ n. n ≤ 256) (nests_from before s (last ∷ more))

pub begins : Walked [] None None start
begins = record { small = omega arith; on = λ more. ((λ h. (omega arith, h)), (λ h. h.1)) }

next_on : (ms : List (Option Terminal)) (before last next : Option Terminal) (s t : State) → Walked ms before last s → t ≡ changed before last next s
    → (more : List (Option Terminal)) → AllByRecursion (λ n. n ≤ 256) (nests_from None start ((ms ++ next ∷ []) ++ more))
    ↔ (total t ≤ 256) × AllByRecursion (λ n. n ≤ 256) (nests_from last t (next ∷ more))
next_on ms before last next s t w e more =
    subst (λ all. AllByRecursion (λ n. n ≤ 256) (nests_from None start all) ↔ (total t ≤ 256) × AllByRecursion (λ n. n ≤ 256) (nests_from last t (next ∷ more)))
    (sym (append_assoc ms (next ∷ []) more))
    (subst (λ u. AllByRecursion (λ n. n ≤ 256) (nests_from None start (ms ++ next ∷ more)) ↔ (total u ≤ 256) × AllByRecursion (λ n. n ≤ 256) (nests_from last u (next ∷ more)))
    (sym e) (w.on (next ∷ more)))

pub goes_on : (ms : List (Option Terminal)) (before last next : Option Terminal) (s t : State) → Walked ms before last s → t ≡ changed before last next s
    → total t ≤ 256 → Walked (ms ++ next ∷ []) last next t
goes_on ms before last next s t w e small = record {
  small = small;
  on = λ more. let both = next_on ms before last next s t w e more in ((λ h. (both.0 h).1), (λ h. both.1 (small, h)));
}

-- what a symbol more is among the terminals
one_more : (xs : List Seen) (i : ℕ) (d : Seen) → i < length xs
    → map terminal_in (map plain_symbol (take (i + 1) xs)) ≡ map terminal_in (map plain_symbol (take i xs)) ++ terminal_in (plain_symbol (get_or xs i d)) ∷ []
one_more xs i d inside =
    ap (λ ys. map terminal_in (map plain_symbol ys)) (take_more xs i d inside)
    ∙ ap (map terminal_in) (map_append plain_symbol (take i xs) (get_or xs i d ∷ []))
    ∙ map_append terminal_in (map plain_symbol (take i xs)) (plain_symbol (get_or xs i d) ∷ [])

pub walks_on : (xs : List Seen) (i : ℕ) (d : Seen) (before last next : Option Terminal) (s t : State) → i < length xs
    → Walked (map terminal_in (map plain_symbol (take i xs))) before last s → next ≡ terminal_in (plain_symbol (get_or xs i d))
    → t ≡ changed before last next s → total t ≤ 256 → Walked (map terminal_in (map plain_symbol (take (i + 1) xs))) last next t
walks_on xs i d before last next s t inside w is e small =
    subst (λ ms. Walked ms last next t) (ap (λ m. map terminal_in (map plain_symbol (take i xs)) ++ m ∷ []) is ∙ sym (one_more xs i d inside))
    (goes_on (map terminal_in (map plain_symbol (take i xs))) before last next s t w e small)

-- the walk over all tokens
within_of : (tokens more : List Symbol) → IsWithinNest (tokens ++ more) ↔ AllByRecursion (λ n. n ≤ 256) (nests_from None start (map terminal_in tokens ++ map terminal_in more))
unfolding nests
within_of tokens more =
    let same = map_append terminal_in tokens more in (
      (λ h. subst (λ ms. AllByRecursion (λ n. n ≤ 256) (nests_from None start ms)) same (at_low (nests_from None start (map terminal_in (tokens ++ more))) h)),
      (λ h. low_at (nests_from None start (map terminal_in (tokens ++ more))) (subst (λ ms. AllByRecursion (λ n. n ≤ 256) (nests_from None start ms)) (sym same) h)),
    )

pub walked_all : (xs : List Seen) (i : ℕ) (before last : Option Terminal) (s : State) → length xs ≤ i
    → Walked (map terminal_in (map plain_symbol (take i xs))) before last s
    → (more : List Symbol) → IsWithinNest (map plain_symbol xs ++ more) ↔ StaysWithin (record { state = s; before = before; last = last }) more
walked_all xs i before last s past w more =
    let all : Walked (map terminal_in (map plain_symbol xs)) before last s = subst (λ ys. Walked (map terminal_in (map plain_symbol ys)) before last s) (take_all i xs past) w in
    let on = all.on (map terminal_in more) in
    let within = within_of (map plain_symbol xs) more in
    ((λ h. on.0 (within.0 h)), (λ h. within.1 (on.1 h)))

-- no token may nest too deep, whatever follows
pub walk_ends : (xs : List Seen) (i : ℕ) (d : Seen) (before last next : Option Terminal) (s t : State) → i < length xs
    → Walked (map terminal_in (map plain_symbol (take i xs))) before last s → next ≡ terminal_in (plain_symbol (get_or xs i d))
    → t ≡ changed before last next s → 256 < total t → (more : List Symbol) → IsWithinNest (map plain_symbol xs ++ more) → ⊥
walk_ends xs i d before last next s t inside w is e over more within =
    let front = map plain_symbol (take (i + 1) xs) in
    let back = map plain_symbol (drop (i + 1) xs) in
    let whole : map plain_symbol xs ++ more ≡ map plain_symbol (take (i + 1) xs) ++ (map plain_symbol (drop (i + 1) xs) ++ more) =
    ap (λ ys. map plain_symbol ys ++ more) (sym (take-append-drop (i + 1) xs))
    ∙ ap (λ ys. ys ++ more) (map_append plain_symbol (take (i + 1) xs) (drop (i + 1) xs))
    ∙ append_assoc (map plain_symbol (take (i + 1) xs)) (map plain_symbol (drop (i + 1) xs)) more in
    let low = (within_of (map plain_symbol (take (i + 1) xs)) (map plain_symbol (drop (i + 1) xs) ++ more)).0 (subst IsWithinNest whole within) in
    let first : map terminal_in (map plain_symbol (take (i + 1) xs)) ≡ map terminal_in (map plain_symbol (take i xs)) ++ next ∷ [] =
    one_more xs i d inside ∙ ap (λ m. map terminal_in (map plain_symbol (take i xs)) ++ m ∷ []) (sym is) in
    let known = subst (λ ms. AllByRecursion (λ n. n ≤ 256) (nests_from None start (ms ++ map terminal_in (map plain_symbol (drop (i + 1) xs) ++ more)))) first low in
    let small = ((next_on (map terminal_in (map plain_symbol (take i xs))) before last next s t w e (map terminal_in (map plain_symbol (drop (i + 1) xs) ++ more))).0 known).0 in
    omega arith
