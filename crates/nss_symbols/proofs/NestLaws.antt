-- The walk that carries the nest over the tokens.
use Rattle.std.proofs.Common.{◌≡◌, ◌∙◌, ◌<◌, ◌≤◌, ◌+◌, ap, sym, refl, subst, arith, ℕ, zero, suc, slice_get, List, [], ◌∷◌, Option, None, Some, length, drop, get_or, map, below_more, inl, inr}
use Rattle.std.proofs.lemmas.Bool.{cases_lt}
use Rattle.std.proofs.lemmas.List.{drop_more, drop-drop, get_or-drop, get_or_past}
use Rattle.std.proofs.Math.Seq.{drop-nil}
use Rattle.nss_symbols.specs.declared.symbol.Seen.{Seen}
use Rattle.nss_symbols.specs.Cursor.{plain_symbol}
use Rattle.nss_symbols.specs.Symbols.{Symbol}
use Rattle.nss_symbols.specs.declared.terminal.Terminal.{Terminal}
use Rattle.nss_symbols.specs.Nest.{State, changed, head_of, terminal_in, nests, nests_from, start, total, IsFirstOver, IsWithinNest}

abbrev terminal_after : Option Seen → Option Terminal
terminal_after None = None
terminal_after (Some s) = terminal_in (plain_symbol s)

head_is : (xs : List Seen) (i : ℕ) → head_of (drop i (map terminal_in (map plain_symbol xs))) ≡ terminal_after (slice_get xs i)
head_is [] i = ap head_of (drop-nil i)
head_is (x ∷ xs) zero = refl
head_is (x ∷ xs) (suc i) = head_is xs i

pub head_at : (xs : List Seen) (i : ℕ) (o : Option Seen) → o ≡ slice_get xs i → terminal_after o ≡ head_of (drop i (map terminal_in (map plain_symbol xs)))
head_at xs i o e = ap terminal_after e ∙ sym (head_is xs i)

-- the nests of all tokens, from the beginning
abbrev pub all : List (Option Terminal) → List ℕ
all ms = nests_from None start ms

-- Before token i: what is left gives what all gives from there, and no nest passed the limit.
pub record SoFar (ms : List (Option Terminal)) (i : ℕ) (before terminal : Option Terminal) (s : State) : Type 0 where
  pub rest : nests_from before s (drop i ms) ≡ drop i (all ms)
  pub next : terminal ≡ head_of (drop i ms)
  pub under : (k : ℕ) → k < i → get_or (all ms) k 0 ≤ 256
  pub small : total s ≤ 256

pub begins : (ms : List (Option Terminal)) → SoFar ms 0 None (head_of ms) start
begins ms = record { rest = refl; next = refl; under = λ k h. omega arith; small = omega arith }

one_at : (ms : List (Option Terminal)) (i : ℕ) → i < length ms → drop i ms ≡ head_of (drop i ms) ∷ drop (i + 1) ms
one_at ms i h = let e = drop_more ms i None h in e ∙ ap (λ m. m ∷ drop (i + 1) ms) (sym (ap head_of e))

get_at : (xs : List ℕ) (i x : ℕ) (r : List ℕ) → drop i xs ≡ x ∷ r → get_or xs i 0 ≡ x
get_at xs i x r e =
    let zero_more : i + 0 ≡ i = omega arith
    in sym (ap (λ k. get_or xs k 0) zero_more) ∙ sym (get_or-drop i xs 0 0) ∙ ap (λ ys. get_or ys 0 0) e

tail_of : List ℕ → List ℕ
tail_of [] = []
tail_of (x ∷ xs) = xs

tail_drop : (xs : List ℕ) → tail_of xs ≡ drop 1 xs
unfolding tail_of
tail_drop [] = refl
tail_drop (x ∷ xs) = refl

rest_at : (xs : List ℕ) (i x : ℕ) (r : List ℕ) → drop i xs ≡ x ∷ r → drop (i + 1) xs ≡ r
unfolding tail_of
rest_at xs i x r e = sym (drop-drop 1 i xs) ∙ sym (tail_drop (drop i xs)) ∙ ap tail_of e

nests_length : (before : Option Terminal) (s : State) (ms : List (Option Terminal)) → length (nests_from before s ms) ≡ length ms
nests_length before s [] = refl
nests_length before s (m ∷ ms) = ap suc (nests_length m (changed before m (head_of ms) s) ms)

-- the nests from token i on, when its state is known
from_here : (ms : List (Option Terminal)) (i : ℕ) (before terminal : Option Terminal) (s : State) → SoFar ms i before terminal s → i < length ms
    → drop i (all ms) ≡ total (changed before terminal (head_of (drop (i + 1) ms)) s) ∷ nests_from terminal (changed before terminal (head_of (drop (i + 1) ms)) s) (drop (i + 1) ms)
from_here ms i before terminal s so h =
    sym so.rest ∙ ap (nests_from before s) (one_at ms i h ∙ ap (λ m. m ∷ drop (i + 1) ms) (sym so.next))

pub goes_on : (ms : List (Option Terminal)) (i : ℕ) (before terminal after : Option Terminal) (s t : State) → SoFar ms i before terminal s → i < length ms
    → after ≡ head_of (drop (i + 1) ms) → t ≡ changed before terminal after s → total t ≤ 256 → SoFar ms (i + 1) terminal after t
goes_on ms i before terminal after s t so h after-is t-is small =
    let t' : t ≡ changed before terminal (head_of (drop (i + 1) ms)) s = t-is ∙ ap (λ a. changed before terminal a s) after-is in
    let here = from_here ms i before terminal s so h in
    record {
      rest = ap (λ u. nests_from terminal u (drop (i + 1) ms)) t' ∙ sym (rest_at (all ms) i _ _ here);
      next = after-is;
      under = λ k below. under_at k below t' here;
      small = small;
    }
  where
    under_at : (k : ℕ) → k < i + 1 → t ≡ changed before terminal (head_of (drop (i + 1) ms)) s
        → drop i (all ms) ≡ total (changed before terminal (head_of (drop (i + 1) ms)) s) ∷ nests_from terminal (changed before terminal (head_of (drop (i + 1) ms)) s) (drop (i + 1) ms)
        → get_or (all ms) k 0 ≤ 256
    under_at k below t' here = below_more (λ n. get_or (all ms) n 0 ≤ 256) i so.under (subst (λ n. n ≤ 256) (ap total t' ∙ sym (get_at (all ms) i _ _ here)) small) k below

pub passes : (tokens : List Symbol) (i : ℕ) (before terminal after : Option Terminal) (s t : State) → SoFar (map terminal_in tokens) i before terminal s → i < length (map terminal_in tokens)
    → after ≡ head_of (drop (i + 1) (map terminal_in tokens)) → t ≡ changed before terminal after s → 256 < total t → IsFirstOver tokens i
unfolding nests
passes tokens i before terminal after s t so h after-is t-is over =
    let ms = map terminal_in tokens in
    let t' : t ≡ changed before terminal (head_of (drop (i + 1) ms)) s = t-is ∙ ap (λ a. changed before terminal a s) after-is in
    record {
      over = subst (λ n. 256 < n) (ap total t' ∙ sym (get_at (all ms) i _ _ (from_here ms i before terminal s so h))) over;
      before = so.under;
    }

pub all_within : (tokens : List Symbol) (i : ℕ) (before terminal : Option Terminal) (s : State)
    → SoFar (map terminal_in tokens) i before terminal s → length (map terminal_in tokens) ≤ i → IsWithinNest tokens
unfolding nests
all_within tokens i before terminal s so past k = elim (cases_lt k i) [ inl h ↦ so.under k h | inr h ↦ beyond h ]
  where
    beyond : i ≤ k → get_or (all (map terminal_in tokens)) k 0 ≤ 256
    beyond h =
        let long : length (all (map terminal_in tokens)) ≤ k = subst (λ n. n ≤ k)
        (sym (nests_length None start (map terminal_in tokens)))
        (let e : length (map terminal_in tokens) ≤ k = omega arith in e)
        in subst (λ n. n ≤ 256) (sym (get_or_past (all (map terminal_in tokens)) k 0 long)) (let z : 0 ≤ 256 = omega arith in z)

terminals_length : (xs : List Seen) → length (map terminal_in (map plain_symbol xs)) ≡ length xs
terminals_length [] = refl
terminals_length (x ∷ xs) = ap suc (terminals_length xs)

pub terminals_before : (xs : List Seen) (i : ℕ) → i < length xs → i < length (map terminal_in (map plain_symbol xs))
terminals_before xs i h = subst (λ n. i < n) (sym (terminals_length xs)) h

pub terminals_past : (xs : List Seen) (i : ℕ) → length xs ≤ i → length (map terminal_in (map plain_symbol xs)) ≤ i
terminals_past xs i h = subst (λ n. n ≤ i) (sym (terminals_length xs)) h
