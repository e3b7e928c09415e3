-- Reading depends on the tokens that it passes and on the next one alone, and more depth changes
-- nothing.
use Rattle.std.proofs.Common.{◌≡◌, Bool, true, false, List, [], ◌∷◌, ◌++◌, Option, None, Some, refl, sym, ap, ◌∙◌, append_assoc}
use Rattle.nss_symbols.specs.Symbols as symbol
use Rattle.nss_symbols.specs.Symbols.{Symbol, Numbered}
use Rattle.nss_symbols.specs.declared.terminal.Terminal.{Terminal}
use Rattle.nss_symbols.specs.Outcome.{Outcome, Got, Stuck, Deep, Parser, and_then, ◌>>=◌, pure, stuck, deep, next, first, number_of, here, take, peek, branch, choice, is_terminal, expect}
use Rattle.nss_symbols.specs.Outcome.{name_by, name}

-- What p made of i, q makes of each list with the same tokens up to the next one.
abbrev pub Same : {A : Type 0} → List Numbered → Outcome A → Parser A → Type 0
Same i (Got x rest) q = (xs : List Numbered) × (i ≡ xs ++ rest) × ((other : List Numbered) → next other ≡ next rest → q (xs ++ other) ≡ Got x other)
Same i (Stuck left) q = (xs : List Numbered) × (i ≡ xs ++ left) × ((other : List Numbered) → next other ≡ next left → q (xs ++ other) ≡ Stuck other)
Same i Deep q = Unit {0}

pub record Local {A : Type 0} (p q : Parser A) : Type 0 where
  pub at : (i : List Numbered) → Same i (p i) q

pub next_append : (xs a b : List Numbered) → next a ≡ next b → next (xs ++ a) ≡ next (xs ++ b)
next_append [] a b e = e
next_append (x ∷ xs) a b e = refl

-- the next token tells what the grammar sees of it
pub first_next : (a b : List Numbered) → next a ≡ next b → first a ≡ first b
unfolding first
first_next [] [] e = refl
first_next [] (s ∷ r) e = cc
first_next (s ∷ r) [] e = cc
first_next (s ∷ r) (t ∷ u) e = ap (λ (o : Option Numbered). first_of o) e
  where
    first_of : Option Numbered → Option Symbol
    first_of (Some s) = Some s.symbol
    first_of None = None

-- two readers that agree wherever the next token is that of i
pub same_as : {A : Type 0} (i : List Numbered) (o : Outcome A) (q r : Parser A) → Same i o q → ((j : List Numbered) → next j ≡ next i → r j ≡ q j) → Same i o r
same_as i (Got x rest) q r (xs, e, h) agree = (xs, e, λ other n. agree (xs ++ other) (next_append xs other rest n ∙ ap next (sym e)) ∙ h other n)
same_as i (Stuck left) q r (xs, e, h) agree = (xs, e, λ other n. agree (xs ++ other) (next_append xs other left n ∙ ap next (sym e)) ∙ h other n)
same_as i Deep q r u agree = tt

pub local_pure : {A : Type 0} (x : A) → Local (pure x) (pure x)
local_pure x = record { at = λ i. ([], refl, λ other n. refl) }

pub local_stuck : {A : Type 0} → Local (stuck {A = A}) (stuck {A = A})
local_stuck = record { at = λ i. ([], refl, λ other n. refl) }

pub local_deep : {A : Type 0} (q : Parser A) → Local (deep {A = A}) q
local_deep q = record { at = λ i. tt }

take_at : (i : List Numbered) → Same i (take i) take
unfolding take
take_at [] = ([], refl, at_end)
  where
    at_end : (other : List Numbered) → next other ≡ next [] → take other ≡ Stuck other
    at_end [] n = refl
    at_end (s ∷ r) n = cc
take_at (s ∷ r) = (s ∷ [], refl, λ other n. refl)

pub local_take : Local take take
local_take = record { at = take_at }

bind_more : {A B : Type 0} (i xs rest : List Numbered) (x : A) (q : Parser A) (g : A → Parser B) (o : Outcome B) → i ≡ xs ++ rest
    → ((other : List Numbered) → next other ≡ next rest → q (xs ++ other) ≡ Got x other) → Same rest o (g x) → Same i o (q >>= g)
bind_more i xs rest x q g (Got y end) e h (ys, e', h') = (
  xs ++ ys,
  e ∙ ap (λ r. xs ++ r) e' ∙ sym (append_assoc xs ys end),
  λ other n.
      ap (λ l. and_then (q l) g) (append_assoc xs ys other)
      ∙ ap (λ o. and_then o g) (h (ys ++ other) (next_append ys other end n ∙ ap next (sym e')))
      ∙ h' other n,
)
bind_more i xs rest x q g (Stuck left) e h (ys, e', h') = (
  xs ++ ys,
  e ∙ ap (λ r. xs ++ r) e' ∙ sym (append_assoc xs ys left),
  λ other n.
      ap (λ l. and_then (q l) g) (append_assoc xs ys other)
      ∙ ap (λ o. and_then o g) (h (ys ++ other) (next_append ys other left n ∙ ap next (sym e')))
      ∙ h' other n,
)
bind_more i xs rest x q g Deep e h u = tt

bind_at : {A B : Type 0} (i : List Numbered) (q : Parser A) (f g : A → Parser B) (o : Outcome A) → ((x : A) → Local (f x) (g x)) → Same i o q → Same i (and_then o f) (q >>= g)
bind_at i q f g (Got x rest) l (xs, e, h) = bind_more i xs rest x q g (f x rest) e h ((l x).at rest)
bind_at i q f g (Stuck left) l (xs, e, h) = (xs, e, λ other n. ap (λ o. and_then o g) (h other n))
bind_at i q f g Deep l u = tt

pub local_bind : {A B : Type 0} {p q : Parser A} {f g : A → Parser B} → Local p q → ((x : A) → Local (f x) (g x)) → Local (p >>= f) (q >>= g)
local_bind {p = p} {q = q} {f = f} {g = g} lp l = record { at = λ i. bind_at i q f g (p i) l (lp.at i) }

pub local_peek : {A : Type 0} {f g : Option Symbol → Parser A} → ((o : Option Symbol) → Local (f o) (g o)) → Local (peek f) (peek g)
local_peek {f = f} {g = g} l = record { at = λ i. same_as i (f (first i) i) (g (first i)) (peek g) ((l (first i)).at i) (λ j n. ap (λ o. g o j) (first_next j i n)) }

pub local_here : Local here here
unfolding here
local_here = record { at = λ i. same_as i (number_of (next i) i) (number_of (next i)) here ((by_next (next i)).at i) (λ j n. ap (λ o. number_of o j) n) }
  where
    by_next : (o : Option Numbered) → Local (number_of o) (number_of o)
    by_next (Some s) = local_pure s.number
    by_next None = local_stuck

pub local_branch : {A : Type 0} {p p' q q' : Parser A} (b : Bool) → Local p p' → Local q q' → Local (branch b p q) (branch b p' q')
local_branch true lp lq = lp
local_branch false lp lq = lq

pub local_choice : {A : Type 0} {p p' q q' : Parser A} (test : Option Symbol → Bool) → Local p p' → Local q q' → Local (choice test p q) (choice test p' q')
local_choice test lp lq = local_peek (λ o. local_branch (test o) lp lq)

pub local_expect : (m : Terminal) → Local (expect m) (expect m)
local_expect m = local_choice (is_terminal m) local_take local_stuck

local_name_by : (o : Option Symbol) → Local (name_by o) (name_by o)
local_name_by (Some (symbol.Name bytes)) = local_bind local_take (λ n. local_pure bytes)
local_name_by (Some (symbol.Fixed m)) = local_stuck
local_name_by (Some (symbol.Int v)) = local_stuck
local_name_by (Some symbol.Float) = local_stuck
local_name_by (Some (symbol.Text v)) = local_stuck
local_name_by (Some symbol.Unknown) = local_stuck
local_name_by None = local_stuck

pub local_name : Local name name
local_name = local_peek local_name_by
