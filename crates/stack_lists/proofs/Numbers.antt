-- Numbers by place.
use Rattle.std.proofs.Common.{arith, ◌≡◌, ◌≢◌, ◌<◌, ℕ, zero, suc, List, [], ◌∷◌, ◌++◌, length, get_or, slice_set, ◌∙◌, ap, refl, None, Some, slice_get}
use Rattle.stack_lists.specs.Rows.{PutAt, SameNumbers}

pub same_begin : (a : List ℕ) → SameNumbers a a
same_begin a = record { by = λ k. refl }

one_zero : (a : List ℕ) (k : ℕ) → get_or (a ++ 0 ∷ []) k 0 ≡ get_or a k 0
one_zero [] zero = refl
one_zero [] (suc k) = refl
one_zero (x ∷ a) zero = refl
one_zero (x ∷ a) (suc k) = one_zero a k

pub same_more : (a b c : List ℕ) → SameNumbers a b → c ≡ b ++ 0 ∷ [] → SameNumbers a c
same_more a b c h e = record { by = λ k. ap (λ xs. get_or xs k 0) e ∙ one_zero b k ∙ h.by k }

pub ruleset extending = (same_begin, same_more)

set_here : (a : List ℕ) (place number : ℕ) → place < length a → get_or (slice_set a place number) place 0 ≡ number
set_here [] place number h = absurd (omega (arith, h))
set_here (x ∷ a) zero number h = refl
set_here (x ∷ a) (suc place) number h = set_here a place number (omega (arith, h))

set_other : (a : List ℕ) (place number k : ℕ) → k ≢ place → get_or (slice_set a place number) k 0 ≡ get_or a k 0
set_other [] place number k ne = refl
set_other (x ∷ a) zero number zero ne = absurd (ne refl)
set_other (x ∷ a) zero number (suc k) ne = refl
set_other (x ∷ a) (suc place) number zero ne = refl
set_other (x ∷ a) (suc place) number (suc k) ne = set_other a place number k (λ e. ne (ap (λ n. suc n) e))

pub put_set : (before more after : List ℕ) (place number : ℕ) → SameNumbers before more → place < length more → after ≡ slice_set more place number
    → PutAt before after place number
put_set before more after place number same in_ e = record {
  here = ap (λ xs. get_or xs place 0) e ∙ set_here more place number in_;
  others = λ k ne. ap (λ xs. get_or xs k 0) e ∙ set_other more place number k ne ∙ same.by k;
}

past_end : (a : List ℕ) (place : ℕ) → (place < length a → ⊥) → get_or a place 0 ≡ 0
past_end [] zero h = refl
past_end [] (suc place) h = refl
past_end (x ∷ a) zero h = absurd (h (omega arith))
past_end (x ∷ a) (suc place) h = past_end a place (λ l. h (omega (arith, l)))

pub set_there : (before after : List ℕ) (place number : ℕ) → place < length before → after ≡ slice_set before place number → PutAt before after place number
set_there before after place number in_ e = put_set before before after place number (same_begin before) in_ e

set_length : (a : List ℕ) (place number : ℕ) → length (slice_set a place number) ≡ length a
set_length [] place number = refl
set_length (x ∷ a) zero number = refl
set_length (x ∷ a) (suc place) number = ap (λ n. suc n) (set_length a place number)

pub put_there : (more after : List ℕ) (place number : ℕ) → place < length more → after ≡ slice_set more place number → place < length after
put_there more after place number in_ e = let s = set_length more place number in let l = ap (λ (z : List ℕ). length z) e in omega (arith, in_, s, l)

pub ruleset putting = (put_set, put_there)

pub clear_set : (before after : List ℕ) (place : ℕ) → place < length before → after ≡ slice_set before place 0 → PutAt before after place 0
clear_set before after place in_ e = put_set before before after place 0 (same_begin before) in_ e

pub clear_none : (before : List ℕ) (place : ℕ) → (place < length before → ⊥) → PutAt before before place 0
clear_none before place h = record { here = past_end before place h; others = λ k ne. refl }

pub ruleset clearing = (set_there, clear_set, clear_none)

pub got_some : (xs : List ℕ) (k x : ℕ) → Some x ≡ slice_get xs k → x ≡ get_or xs k 0
got_some [] k x h = absurd cc
got_some (y ∷ xs) zero x h = cc
got_some (y ∷ xs) (suc k) x h = got_some xs k x h

pub got_none : (xs : List ℕ) (k : ℕ) → None ≡ slice_get xs k → 0 ≡ get_or xs k 0
got_none [] zero h = refl
got_none [] (suc k) h = refl
got_none (y ∷ xs) zero h = absurd cc
got_none (y ∷ xs) (suc k) h = got_none xs k h

pub ruleset getting = (got_some, got_none)
