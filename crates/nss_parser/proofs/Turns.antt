-- A loop's turn: what is left is one more than what is left after it.
use Rattle.std.proofs.Common.{◌≡◌, ℕ, suc, ◌+◌, ◌-◌, ◌<◌, ap, ◌∙◌, arith}

pub one_more : {A : Type 0} (f : ℕ → A) (n : ℕ) (x : A) (at : ℕ) → at < n → x ≡ f (n - at) → x ≡ f (suc (n - (at + 1)))
one_more f n x at lt e = e ∙ ap f (let h : n - at ≡ suc (n - (at + 1)) = omega arith in h)

pub deeper : {A : Type 0} (f : ℕ → A) (n : ℕ) → 0 < n → f n ≡ f (suc (n - 1))
deeper f n lt = ap f (let h : n ≡ suc (n - 1) = omega arith in h)
