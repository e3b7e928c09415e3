-- What a list of stamped slots holds, and what its calls make of it.
use Rattle.std.specs.Prelude.{ℕ, ◌+◌, ◌≤◌, ◌<◌, ◌==◌, List, [], ◌∷◌, Option, None, Some, nat_lt, if◌then◌else◌}

-- what stands in the slots, each under its stamp; how many slots there are, empty ones among them;
-- and for how many there is memory
pub record Stamps (T : Type 0) : Type 0 where
  pub items : List (ℕ × T)
  pub slots : ℕ
  pub room : ℕ

-- what stands under a stamp
abbrev pub at : {T : Type 0} → ℕ → List (ℕ × T) → Option T
at stamp [] = None
at stamp (e ∷ es) = if e.0 == stamp then Some e.1 else at stamp es

-- one more, behind those of lesser stamps
abbrev pub put : {T : Type 0} → ℕ → T → List (ℕ × T) → List (ℕ × T)
put stamp x [] = (stamp, x) ∷ []
put stamp x (e ∷ es) = if nat_lt e.0 stamp then e ∷ put stamp x es else (stamp, x) ∷ e ∷ es

-- without what stands under a stamp
abbrev pub without : {T : Type 0} → ℕ → List (ℕ × T) → List (ℕ × T)
without stamp [] = []
without stamp (e ∷ es) = if e.0 == stamp then es else e ∷ without stamp es

-- with another item under a stamp, where there is one
abbrev pub replaced : {T : Type 0} → ℕ → T → List (ℕ × T) → List (ℕ × T)
replaced stamp x [] = []
replaced stamp x (e ∷ es) = if e.0 == stamp then (e.0, x) ∷ es else e ∷ replaced stamp x es

-- each stamp is above those before it, the first at least this
abbrev pub Rise : {T : Type 0} → ℕ → List (ℕ × T) → Type 0
Rise low [] = Unit {0}
Rise low (e ∷ es) = (low ≤ e.0) × Rise (e.0 + 1) es

-- each stamp is below this one
abbrev pub AreUnder : {T : Type 0} → ℕ → List (ℕ × T) → Type 0
AreUnder stamp [] = Unit {0}
AreUnder stamp (e ∷ es) = (e.0 < stamp) × AreUnder stamp es
