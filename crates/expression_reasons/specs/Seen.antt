-- Nodes of a tree, each with why it is refused, if it is, and the first of those at a token.
use Rattle.std.proofs.Common.{◌≡◌, ℕ, ◌==◌, List, [], ◌∷◌, ◌++◌, Option, None, Some, if◌then◌else◌, refl}
use Rattle.expression_reasons.specs.declared.reason.Reason.{Reason}

-- a node by its token
pub record Node : Type 0 where
  pub token : ℕ
  pub why : Option Reason

abbrev pub own : ℕ → Option Reason → List Node
own n why = record { token = n; why = why } ∷ []

abbrev pub first_of : Option Reason → Option Reason → Option Reason
first_of None o = o
first_of (Some r) o = Some r

-- what is found so far, and with a node of this token more
abbrev pub noted : ℕ → Option Reason → ℕ → Option Reason → Option Reason
noted k found n why = if n == k then first_of found why else found

-- the first reason of those found so far, and of these nodes at the token k
abbrev pub seen : ℕ → Option Reason → List Node → Option Reason
seen k found [] = found
seen k found (x ∷ xs) = seen k (noted k found x.token x.why) xs

pub seen_append : (k : ℕ) (o : Option Reason) (xs ys : List Node)
    → seen k o (xs ++ ys) ≡ seen k (seen k o xs) ys
seen_append k o [] ys = refl
seen_append k o (x ∷ xs) ys = seen_append k (noted k o x.token x.why) xs ys
