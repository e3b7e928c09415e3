-- What the grammar sees of a token, and tokens with their numbers.
use Rattle.std.specs.Prelude.{ℕ, ◌+◌, ◌^◌, ◌<◌, ◌≤◌, All, List, [], ◌∷◌, length}
use Rattle.nwq_value.specs.Limits.{text_limit}
use Rattle.nss_symbols.specs.declared.terminal.Terminal.{Terminal}

-- A token as the grammar sees it: a name with its bytes, a literal with its value, or a terminal,
-- which is a word or sign of one fixed spelling. A float keeps no value. `Unknown` is what is
-- spelled as no terminal; it fits nothing, and no token is seen so.
pub data Symbol : Type 0 where
  Name : List ℕ → Symbol
  Int : ℕ → Symbol
  Float : Symbol
  Text : List ℕ → Symbol
  Fixed : Terminal → Symbol
  Unknown : Symbol

-- The value of a string has at most 8,192 bytes, that of an int literal 32 bits.
abbrev pub IsText : List ℕ → Type 0
IsText bytes = (length bytes ≤ text_limit) × All (λ b. b < 256) bytes

abbrev pub IsLiteral : Symbol → Type 0
IsLiteral (Int v) = v < 2 ^ 32
IsLiteral (Text bytes) = IsText bytes
IsLiteral _ = Unit {0}

-- A token with its number in the unit.
pub record Numbered : Type 0 where
  pub number : ℕ
  pub symbol : Symbol

abbrev pub at : ℕ → Symbol → Numbered
at n s = record { number = n; symbol = s }

abbrev pub fixed : ℕ → Terminal → Numbered
fixed n t = at n (Fixed t)

-- A list of tokens whose first has the number n.
abbrev pub numbered_from : ℕ → List Symbol → List Numbered
numbered_from n [] = []
numbered_from n (s ∷ ss) = at n s ∷ numbered_from (n + 1) ss
