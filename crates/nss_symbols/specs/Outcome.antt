-- Reading: what a reader makes of a list of tokens, and how readers are put together. The cursor's
-- clauses speak of it; what the parser promises is said by the grammar alone.
use Rattle.std.specs.Prelude.{ℕ, Bool, true, false, List, [], ◌∷◌, Option, None, Some}
use Rattle.nss_symbols.specs.declared.terminal.Terminal.{Terminal}
use Rattle.nss_symbols.specs.Symbols as symbol
use Rattle.nss_symbols.specs.Symbols.{Symbol, Numbered}
use Rattle.nss_symbols.specs.contracts.terminal.Terminal.{the_type}
use denote.Enum.Bare.{sameb}

pub data Outcome (A : Type 0) : Type 0 where
  -- what was read, and the tokens after it
  Got : A → List Numbered → Outcome A
  -- the tokens from the first that can't stand there
  Stuck : List Numbered → Outcome A
  -- the depth ran out
  Deep : Outcome A

abbrev pub Parser : Type 0 → Type 0
Parser A = List Numbered → Outcome A

abbrev pub and_then : {A B : Type 0} → Outcome A → (A → Parser B) → Outcome B
and_then (Got x rest) f = f x rest
and_then (Stuck left) f = Stuck left
and_then Deep f = Deep

infixr 20 ◌>>=◌
abbrev pub ◌>>=◌ : {A B : Type 0} → Parser A → (A → Parser B) → Parser B
◌>>=◌ p f = λ i. and_then (p i) f

abbrev pub pure : {A : Type 0} → A → Parser A
pure x = λ i. Got x i

abbrev pub stuck : {A : Type 0} → Parser A
stuck = λ i. Stuck i

abbrev pub deep : {A : Type 0} → Parser A
deep = λ i. Deep

-- The next token, and what the grammar sees of it.
abbrev pub next : List Numbered → Option Numbered
next [] = None
next (s ∷ r) = Some s

unfoldable pub first : List Numbered → Option Symbol
first [] = None
first (s ∷ r) = Some s.symbol

abbrev pub number_of : Option Numbered → Parser ℕ
number_of (Some s) = pure s.number
number_of None = stuck

-- The number of the next token, which stays.
unfoldable pub here : Parser ℕ
here = λ i. number_of (next i) i

-- The next token is passed.
unfoldable pub take : Parser ℕ
take [] = Stuck []
take (s ∷ r) = Got s.number r

-- A choice by the next token.
abbrev pub peek : {A : Type 0} → (Option Symbol → Parser A) → Parser A
peek f = λ i. f (first i) i

abbrev pub branch : {A : Type 0} → Bool → Parser A → Parser A → Parser A
branch true p q = p
branch false p q = q

-- whether the next token is this terminal
unfoldable pub same_terminal : Terminal → Terminal → Bool
same_terminal = sameb the_type

abbrev pub is_terminal : Terminal → Option Symbol → Bool
is_terminal m (Some (symbol.Fixed k)) = same_terminal m k
is_terminal m _ = false

abbrev pub sees : Terminal → List Numbered → Bool
sees m i = is_terminal m (first i)

abbrev pub choice : {A : Type 0} → (Option Symbol → Bool) → Parser A → Parser A → Parser A
choice test p q = peek (λ o. branch (test o) p q)

-- This terminal is passed.
abbrev pub expect : Terminal → Parser ℕ
expect m = choice (is_terminal m) take stuck

abbrev pub name_by : Option Symbol → Parser (List ℕ)
name_by (Some (symbol.Name bytes)) = take >>= λ n. pure bytes
name_by _ = stuck

-- A name is passed.
abbrev pub name : Parser (List ℕ)
name = peek name_by
