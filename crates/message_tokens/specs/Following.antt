-- Which tokens can follow others.
use Rattle.std.specs.Prelude.{ℕ, List, [], ◌∷◌, ◌++◌}
use Rattle.nss_lexer.specs.declared.token.Token.{Token}
use Rattle.nss_symbols.specs.Symbols.{Symbol}
use Rattle.nss_symbols.specs.Nest.{IsWithinNest}
use Rattle.nss_symbols.specs.Tokens.{symbols_of}
use Rattle.nss_parser.specs.Sentence.{IsPlace, IsPrefix}

-- the tokens can be completed to a unit, and none of them nests too deep
pub record CanGoOn (tokens : List Symbol) : Type 0 where
  pub prefix : IsPrefix tokens
  pub nest : IsWithinNest tokens

-- the tokens have no place of a fault, unless one of them nests too deep
abbrev pub HasNoPlace : List Symbol → Type 0
HasNoPlace tokens = IsWithinNest tokens → (i : ℕ) → IsPlace tokens i → ⊥

-- the token can follow the others: with it they can be completed
abbrev pub CanFollow : List Token → Token → Type 0
CanFollow before t = CanGoOn (symbols_of (before ++ t ∷ []))

-- of some tokens these are listed, in their order, that can follow
pub data Lists (before : List Token) : List Token → List Token → Type 0 where
  none : Lists before [] []
  can : (all listed : List Token) (t : Token) → Lists before all listed → CanFollow before t
      → Lists before (all ++ t ∷ []) (listed ++ t ∷ [])
  cannot : (all listed : List Token) (t : Token) → Lists before all listed
      → (CanFollow before t → ⊥) → Lists before (all ++ t ∷ []) listed

-- a token was put last where it can follow, and else nothing was
pub data Adds (before : List Token) (t : Token) (old : List Token) : List Token → Type 0 where
  added : CanFollow before t → Adds before t old (old ++ t ∷ [])
  passed : (CanFollow before t → ⊥) → Adds before t old old
