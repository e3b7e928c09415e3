-- Symbols that complete a list of tokens: each with the proof that a token spells it.
use Rattle.std.proofs.Common.{◌≡◌, ℕ, List, [], ◌∷◌, ◌++◌, codes, refl, ap, arith, rules}
use Rattle.nss_lexer.specs.declared.token.TokenKind.TheVariants as kind
use Rattle.nss_lexer.specs.Lexemes.{is_word}
use Rattle.nss_lexer.specs.Lexemes.IsInt.{decimal}
use Rattle.nss_symbols.specs.declared.terminal.Terminal.{Terminal}
use Rattle.nss_symbols.specs.Spellings.{each_is_spelled}
use Rattle.nss_symbols.specs.Symbols.{Symbol, Fixed, Int, Name}
use Rattle.nss_symbols.specs.Tokens.{AreSpelled, IsSpelled}

pub record Completion : Type 0 where
  pub symbol : Symbol
  pub spelled : IsSpelled symbol

abbrev pub symbols : List Completion → List Symbol
symbols [] = []
symbols (c ∷ cs) = c.symbol ∷ symbols cs

pub symbols_append : (a b : List Completion) → symbols (a ++ b) ≡ symbols a ++ symbols b
symbols_append [] b = refl
symbols_append (c ∷ a) b = ap (λ (l : List Symbol). c.symbol ∷ l) (symbols_append a b)

pub all_spelled : (cs : List Completion) → AreSpelled (symbols cs)
all_spelled [] = tt
all_spelled (c ∷ cs) = (c.spelled, all_spelled cs)

abbrev pub by_terminal : Terminal → Completion
by_terminal t = record { symbol = Fixed t; spelled = each_is_spelled t }

-- the name `a`
abbrev pub some_name : List ℕ
some_name = codes "a"

pub name_is_spelled : IsSpelled (Name some_name)
unfolding is_word
name_is_spelled = record { kind = kind.Name; text = some_name; lexeme = (((refl, tt), refl), omega arith); seen = refl }

pub zero_is_spelled : IsSpelled (Int 0)
zero_is_spelled = record { kind = kind.Int 0; text = codes "0"; lexeme = (decimal (codes "0") (search rules), omega arith); seen = refl }

abbrev pub by_name : Completion
by_name = record { symbol = Name some_name; spelled = name_is_spelled }

-- the int 0
abbrev pub by_zero : Completion
by_zero = record { symbol = Int 0; spelled = zero_is_spelled }
