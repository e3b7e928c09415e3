-- What the grammar sees of a unit.
use Rattle.std.specs.Prelude.{List, map}
use Rattle.nss_lexer.specs.Splitting.{Lexeme}
use Rattle.nss_symbols.specs.Symbols.{Symbol}
use Rattle.nss_symbols.specs.Tokens.{of_kind}

-- what the grammar sees of a unit's tokens
abbrev pub symbols_in : List Lexeme → List Symbol
symbols_in tokens = map (λ (t : Lexeme). of_kind t.kind t.text) tokens
