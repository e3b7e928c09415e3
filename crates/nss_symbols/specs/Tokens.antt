-- What the grammar sees of the lexer's tokens, and which symbols tokens spell.
use Rattle.std.specs.Prelude.{◌≡◌, ℕ, List, [], ◌∷◌, Option, None, Some, take, map}
use Rattle.nwq_value.specs.Limits.{text_limit}
use Rattle.nss_lexer.specs.declared.token.TokenKind.{TokenKind}
use Rattle.nss_lexer.specs.declared.token.TokenKind.TheVariants as kind
use Rattle.nss_lexer.specs.declared.token.Token.{Token}
use Rattle.nss_lexer.specs.Lexemes.{IsLexeme}
use Rattle.nss_lexer.specs.Strings.{string_value}
use Rattle.nss_symbols.specs.declared.terminal.Terminal.{Terminal}
use Rattle.nss_symbols.specs.Symbols.{Symbol, Name, Int, Float, Text, Fixed, Unknown}
use Rattle.nss_symbols.specs.Terminals.{terminal_of}

abbrev pub of_terminal : Option Terminal → Symbol
of_terminal (Some t) = Fixed t
of_terminal None = Unknown

-- A string is seen as the bytes that it stands for, as many as a text keeps.
abbrev pub of_kind : TokenKind → List ℕ → Symbol
of_kind kind.Name text = Name text
of_kind kind.Word text = of_terminal (terminal_of text)
of_kind (kind.Int n) text = Int n
of_kind kind.Float text = Float
of_kind kind.Text text = Text (take text_limit (string_value text))
of_kind kind.Sign text = of_terminal (terminal_of text)

abbrev pub symbol_of : Token → Symbol
symbol_of t = of_kind t.kind t.text.now

abbrev pub symbols_of : List Token → List Symbol
symbols_of = map symbol_of

-- Some bytes spell a token that is seen so.
pub record IsSpelled (s : Symbol) : Type 0 where
  pub kind : TokenKind
  pub text : List ℕ
  pub lexeme : IsLexeme kind text
  pub seen : of_kind kind text ≡ s

abbrev pub AreSpelled : List Symbol → Type 0
AreSpelled [] = Unit {0}
AreSpelled (s ∷ ss) = IsSpelled s × AreSpelled ss
