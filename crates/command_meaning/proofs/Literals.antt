-- The literals of tokens have values, where the bytes that spell them are bytes.
use Rattle.std.proofs.Common.{ℕ, ◌<◌, List, length, take, drop, Option, Some, None, sym, subst, arith}
use Rattle.std.proofs.lemmas.List.{length-take}
use Rattle.std.proofs.lemmas.List.Elements.{All-take, All-drop}
use Rattle.std.specs.Prelude.{All}
use Rattle.std.specs.List.{AllByRecursion}
use Rattle.nwq_value.specs.Limits.{text_limit}
use Rattle.nss_lexer.specs.declared.token.TokenKind.{TokenKind}
use Rattle.nss_lexer.specs.declared.token.TokenKind.TheVariants as kind
use Rattle.nss_lexer.specs.Lexemes.{IsLexeme}
use Rattle.nss_lexer.specs.Splitting.{Lexeme, IsFirstToken, Splits, whole, broken, token}
use Rattle.nss_lexer.specs.Strings.{IsString, string_value, ValuesAreBytes}
use Rattle.nss_symbols.specs.declared.terminal.Terminal.{Terminal}
use Rattle.nss_symbols.specs.Symbols.{IsText, IsLiteral}
use Rattle.nss_symbols.specs.Tokens.{of_terminal, of_kind}
use Rattle.nss_symbols.specs.Terminals.{terminal_of}

abbrev pub IsByte : ℕ → Type 0
IsByte b = b < 256

terminal_literal : (o : Option Terminal) → IsLiteral (of_terminal o)
terminal_literal None = tt
terminal_literal (Some t) = tt

abbrev pub HasLiteral : Lexeme → Type 0
HasLiteral t = IsLiteral (of_kind t.kind t.text)

module _ (values : ValuesAreBytes) where
  text_literal : (text : List ℕ) → IsString text → All IsByte text → IsText (take text_limit (string_value text))
  text_literal text is h =
      let e = length-take text_limit (string_value text) in
      (omega (arith, e), All-take IsByte text_limit (string_value text) (values text is h))

  lexeme_literal : (k : TokenKind) (text : List ℕ) → IsLexeme k text → All IsByte text → IsLiteral (of_kind k text)
  lexeme_literal kind.Name text h all = tt
  lexeme_literal kind.Word text h all = terminal_literal (terminal_of text)
  lexeme_literal (kind.Int n) text h all = h.1
  lexeme_literal kind.Float text h all = tt
  lexeme_literal kind.Text text h all = text_literal text h.0 all
  lexeme_literal kind.Sign text h all = terminal_literal (terminal_of text)

  first_literal : (bytes : List ℕ) (file at : ℕ) (t : Lexeme) → All IsByte bytes → IsFirstToken bytes file at t → HasLiteral t
  first_literal bytes file at t all h =
      lexeme_literal t.kind t.text h.begins.lexeme
      (subst (All IsByte) (sym h.begins.prefix) (All-take IsByte (length t.text) (drop t.start bytes) (All-drop IsByte t.start bytes all)))

  pub split_literals : (bytes : List ℕ) (file at : ℕ) (ts : List Lexeme) (ending : Option ℕ) → All IsByte bytes → Splits bytes file at ts ending
      → AllByRecursion HasLiteral ts
  split_literals bytes file at ts ending all (whole _ h) = tt
  split_literals bytes file at ts ending all (broken _ place h) = tt
  split_literals bytes file at ts ending all (token _ t others _ h rest) =
      (first_literal bytes file at t all h, split_literals bytes file t.end others ending all rest)
