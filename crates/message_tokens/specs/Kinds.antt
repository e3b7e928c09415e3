-- The kinds of tokens that a unit can have.
use Rattle.std.specs.Prelude.{ℕ, Bool, true, false, IsTrue, List, map, bytes_eq}
use Rattle.std.specs.List.{list_any}
use Rattle.nss_lexer.specs.declared.token.TokenKind.{TokenKind}
use Rattle.nss_lexer.specs.declared.token.TokenKind.TheVariants as kind
use Rattle.nss_lexer.specs.declared.token.Token.{Token}
use Rattle.nss_symbols.specs.declared.terminal.Terminal.{Terminal}
use Rattle.nss_symbols.specs.declared.terminal.Terminal.TheVariants as terminal
use Rattle.nss_symbols.specs.Terminals.{spelling}

-- a token as the grammar sees it: its kind and its text
abbrev pub seen : Token → TokenKind × List ℕ
seen t = (t.kind, t.text.now)

-- no rule of the grammar has these four
abbrev pub is_in_units : Terminal → Bool
is_in_units terminal.OpenBracket = false
is_in_units terminal.CloseBracket = false
is_in_units terminal.Question = false
is_in_units terminal.Hash = false
is_in_units _ = true

abbrev pub is_name : TokenKind → Bool
is_name kind.Name = true
is_name _ = false

abbrev pub is_int : TokenKind → Bool
is_int (kind.Int n) = true
is_int _ = false

abbrev pub is_float : TokenKind → Bool
is_float kind.Float = true
is_float _ = false

abbrev pub is_string : TokenKind → Bool
is_string kind.Text = true
is_string _ = false

-- a word or a sign that is written so
abbrev pub is_written : Terminal → TokenKind × List ℕ → Bool
is_written t seen = bytes_eq seen.1 (spelling t)

-- among them is each kind of token that a unit can have
pub record AreEachKind (kinds : List (TokenKind × List ℕ)) : Type 0 where
  pub name : IsTrue (list_any (λ p. is_name p.0) kinds)
  pub int : IsTrue (list_any (λ p. is_int p.0) kinds)
  pub float : IsTrue (list_any (λ p. is_float p.0) kinds)
  pub string : IsTrue (list_any (λ p. is_string p.0) kinds)
  pub fixed : (t : Terminal) → IsTrue (is_in_units t) → IsTrue (list_any (is_written t) kinds)

abbrev pub HasEachKind : List Token → Type 0
HasEachKind tokens = AreEachKind (map seen tokens)
