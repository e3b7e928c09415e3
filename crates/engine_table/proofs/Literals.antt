-- The literals of a header's tokens are within bounds, where its text is bytes.
use Rattle.std.proofs.Common.{◌≡◌, ℕ, ◌<◌, true, false, Bool, ◌&&◌, nat_lt, List, [], ◌∷◌, ◌++◌, length, drop, Option, sym, subst, arith}
use Rattle.std.proofs.lemmas.Bool.Decides.{nat_tests}
use Rattle.std.proofs.lemmas.List.{length-take}
use Rattle.std.proofs.lemmas.List.Elements.{All-nil, All-cons, All-take, All-drop}
use Rattle.std.specs.Prelude.{All}
use Rattle.std.specs.List.{list_all}
use Rattle.nwq_value.specs.Limits.{text_limit}
use Rattle.nss_lexer.specs.declared.token.TokenKind.{TokenKind}
use Rattle.nss_lexer.specs.declared.token.TokenKind.TheVariants as kind
use Rattle.nss_lexer.specs.Lexemes.{IsLexeme}
use Rattle.nss_lexer.specs.Splitting.{Lexeme, IsFirstToken, Splits, whole, broken, token}
use Rattle.nss_lexer.specs.Strings.{string_value, ValuesAreBytes}
use Rattle.engine_table.specs.Symbols.{IsSymbol, Placed, AreSymbols, symbol_by, symbol_of, placed_all}

abbrev pub IsByte : ℕ → Type 0
IsByte b = b < 256

-- the test of each byte
all_by : (b c : Bool) → (b && c) ≡ true → (b ≡ true) × (c ≡ true)
all_by true true e = (e, e)
all_by true false e = cc
all_by false c e = cc

below : (a b : ℕ) → nat_lt a b ≡ true → a < b
below a b h = grind (arith, nat_tests)

pub all_bytes : (bytes : List ℕ) → list_all (λ b. nat_lt b 256) bytes ≡ true → All IsByte bytes
all_bytes [] e = All-nil IsByte
all_bytes (b ∷ bytes) e =
    let both = all_by (nat_lt b 256) (list_all (λ c. nat_lt c 256) bytes) e in All-cons IsByte b bytes (below b 256 both.0) (all_bytes bytes both.1)

-- ---- tokens

module _ (values : ValuesAreBytes) where
  lexeme_bounds : (k : TokenKind) (text : List ℕ) → IsLexeme k text → All IsByte text → IsSymbol (symbol_by k text)
  lexeme_bounds kind.Name text h all = tt
  lexeme_bounds kind.Word text h all = tt
  lexeme_bounds (kind.Int n) text h all = h.1
  lexeme_bounds kind.Float text h all = tt
  lexeme_bounds kind.Text text h all =
      let e = length-take text_limit (string_value text) in
      (omega (arith, e), All-take IsByte text_limit (string_value text) (values text h.0 all))
  lexeme_bounds kind.Sign text h all = tt

  first_bounds : (bytes : List ℕ) (file at : ℕ) (t : Lexeme) → All IsByte bytes → IsFirstToken bytes file at t → IsSymbol (symbol_of t)
  first_bounds bytes file at t all h =
      lexeme_bounds t.kind t.text h.begins.lexeme
      (subst (All IsByte) (sym h.begins.prefix) (All-take IsByte (length t.text) (drop t.start bytes) (All-drop IsByte t.start bytes all)))

  pub tokens_bounds : (bytes : List ℕ) (file at : ℕ) (ts : List Lexeme) (ending : Option ℕ) → All IsByte bytes → Splits bytes file at ts ending
      → AreSymbols (placed_all ts)
  tokens_bounds bytes file at ts ending all (whole _ h) = tt
  tokens_bounds bytes file at ts ending all (broken _ place h) = tt
  tokens_bounds bytes file at ts ending all (token _ t others _ h rest) =
      (first_bounds bytes file at t all h, tokens_bounds bytes file t.end others ending all rest)

pub front : (xs ys : List Placed) → AreSymbols (xs ++ ys) → AreSymbols xs
front [] ys h = tt
front (x ∷ xs) ys h = (h.0, front xs ys h.1)

pub back : (xs ys : List Placed) → AreSymbols (xs ++ ys) → AreSymbols ys
back [] ys h = h
back (x ∷ xs) ys h = back xs ys h.1
