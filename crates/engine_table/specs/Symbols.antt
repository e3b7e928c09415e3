-- What the grammar of a header sees of a token.
use Rattle.std.specs.Prelude.{ℕ, ◌^◌, ◌<◌, ◌≤◌, All, Bool, ◌||◌, ◌==◌, List, [], ◌∷◌, length, take, codes, bytes_eq, if◌then◌else◌}
use Rattle.std.specs.List.{AllByRecursion}
use Rattle.nwq_value.specs.Limits.{text_limit}
use Rattle.nss_lexer.specs.declared.token.TokenKind.{TokenKind}
use Rattle.nss_lexer.specs.declared.token.TokenKind.TheVariants as kind
use Rattle.nss_lexer.specs.Splitting.{Lexeme}
use Rattle.nss_lexer.specs.Strings.{string_value}
use Rattle.engine_table.specs.declared.symbol.Word.{Word}
use Rattle.engine_table.specs.declared.symbol.Word.TheVariants as word
use Rattle.engine_table.specs.declared.symbol.Sign.{Sign}
use Rattle.engine_table.specs.declared.symbol.Sign.TheVariants as sign
use Rattle.engine_table.specs.declared.symbol.Symbol.{Symbol}
use Rattle.engine_table.specs.declared.symbol.Symbol.TheVariants as symbol

-- the types whose values are left out
abbrev pub is_other_type : List ℕ → Bool
is_other_type text =
    bytes_eq text (codes "float") || bytes_eq text (codes "vector")
    || bytes_eq text (codes "location") || bytes_eq text (codes "talent")
    || bytes_eq text (codes "itemproperty")

abbrev pub plain_word : List ℕ → Word
plain_word text =
    if bytes_eq text (codes "const") then word.Const
    else (if bytes_eq text (codes "OBJECT_SELF") then word.ObjectSelf
    else (if bytes_eq text (codes "OBJECT_INVALID") then word.ObjectInvalid else word.Other))

abbrev pub later_word : List ℕ → Word
later_word text =
    if bytes_eq text (codes "action") then word.Action
    else (if bytes_eq text (codes "event") then word.Event
    else (if is_other_type text then word.OtherType else plain_word text))

-- the word that is spelled so
abbrev pub word_of : List ℕ → Word
word_of text =
    if bytes_eq text (codes "void") then word.Void
    else (if bytes_eq text (codes "int") then word.Int
    else (if bytes_eq text (codes "string") then word.String
    else (if bytes_eq text (codes "object") then word.Object
    else (if bytes_eq text (codes "effect") then word.Effect else later_word text))))

-- # ( ) [ { ] } , ; = -
abbrev pub sign_byte : ℕ → Sign
sign_byte b =
    if b == 35 then sign.Hash
    else (if b == 40 then sign.Open
    else (if b == 41 then sign.Close
    else (if b == 91 then sign.Opening
    else (if b == 123 then sign.Opening
    else (if b == 93 then sign.Closing
    else (if b == 125 then sign.Closing
    else (if b == 44 then sign.Comma
    else (if b == 59 then sign.Semicolon
    else (if b == 61 then sign.Equals
    else (if b == 45 then sign.Minus else sign.Other))))))))))

abbrev pub sign_of : List ℕ → Sign
sign_of [] = sign.Other
sign_of (b ∷ []) = sign_byte b
sign_of (b ∷ c ∷ more) = sign.Other

-- a string is seen as the bytes that it stands for, of which a text keeps the first 8,192
abbrev pub symbol_by : TokenKind → List ℕ → Symbol
symbol_by kind.Name text = symbol.Name text
symbol_by kind.Word text = symbol.Word (word_of text)
symbol_by (kind.Int n) text = symbol.Int n
symbol_by kind.Float text = symbol.Float
symbol_by kind.Text text = symbol.Text (take text_limit (string_value text))
symbol_by kind.Sign text = symbol.Sign (sign_of text)

abbrev pub symbol_of : Lexeme → Symbol
symbol_of t = symbol_by t.kind t.text

-- the literal's number has 32 bits, its text at most 8,192 bytes
abbrev pub IsSymbol : Symbol → Type 0
IsSymbol (symbol.Int n) = n < 2 ^ 32
IsSymbol (symbol.Text bytes) = (length bytes ≤ text_limit) × All (λ b. b < 256) bytes
IsSymbol _ = Unit {0}

-- a token with the place of its first byte
pub record Placed : Type 0 where
  pub place : ℕ
  pub symbol : Symbol

abbrev pub at : ℕ → Symbol → Placed
at p s = record { place = p; symbol = s }

abbrev pub placed_of : Lexeme → Placed
placed_of t = at t.start (symbol_of t)

abbrev pub placed_all : List Lexeme → List Placed
placed_all [] = []
placed_all (t ∷ ts) = placed_of t ∷ placed_all ts

-- each literal of these is within bounds
abbrev pub AreSymbols : List Placed → Type 0
AreSymbols xs = AllByRecursion (λ (x : Placed). IsSymbol x.symbol) xs
