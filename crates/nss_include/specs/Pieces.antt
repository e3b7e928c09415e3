-- What the tokens of a file are read as: tokens of the unit, directives, and what is refused.
use Rattle.std.specs.Prelude.{◌≡◌, ℕ, Bool, true, false, ◌&&◌, List, [], ◌∷◌, codes, bytes_eq, if◌then◌else◌, Option, Some, None}
use Rattle.nss_lexer.specs.declared.token.TokenKind.{TokenKind}
use Rattle.nss_lexer.specs.declared.token.TokenKind.TheVariants.{Name, Word, Int, Float, Text, Sign}
use Rattle.nss_lexer.specs.Splitting.{Lexeme, Splits}
use Rattle.nss_lexer.specs.Strings.{string_value}
use Rattle.nss_include.specs.Names.{is_include_name}

-- A piece of a file: a token; a directive with the place of its `#` and the name of its include;
-- one that names no include, by the place of its `#`; a place where no token, blank or closed
-- comment begins.
pub data Piece : Type 0 where
  Token : (t : Lexeme) → Piece
  Directive : (hash : ℕ) (name : List ℕ) → Piece
  BadDirective : (hash : ℕ) → Piece
  BadByte : (place : ℕ) → Piece

abbrev pub is_hash : Lexeme → Bool
is_hash t = bytes_eq t.text (codes "#")

abbrev pub is_include : Lexeme → Bool
is_include t = bytes_eq t.text (codes "include")

abbrev pub is_string : TokenKind → Bool
is_string Text = true
is_string Name = false
is_string Word = false
is_string (Int n) = false
is_string Float = false
is_string Sign = false

-- the directive with its `#` at this place, by the token behind its `include`
abbrev pub directive : ℕ → Lexeme → Piece
directive hash t = if is_string t.kind
    && is_include_name (string_value t.text) then Directive hash
    (string_value t.text) else BadDirective hash

-- where no token is left: the end of the file, or a place where nothing begins
abbrev pub last_pieces : Option ℕ → List Piece
last_pieces None = []
last_pieces (Some place) = BadByte place ∷ []

-- a directive behind whose `include` no token is left
abbrev pub cut_directive : ℕ → Option ℕ → Piece
cut_directive hash None = BadDirective hash
cut_directive hash (Some place) = BadByte place

-- The pieces of a file by its tokens, up to its end or to the place where nothing begins. A `#`
-- with the name `include` behind it begins a directive of three tokens; each other token is a piece
-- of its own.
abbrev pub pieces : List Lexeme → Option ℕ → List Piece
pieces [] ending = last_pieces ending
pieces (t ∷ []) ending = Token t ∷ last_pieces ending
pieces (t ∷ u ∷ []) ending =
    if is_hash t && is_include u then cut_directive t.start ending ∷ [] else Token t ∷ pieces
    (u ∷ []) ending
pieces (t ∷ u ∷ v ∷ ts) ending =
    if is_hash t && is_include u then directive t.start v ∷ pieces ts ending else Token t ∷ pieces
    (u ∷ v ∷ ts) ending

-- from a place on, the bytes of the file of this number are these pieces
pub record HasPieces (bytes : List ℕ) (file at : ℕ) (ps : List Piece) : Type 0 where
  pub tokens : List Lexeme
  pub ending : Option ℕ
  pub splits : Splits bytes file at tokens ending
  pub is : ps ≡ pieces tokens ending
