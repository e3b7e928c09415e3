-- How a file is split into tokens and the gaps between them.
use Rattle.std.specs.Prelude.{◌≡◌, ◌≢◌, ℕ, ◌+◌, ◌<◌, ◌≤◌, Bool, false, ◌&&◌, ◌||◌, ◌==◌, IsTrue, List, [], ◌∷◌, ◌++◌, length, take, drop, Option, Some, None}
use Rattle.std.specs.List.{AllByRecursion}
use Rattle.nss_lexer.specs.declared.token.TokenKind.{TokenKind}
use Rattle.nss_lexer.specs.declared.token.Token.{Token}
use Rattle.nss_lexer.specs.declared.token.Lexed.{Lexed}
use Rattle.nss_lexer.specs.declared.token.Lexed.TheVariants.{Token as GivesToken, End, Bad}
use Rattle.nss_lexer.specs.Bytes.{newline, is_blank}
use Rattle.nss_lexer.specs.Lexemes.{HasForm, IsLexeme}

-- what follows begins a line anew, or nothing does
abbrev pub EndsLine : List ℕ → Type 0
EndsLine [] = Unit {0}
EndsLine (b ∷ after) = b ≡ newline

-- the bytes nowhere have `*/`
abbrev pub NeverCloses : List ℕ → Type 0
NeverCloses [] = Unit {0}
NeverCloses (b ∷ []) = Unit {0}
NeverCloses (b ∷ c ∷ text) = ((b ≡ 42) → (c ≡ 47) → ⊥) × NeverCloses (c ∷ text)

-- One blank or one closed comment begins the bytes, and these are the bytes after it. The line end
-- after a `//` comment is a blank of its own.
pub data Skips : List ℕ → List ℕ → Type 0 where
  blank : (b : ℕ) (after : List ℕ) → IsTrue (is_blank b) → Skips (b ∷ after) after
  line : (text after : List ℕ) → AllByRecursion (λ b. b ≢ newline) text → EndsLine after
      → Skips (47 ∷ 47 ∷ (text ++ after)) after
  block : (text after : List ℕ) → NeverCloses text
      → Skips (47 ∷ 42 ∷ (text ++ 42 ∷ 47 ∷ after)) after

-- any number of blanks and closed comments
pub data Gap : List ℕ → List ℕ → Type 0 where
  nothing : (bytes : List ℕ) → Gap bytes bytes
  more : (bytes next after : List ℕ) → Skips bytes next → Gap next after → Gap bytes after

-- a comment begins the bytes, closed or not
abbrev pub begins_comment : List ℕ → Bool
begins_comment [] = false
begins_comment (b ∷ []) = false
begins_comment (b ∷ c ∷ bytes) = b == 47 && (c == 47 || c == 42)

-- A token of this kind with this text begins the bytes: no comment begins them, and no longer
-- prefix of them has the form of a token.
pub record BeginsWithToken (bytes : List ℕ) (kind : TokenKind) (text : List ℕ) : Type 0 where
  pub prefix : text ≡ take (length text) bytes
  pub lexeme : IsLexeme kind text
  pub longest : (other : TokenKind) (n : ℕ) → n ≤ length bytes → HasForm other (take n bytes)
      → n ≤ length text
  pub no_comment : begins_comment bytes ≡ false

-- no token, blank or closed comment begins the bytes, of which there is one at least
pub record IsStuck (bytes : List ℕ) : Type 0 where
  pub some : bytes ≢ []
  pub no_gap : (after : List ℕ) → Skips bytes after → ⊥
  pub no_token : (kind : TokenKind) (text : List ℕ) → BeginsWithToken bytes kind text → ⊥

-- a token without where its bytes lie in memory
pub record Lexeme : Type 0 where
  pub kind : TokenKind
  pub text : List ℕ
  pub file : ℕ
  pub start : ℕ
  pub end : ℕ

abbrev pub plain : Token → Lexeme
plain t = record { kind = t.kind; text = t.text.now; file = t.file; start = t.start; end = t.end }

-- what stands first from a place on: a token, the end of the file, or a place where nothing begins
pub data First : Type 0 where
  Found : Lexeme → First
  AtEnd : First
  BadAt : ℕ → First

abbrev pub first : Lexed → First
first (GivesToken t) = Found (plain t)
first End = AtEnd
first (Bad place) = BadAt place

-- the first token of a file from a place on
pub record IsFirstToken (bytes : List ℕ) (number at : ℕ) (t : Lexeme) : Type 0 where
  pub from : at ≤ t.start
  pub gap : Gap (drop at bytes) (drop t.start bytes)
  pub begins : BeginsWithToken (drop t.start bytes) t.kind t.text
  pub last : t.end ≡ t.start + length t.text
  pub some : t.start < t.end
  pub within : t.end ≤ length bytes
  pub file : t.file ≡ number

-- the first place from another on where nothing begins
pub record IsFirstBad (bytes : List ℕ) (at place : ℕ) : Type 0 where
  pub from : at ≤ place
  pub gap : Gap (drop at bytes) (drop place bytes)
  pub stuck : IsStuck (drop place bytes)
  pub within : place < length bytes

-- what stands first from a place of the file of this number on
abbrev pub IsFirst : List ℕ → ℕ → ℕ → First → Type 0
IsFirst bytes file at (Found t) = IsFirstToken bytes file at t
IsFirst bytes file at AtEnd = Gap (drop at bytes) []
IsFirst bytes file at (BadAt place) = IsFirstBad bytes at place

-- From a place on a file is split into these tokens, and ends: by `None` where nothing but a gap is
-- left, and by the place where nothing begins.
pub data Splits (bytes : List ℕ) (file : ℕ) : ℕ → List Lexeme → Option ℕ → Type 0 where
  whole : (at : ℕ) → IsFirst bytes file at AtEnd → Splits bytes file at [] None
  broken : (at place : ℕ) → IsFirst bytes file at (BadAt place)
      → Splits bytes file at [] (Some place)
  token : (at : ℕ) (t : Lexeme) (ts : List Lexeme) (ending : Option ℕ)
      → IsFirst bytes file at (Found t) → Splits bytes file t.end ts ending
      → Splits bytes file at (t ∷ ts) ending

-- the tokens of a file, all of which is tokens and gaps
abbrev pub AreTokens : List ℕ → ℕ → List Lexeme → Type 0
AreTokens bytes file tokens = Splits bytes file 0 tokens None

-- the tokens of a file before the place where nothing begins
abbrev pub AreTokensUpTo : List ℕ → ℕ → List Lexeme → ℕ → Type 0
AreTokensUpTo bytes file tokens place = Splits bytes file 0 tokens (Some place)

-- a place of a file has one first token, or the file ends there, or nothing begins there
abbrev pub OneFirst : Type 0
OneFirst = (bytes : List ℕ) (file at : ℕ) (x y : First) → IsFirst bytes file at x
    → IsFirst bytes file at y → x ≡ y

-- a file is split in at most one way, and ends in one way
abbrev pub OneSplit : Type 0
OneSplit =
    (bytes : List ℕ) (file at : ℕ) (ts us : List Lexeme) (e f : Option ℕ)
    → Splits bytes file at ts e → Splits bytes file at us f → (ts ≡ us) × (e ≡ f)

-- each file is split from each place on
abbrev pub SomeSplit : Type 0
SomeSplit = (bytes : List ℕ) (file at : ℕ)
    → (tokens : List Lexeme) × (ending : Option ℕ) × Splits bytes file at tokens ending
