use Rattle.std.specs.Prelude.{◌≡◌, ◌≢◌, ℕ, ◌+◌, ◌/◌, ◌%◌, ◌<◌, ◌≤◌, Bool, true, false, ◌&&◌, not, ◌==◌, nat_lt, nat_le, if◌then◌else◌, List, [], ◌∷◌, ◌++◌, length, Option, MatchOption}
use Rattle.std.specs.List.{flat_map, AllByRecursion}
use Rattle.nwq_value.specs.Limits.{text_limit}

-- a byte that stands for itself: a printable ASCII character other than the backslash and, between
-- quotes, the quote
abbrev pub is_plain : Bool → ℕ → Bool
is_plain in_quotes b = nat_le 32 b && nat_le b 126 && not (b == 92) && not (in_quotes && b == 34)

-- the hexadecimal digit of a number below 16, in lower case
abbrev pub hex_digit : ℕ → ℕ
hex_digit d = if nat_lt d 10 then 48 + d else 87 + d

-- `\x` and the two hexadecimal digits of a byte
abbrev pub hex_spelling : ℕ → List ℕ
hex_spelling b = 92 ∷ 120 ∷ hex_digit (b / 16) ∷ hex_digit (b % 16) ∷ []

-- how a byte is spelled, in quotes or without: plain bytes as they are, `\\` for a backslash, `\n`
-- for a newline, and `\xhh` for each other byte
unfoldable pub spelling : Bool → ℕ → List ℕ
spelling in_quotes b =
    if b == 92 then 92 ∷ 92 ∷ [] else if b == 10 then 92 ∷ 110 ∷ [] else if is_plain in_quotes b then b ∷ [] else hex_spelling b

-- the escaped text of these bytes
unfoldable pub escaped : List ℕ → List ℕ
escaped bytes = flat_map (spelling false) bytes

-- the quoted text of these bytes
unfoldable pub quoted : List ℕ → List ℕ
quoted bytes = 34 ∷ flat_map (spelling true) bytes ++ 34 ∷ []

-- each number of the list is a byte
abbrev pub AreBytes : List ℕ → Type 0
AreBytes numbers = AllByRecursion (λ b. b < 256) numbers

-- a list of bytes that a text can hold
pub record IsTextual (bytes : List ℕ) : Type 0 where
  pub fits : length bytes ≤ text_limit
  pub each : AreBytes bytes

-- what is read is the text whose escaped text this is, and nothing exactly where this is the
-- escaped text of none
abbrev pub ReadsText : List ℕ → Option (List ℕ) → Type 0
ReadsText text read =
    MatchOption read ((bytes : List ℕ) → IsTextual bytes → text ≢ escaped bytes)
    (λ bytes. IsTextual bytes × (text ≡ escaped bytes))

-- what is read is the bytes, however many, whose quoted text this is, and nothing exactly where
-- this is the quoted text of none
abbrev pub ReadsQuoted : List ℕ → Option (List ℕ) → Type 0
ReadsQuoted text read =
    MatchOption read ((bytes : List ℕ) → AreBytes bytes → text ≢ quoted bytes)
    (λ bytes. AreBytes bytes × (text ≡ quoted bytes))

-- each list of bytes has an escaped text of its own
abbrev pub EscapesApart : Type 0
EscapesApart = (a b : List ℕ) → AreBytes a → AreBytes b → escaped a ≡ escaped b → a ≡ b
