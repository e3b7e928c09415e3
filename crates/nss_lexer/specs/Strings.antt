-- How a string is written, and the bytes that it stands for.
use Rattle.std.specs.Prelude.{◌≡◌, ℕ, ◌+◌, ◌*◌, ◌<◌, All, Bool, not, ◌||◌, ◌==◌, IsTrue, List, [], ◌∷◌, ◌++◌, drop, if◌then◌else◌}
use Rattle.std.specs.Char.{digit_value}
use Rattle.nss_lexer.specs.Bytes.{newline, is_hexadecimal}

abbrev pub quote : ℕ
quote = 34

abbrev pub backslash : ℕ
backslash = 92

abbrev pub small_n : ℕ
small_n = 110

abbrev pub small_x : ℕ
small_x = 120

-- a byte that stands for itself: no quote, no `\` and no line end
abbrev pub is_plain : ℕ → Bool
is_plain b = not (b == quote || b == backslash || b == newline)

-- a byte that stands for itself after `\`: not `n`, not `x` and no line end
abbrev pub is_escaped : ℕ → Bool
is_escaped b = not (b == small_n || b == small_x || b == newline)

-- one byte of a string, as it is written, and the byte that it stands for
pub data Spelling : List ℕ → ℕ → Type 0 where
  plain : (b : ℕ) → IsTrue (is_plain b) → Spelling (b ∷ []) b
  escaped : (b : ℕ) → IsTrue (is_escaped b) → Spelling (backslash ∷ b ∷ []) b
  line_end : Spelling (backslash ∷ small_n ∷ []) newline
  hexadecimal : (high low : ℕ) → IsTrue (is_hexadecimal high) → IsTrue (is_hexadecimal low)
      → Spelling (backslash ∷ small_x ∷ high ∷ low ∷ []) (16 * digit_value high + digit_value low)

-- what follows an opening quote, up to its closing quote, and the bytes that stand between the two
pub data Inside : List ℕ → List ℕ → Type 0 where
  closed : Inside (quote ∷ []) []
  more : (b : ℕ) (one text bytes : List ℕ) → Spelling one b → Inside text bytes
      → Inside (one ++ text) (b ∷ bytes)

-- a string stands for these bytes
pub data StandsFor : List ℕ → List ℕ → Type 0 where
  quoted : (text bytes : List ℕ) → Inside text bytes → StandsFor (quote ∷ text) bytes

abbrev pub IsString : List ℕ → Type 0
IsString text = (bytes : List ℕ) × StandsFor text bytes

-- The bytes that a string stands for, as a function: those of what follows its opening quote, of
-- what follows a `\`, and of what follows `\x`. By law they are the bytes that `StandsFor` relates
-- to the string.
abbrev mutual
  pub inside_value : List ℕ → List ℕ
  inside_value [] = []
  inside_value (b ∷ text) = if b == quote then [] else
      (if b == backslash then escape_value text else b ∷ inside_value text)

  pub escape_value : List ℕ → List ℕ
  escape_value [] = []
  escape_value (b ∷ text) = if b == small_x then number_value text else
      (if b == small_n then newline else b) ∷ inside_value text

  pub number_value : List ℕ → List ℕ
  number_value [] = []
  number_value (high ∷ []) = []
  number_value (high ∷ low ∷ text) = (16 * digit_value high + digit_value low) ∷ inside_value text

unfoldable pub string_value : List ℕ → List ℕ
string_value text = inside_value (drop 1 text)

-- what a string stands for is its value, and nothing else
abbrev pub OneValue : Type 0
OneValue = (text bytes : List ℕ) → StandsFor text bytes → bytes ≡ string_value text

-- what a string of bytes stands for are bytes
abbrev pub ValuesAreBytes : Type 0
ValuesAreBytes = (text : List ℕ) → IsString text → All (λ b. b < 256) text
    → All (λ b. b < 256) (string_value text)
