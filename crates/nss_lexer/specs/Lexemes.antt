-- Which bytes spell a token, and of which kind.
use Rattle.std.specs.Prelude.{◌≡◌, ℕ, ◌^◌, ◌<◌, ◌≤◌, Bool, false, ◌||◌, ◌==◌, IsTrue, List, [], ◌∷◌, ◌++◌, length, codes, bytes_eq}
use Rattle.std.specs.List.{list_any, AllByRecursion}
use Rattle.std.specs.Str.Parse.{IsNumeral, AllDigits, digits_value}
use Rattle.nwq_value.specs.Limits.{name_limit}
use Rattle.nss_lexer.specs.declared.token.TokenKind.{TokenKind}
use Rattle.nss_lexer.specs.declared.token.TokenKind.TheVariants.{Name, Word, Int, Float, Text, Sign}
use Rattle.nss_lexer.specs.declared.token.Token.{Token}
use Rattle.nss_lexer.specs.Bytes.{is_letter, is_name_byte}
use Rattle.nss_lexer.specs.Strings.{IsString}

-- the words that are no names
abbrev pub words : List (List ℕ)
words =
    codes "void" ∷ codes "int" ∷ codes "float" ∷ codes "string" ∷ codes "object" ∷ codes "vector" ∷ codes "location"
    ∷ codes "effect" ∷ codes "event" ∷ codes "talent" ∷ codes "itemproperty" ∷ codes "action" ∷ codes "struct"
    ∷ codes "const" ∷ codes "if" ∷ codes "else" ∷ codes "while" ∷ codes "do" ∷ codes "for" ∷ codes "switch"
    ∷ codes "case" ∷ codes "default" ∷ codes "break" ∷ codes "continue" ∷ codes "return"
    ∷ codes "OBJECT_SELF" ∷ codes "OBJECT_INVALID" ∷ []

-- the operators, the assignments and the other signs, the longest first
abbrev pub signs : List (List ℕ)
signs =
    codes ">>>=" ∷ codes ">>>" ∷ codes "<<=" ∷ codes ">>="
    ∷ codes "||" ∷ codes "&&" ∷ codes "==" ∷ codes "!=" ∷ codes ">=" ∷ codes "<=" ∷ codes "<<" ∷ codes ">>"
    ∷ codes "++" ∷ codes "--" ∷ codes "+=" ∷ codes "-=" ∷ codes "*=" ∷ codes "/=" ∷ codes "%=" ∷ codes "&="
    ∷ codes "|=" ∷ codes "^="
    ∷ codes "(" ∷ codes ")" ∷ codes "{" ∷ codes "}" ∷ codes "[" ∷ codes "]" ∷ codes "," ∷ codes ";" ∷ codes ":"
    ∷ codes "?" ∷ codes "#" ∷ codes "." ∷ codes "=" ∷ codes "|" ∷ codes "^" ∷ codes "&" ∷ codes ">" ∷ codes "<"
    ∷ codes "+" ∷ codes "-" ∷ codes "*" ∷ codes "/" ∷ codes "%" ∷ codes "!" ∷ codes "~" ∷ []

unfoldable pub is_word : List ℕ → Bool
is_word text = list_any (λ word. bytes_eq word text) words

unfoldable pub is_sign : List ℕ → Bool
is_sign text = list_any (λ sign. bytes_eq sign text) signs

-- a letter or `_`, then letters, digits and `_`
abbrev pub IsIdentifier : List ℕ → Type 0
IsIdentifier [] = ⊥
IsIdentifier (b ∷ bytes) = IsTrue (is_letter b)
    × AllByRecursion (λ c. IsTrue (is_name_byte c)) bytes

-- decimal digits, or `0x` or `0X` and hexadecimal digits, and the number that they write
pub data IsInt : ℕ → List ℕ → Type 0 where
  decimal : (digits : List ℕ) → IsNumeral 10 digits → IsInt (digits_value 10 digits) digits
  hexadecimal : (x : ℕ) (digits : List ℕ) → IsTrue (x == 120 || x == 88) → IsNumeral 16 digits
      → IsInt (digits_value 16 digits) (48 ∷ x ∷ digits)

-- what may end a float: an `f`, or nothing
pub data IsSuffix : List ℕ → Type 0 where
  none : IsSuffix []
  suffix : IsSuffix (102 ∷ [])

-- digits, a point and any digits; a point and digits; or digits with an `f`
pub data IsFloat : List ℕ → Type 0 where
  pointed : (whole fraction end : List ℕ) → IsNumeral 10 whole → AllDigits 10 fraction
      → IsSuffix end
      → IsFloat (whole ++ 46 ∷ (fraction ++ end))
  fraction : (digits end : List ℕ) → IsNumeral 10 digits → IsSuffix end
      → IsFloat (46 ∷ (digits ++ end))
  marked : (digits : List ℕ) → IsNumeral 10 digits → IsFloat (digits ++ 102 ∷ [])

-- The bytes have the form of this kind, whatever the limits. The longest match is among forms: a
-- number that is too great isn't cut into two that aren't.
abbrev pub HasForm : TokenKind → List ℕ → Type 0
HasForm Name text = IsIdentifier text × (is_word text ≡ false)
HasForm Word text = IsTrue (is_word text)
HasForm (Int n) text = IsInt n text
HasForm Float text = IsFloat text
HasForm Text text = IsString text
HasForm Sign text = IsTrue (is_sign text)

-- a name has at most 255 bytes, and an int fits 32 bits
abbrev pub IsWithin : TokenKind → List ℕ → Type 0
IsWithin Name text = length text ≤ name_limit
IsWithin (Int n) text = n < 2 ^ 32
IsWithin _ text = Unit {0}

-- these bytes spell a token of this kind
abbrev pub IsLexeme : TokenKind → List ℕ → Type 0
IsLexeme kind text = HasForm kind text × IsWithin kind text

-- a token as the lexer gives them: its bytes spell its kind
abbrev pub IsToken : Token → Type 0
IsToken t = IsLexeme t.kind t.text.now
