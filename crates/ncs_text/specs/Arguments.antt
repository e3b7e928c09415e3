-- What stands behind the name and the type byte of an instruction, and the bytes of its spelling
-- that this stands for.
use Rattle.std.specs.Prelude.{◌≡◌, ℕ, ℤ, pos, negsuc, zero, suc, ◌+◌, ◌*◌, ◌<◌, ◌^◌, List, [], ◌∷◌, ◌++◌, length, ◌&&◌, ◌||◌, ◌==◌, nat_lt, if◌then◌else◌, Option, Some, None}
use Rattle.std.specs.Option.{option_map}
use Rattle.nwq_text.specs.Number.{number_of}
use Rattle.nwq_text.specs.Escape.{AreBytes, quoted}
use Rattle.nwq_text.specs.Unescape.{hex_value}
use Rattle.ncs_code.specs.Spelling.{two, four, signed, is_between, is_copy, is_offset}
use Rattle.ncs_code.specs.File.{distance}
use Rattle.ncs_text.specs.declared.argument.Argument.{Argument}
use Rattle.ncs_text.specs.declared.argument.Argument.TheVariants.{Signed, Byte, Short, Word, Place, Float, Text}
use Rattle.nwq_text.specs.Cuts.{IsFree}

-- ---- which arguments there are

-- what CONST pushes, by its type byte
abbrev pub literal : ℕ → Argument
literal kind = if kind == 0x03 then Signed else if kind == 0x04 then Float else if kind == 0x05 then Text else Word

-- the arguments of the instructions with this opcode and type byte
unfoldable pub arguments : ℕ → ℕ → List Argument
arguments code kind =
    if is_copy code then Signed ∷ Short ∷ []
    else if code == 0x04 then literal kind ∷ []
    else if code == 0x05 then Short ∷ Byte ∷ []
    else if is_between 0x0B 0x0C code then (if kind == 0x24 then Short ∷ [] else [])
    else if is_between 0x1D 0x1F code || code == 0x25 then Place ∷ []
    else if code == 0x21 then Short ∷ Short ∷ Short ∷ []
    else if code == 0x2C then Word ∷ Word ∷ []
    else if is_offset code then Signed ∷ []
    else []

-- ---- numbers

abbrev pub below : ℕ → Option ℕ → Option ℕ
below limit None = None
below limit (Some n) = if nat_lt n limit then Some n else None

-- the number below this that the digits write, leading zeros allowed
abbrev pub number_below : ℕ → List ℕ → Option ℕ
number_below limit digits = below limit (number_of digits)

abbrev pub negative : ℕ → ℤ
negative zero = pos 0
negative (suc n) = negsuc n

-- the number of 32 bits that digits write, behind a minus where it is negative: `-0` is 0
unfoldable pub signed_number : List ℕ → Option ℤ
signed_number [] = None
signed_number (b ∷ bs) =
    if b == 45 then option_map negative (number_below 2147483649 bs) else option_map pos
    (number_below 2147483648 (b ∷ bs))

-- the byte that two hexadecimal digits in lower case write
abbrev pub byte_of : Option ℕ → Option ℕ → Option ℕ
byte_of (Some high) (Some low) = Some (16 * high + low)
byte_of (Some high) None = None
byte_of None low = None

unfoldable pub hex_byte : ℕ → ℕ → Option ℕ
hex_byte high low = byte_of (hex_value high) (hex_value low)

abbrev pub together : Option ℕ → Option (List ℕ) → Option (List ℕ)
together (Some b) (Some bs) = Some (b ∷ bs)
together (Some b) None = None
together None bs = None

-- the bytes that pairs of such digits write
unfoldable pub hex_bytes : List ℕ → Option (List ℕ)
hex_bytes [] = Some []
hex_bytes (high ∷ []) = None
hex_bytes (high ∷ low ∷ digits) = together (hex_byte high low) (hex_bytes digits)

-- ---- targets

-- Half of what four bytes count: no place of a file is so far from another.
abbrev pub reach : ℕ
reach = 2147483648

-- How far a jump at one place has to lead to come to another. Where that is out of reach, it leads
-- back as far as it can, to before the file.
unfoldable pub offset_to : ℕ → ℕ → ℤ
offset_to at place = if nat_lt at reach
    && nat_lt place reach then distance at place else negsuc 2147483647

-- `@` and the place that a jump leads to
unfoldable pub target_place : List ℕ → Option ℕ
target_place [] = None
target_place (b ∷ bs) = if b == 64 then number_below 4294967296 bs else None

-- ---- arguments

-- the four bytes of a float, where there are so many
abbrev pub four_bytes : List ℕ → Option (List ℕ)
four_bytes text = if length text == 8 then hex_bytes text else None

-- the bytes of a text that is no string, in an instruction at this place
unfoldable pub argument_bytes : ℕ → Argument → List ℕ → Option (List ℕ)
argument_bytes at Signed text = option_map signed (signed_number text)
argument_bytes at Byte text = option_map (λ n. n ∷ []) (number_below 256 text)
argument_bytes at Short text = option_map two (number_below 65536 text)
argument_bytes at Word text = option_map four (number_below 4294967296 text)
argument_bytes at Place text = option_map (λ place. signed (offset_to at place)) (target_place text)
argument_bytes at Float text = four_bytes text
argument_bytes at Text text = None

-- a string as it is quoted, and the bytes that it has behind its length
pub record IsString (text bytes : List ℕ) : Type 0 where
  pub string : List ℕ
  pub each : AreBytes string
  pub fits : length string < 2 ^ 16
  pub written : text ≡ quoted string
  pub spelled : bytes ≡ two (length string) ++ string

-- The text of an argument stands for these bytes, in an instruction at this place.
abbrev pub IsArgument : ℕ → Argument → List ℕ → List ℕ → Type 0
IsArgument at Text text bytes = IsString text bytes
IsArgument at argument text bytes = argument_bytes at argument text ≡ Some bytes

-- An argument before others: it ends at the first space.
pub record IsParted (First Others : List ℕ → List ℕ → Type 0) (text bytes : List ℕ) : Type 0 where
  pub field : List ℕ
  pub rest : List ℕ
  pub front : List ℕ
  pub others : List ℕ
  pub free : IsFree 32 field
  pub written : text ≡ field ++ 32 ∷ rest
  pub spelled : bytes ≡ front ++ others
  pub first : First field front
  pub behind : Others rest others

-- Arguments with a space between them, and the bytes that they stand for together. The last one
-- takes the rest of the line.
abbrev pub AreFields : ℕ → Argument → List Argument → List ℕ → List ℕ → Type 0
AreFields at argument [] text bytes = IsArgument at argument text bytes
AreFields at argument (following ∷ others) text bytes = IsParted (IsArgument at argument)
    (AreFields at following others) text bytes

-- The same behind a space, where there are arguments.
abbrev pub AreArguments : ℕ → List Argument → List ℕ → List ℕ → Type 0
AreArguments at [] text bytes = (text ≡ []) × (bytes ≡ [])
AreArguments at (argument ∷ others) text bytes = (fields : List ℕ) × (text ≡ 32 ∷ fields)
    × AreFields at argument others fields bytes
