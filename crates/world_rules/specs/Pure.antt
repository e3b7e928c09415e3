-- The functions of strings and numbers, and the look-up of a cell in a table.
use Rattle.std.specs.Prelude.{ℕ, ℤ, pos, negsuc, zero, suc, ◌-◌, ◌/◌, ◌%◌, ◌^◌, ◌==◌, if◌then◌else◌, List, [], ◌∷◌, ◌++◌, length, take, drop, Option, slice_get, int_lt}
use Rattle.std.specs.Option.{option_map}
use Rattle.std.specs.List.{take_while}
use Rattle.std.specs.Fmt.{signed_decimal}
use Rattle.std.specs.Int.{w32, cast_signed, cast_unsigned, int_wrapping_neg}
use Rattle.std.specs.Char.{is_ascii_digit}
use Rattle.std.specs.Str.Parse.{digits_value}
use Rattle.nwq_value.specs.declared.value.Value.{Value}
use Rattle.nwq_value.specs.declared.value.Value.TheVariants.{Int}
use Rattle.nwq_text.specs.Escape.{hex_digit}
use Rattle.world_rules.specs.Arguments.{int_at, text_at, at_least_zero, string_value}

-- Tables, as calls see them: the bytes of the cell in a table's column and row, or none where there
-- is no such cell.
abbrev pub CellLookup : Type 0
CellLookup = List ℕ → List ℕ → ℤ → List ℕ

-- the number without its sign; the least int stays as it is
abbrev pub absolute : ℤ → ℤ
absolute n = if int_lt n (pos 0) then int_wrapping_neg w32 n else n

-- the number that the digits in front write, in 32 bits
abbrev pub leading_number : List ℕ → ℤ
leading_number bytes = cast_signed w32 (digits_value 10 (take_while is_ascii_digit bytes) % 2 ^ 32)

-- the number that a string begins with, where a `-` may stand before the digits; 0 where it begins
-- with none
abbrev pub string_number : List ℕ → ℤ
string_number [] = pos 0
string_number (b ∷ bytes) = if b == 45 then int_wrapping_neg w32
    (leading_number bytes) else leading_number (b ∷ bytes)

-- so many hexadecimal digits of a number, the lowest last
abbrev pub hex_digits : ℕ → ℕ → List ℕ
hex_digits zero n = []
hex_digits (suc count) n = hex_digits count (n / 16) ++ hex_digit (n % 16) ∷ []

-- `0x` and the eight hexadecimal digits of an int's bits, in lower case
abbrev pub hex_string : ℤ → List ℕ
hex_string n = 48 ∷ 120 ∷ hex_digits 8 (cast_unsigned w32 n)

-- the first and the last bytes of a string, so many or all of them
abbrev pub left_part : List ℕ → ℤ → List ℕ
left_part bytes count = take (at_least_zero count) bytes

abbrev pub right_part : List ℕ → ℤ → List ℕ
right_part bytes count = drop (length bytes - at_least_zero count) bytes

-- so many bytes from a place on: none from a negative place, nor from one past the end
abbrev pub middle_part : List ℕ → ℤ → ℤ → List ℕ
middle_part bytes (pos start) count = take (at_least_zero count) (drop start bytes)
middle_part bytes (negsuc start) count = []

-- a string with another one put in at a place: a negative place is the beginning, and one past the
-- end the end
abbrev pub inserted : List ℕ → List ℕ → ℤ → List ℕ
inserted bytes piece place = take (at_least_zero place) bytes ++ piece
    ++ drop (at_least_zero place) bytes

-- The functions, in the order of their numbers.
abbrev pub pure_functions : CellLookup → List (List Value → Value)
pure_functions cell =
    -- abs
    (λ a. Int (absolute (int_at 0 a))) ∷
    -- IntToString
    (λ a. string_value (signed_decimal (int_at 0 a))) ∷
    -- StringToInt
    (λ a. Int (string_number (text_at 0 a))) ∷
    -- IntToHexString
    (λ a. string_value (hex_string (int_at 0 a))) ∷
    -- GetStringLength
    (λ a. Int (pos (length (text_at 0 a)))) ∷
    -- GetStringLeft
    (λ a. string_value (left_part (text_at 0 a) (int_at 1 a))) ∷
    -- GetStringRight
    (λ a. string_value (right_part (text_at 0 a) (int_at 1 a))) ∷
    -- GetSubString
    (λ a. string_value (middle_part (text_at 0 a) (int_at 1 a) (int_at 2 a))) ∷
    -- InsertString
    (λ a. string_value (inserted (text_at 0 a) (text_at 1 a) (int_at 2 a))) ∷
    -- Get2DAString
    (λ a. string_value (cell (text_at 0 a) (text_at 1 a) (int_at 2 a))) ∷
    []

-- what the function of a number gives
abbrev pub pure : CellLookup → ℕ → List Value → Option Value
pure cell k values = option_map (λ f. f values) (slice_get (pure_functions cell) k)
