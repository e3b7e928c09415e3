-- The classes of bytes that tokens and the gaps between them are made of.
use Rattle.std.specs.Prelude.{ℕ, Bool, ◌||◌, ◌==◌}
use Rattle.std.specs.Char.{is_ascii_alphabetic, is_digit}
use Rattle.std.specs.Int.{is_in_range}

abbrev pub newline : ℕ
newline = 10

-- a tab, a line end of any kind, or a space
abbrev pub is_blank : ℕ → Bool
is_blank b = is_in_range 9 13 b || b == 32

-- a letter or `_`
abbrev pub is_letter : ℕ → Bool
is_letter b = is_ascii_alphabetic b || b == 95

abbrev pub is_decimal : ℕ → Bool
is_decimal b = is_digit b 10

abbrev pub is_hexadecimal : ℕ → Bool
is_hexadecimal b = is_digit b 16

-- a byte of a name, from its second on
abbrev pub is_name_byte : ℕ → Bool
is_name_byte b = is_letter b || is_decimal b
