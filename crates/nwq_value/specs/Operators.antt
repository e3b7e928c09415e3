-- The arithmetic of the profile: what the operators of the language give, and so the instructions
-- that stand for them. Ints have 32 bits in two's complement; sums, differences, products and
-- negations wrap.
use Rattle.std.specs.Prelude.{ℕ, ℤ, pos, ◌%◌, ◌/◌, ◌^◌, List, [], ◌∷◌, ◌++◌, take, Bool, true, false, not, ◌&&◌, ◌||◌, ◌==◌, int_lt, int_rem}
use Rattle.std.specs.Int.{w32, cast_signed, cast_unsigned, int_wrapping_add, int_wrapping_sub, int_wrapping_mul, int_wrapping_div, int_wrapping_neg, int_bit_and, int_bit_or, int_bit_xor, int_bit_not, int_shl, int_shr}
use Rattle.std.specs.Ordering.{int_eq}
use Rattle.std.specs.Str.{bytes_eq}
use Rattle.nwq_value.specs.declared.value.Value.{Value}
use Rattle.nwq_value.specs.declared.value.Value.TheVariants.{Int, Text, Object, Effect, Event}
use Rattle.nwq_value.specs.Limits.{text_limit}

-- ---- tests

-- a test's answer as an int
abbrev pub as_int : Bool → ℤ
as_int true = pos 1
as_int false = pos 0

abbrev pub is_zero : ℤ → Bool
is_zero n = int_eq n (pos 0)

-- `&&`, `||` and `!`
abbrev pub both : ℤ → ℤ → ℤ
both x y = as_int (not (is_zero x) && not (is_zero y))

abbrev pub either : ℤ → ℤ → ℤ
either x y = as_int (not (is_zero x) || not (is_zero y))

abbrev pub negation : ℤ → ℤ
negation x = as_int (is_zero x)

-- ---- ints

-- `&`, `|`, `^` and `~`
abbrev pub bits_and : ℤ → ℤ → ℤ
bits_and x y = int_bit_and w32 x y

abbrev pub bits_or : ℤ → ℤ → ℤ
bits_or x y = int_bit_or w32 x y

abbrev pub bits_xor : ℤ → ℤ → ℤ
bits_xor x y = int_bit_xor w32 x y

abbrev pub complement : ℤ → ℤ
complement x = int_bit_not w32 x

-- how far a shift goes: the count modulo 32
abbrev pub shift_count : ℤ → ℕ
shift_count y = cast_unsigned w32 y % 32

-- `<<`; `>>`, which keeps the sign; and `>>>`, which fills with zeros
abbrev pub shift_left : ℤ → ℤ → ℤ
shift_left x y = int_shl w32 x (shift_count y)

abbrev pub shift_right : ℤ → ℤ → ℤ
shift_right x y = int_shr x (shift_count y)

abbrev pub shift_right_unsigned : ℤ → ℤ → ℤ
shift_right_unsigned x y = cast_signed w32 (cast_unsigned w32 x / 2 ^ shift_count y)

abbrev pub sum : ℤ → ℤ → ℤ
sum x y = int_wrapping_add w32 x y

abbrev pub difference : ℤ → ℤ → ℤ
difference x y = int_wrapping_sub w32 x y

abbrev pub product : ℤ → ℤ → ℤ
product x y = int_wrapping_mul w32 x y

-- Division truncates towards zero, and a remainder has the sign of the dividend. The least int
-- divided by -1 is the least int.
abbrev pub quotient : ℤ → ℤ → ℤ
quotient x y = int_wrapping_div w32 x y

abbrev pub remainder : ℤ → ℤ → ℤ
remainder x y = int_rem x y

abbrev pub opposite : ℤ → ℤ
opposite x = int_wrapping_neg w32 x

-- `<`, `<=`, `>` and `>=`
abbrev pub less : ℤ → ℤ → ℤ
less x y = as_int (int_lt x y)

abbrev pub less_or_equal : ℤ → ℤ → ℤ
less_or_equal x y = as_int (not (int_lt y x))

abbrev pub greater : ℤ → ℤ → ℤ
greater x y = as_int (int_lt y x)

abbrev pub greater_or_equal : ℤ → ℤ → ℤ
greater_or_equal x y = as_int (not (int_lt x y))

-- ---- equality

abbrev pub ints_eq : List ℤ → List ℤ → Bool
ints_eq [] [] = true
ints_eq (m ∷ ms) (n ∷ ns) = int_eq m n && ints_eq ms ns
ints_eq _ _ = false

-- the test of two values for equality
unfoldable pub value_eq : Value → Value → Bool
value_eq (Int m) (Int n) = int_eq m n
value_eq (Text a) (Text b) = bytes_eq a b
value_eq (Object o) (Object p) = o == p
value_eq (Effect e) (Effect f) = (e.routine == f.routine) && ints_eq e.ints f.ints
value_eq (Event m) (Event n) = int_eq m n
value_eq _ _ = false

abbrev pub values_eq : List Value → List Value → Bool
values_eq [] [] = true
values_eq (v ∷ vs) (w ∷ ws) = value_eq v w && values_eq vs ws
values_eq _ _ = false

-- ---- texts

-- two texts in a row: a text keeps its first bytes up to the limit
abbrev pub joined_texts : List ℕ → List ℕ → List ℕ
joined_texts a b = take text_limit (a ++ b)
