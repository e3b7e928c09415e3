-- The operations of one and of two ints by name.
use Rattle.std.specs.Prelude.{ℤ, Bool, true, false, not}
use Rattle.std.specs.Ordering.{int_eq}
use Rattle.nwq_value.specs.Operators.{as_int, both, either, negation, bits_and, bits_or, bits_xor, complement, shift_left, shift_right, shift_right_unsigned, sum, difference, product, quotient, remainder, opposite, less, less_or_equal, greater, greater_or_equal}
use Rattle.machine_rules.specs.Act.{one_less, one_more}
use Rattle.machine_frames.specs.declared.operation.Binary.{Binary}
use Rattle.machine_frames.specs.declared.operation.Binary.TheVariants as binary
use Rattle.machine_frames.specs.declared.operation.Unary.{Unary}
use Rattle.machine_frames.specs.declared.operation.Unary.TheVariants as unary

-- whether two ints are equal, and what is answered to it
abbrev pub equal_ints : (Bool → Bool) → ℤ → ℤ → ℤ
equal_ints answer x y = as_int (answer (int_eq y x))

abbrev pub binary_of : Binary → ℤ → ℤ → ℤ
binary_of binary.LogAnd = both
binary_of binary.LogOr = either
binary_of binary.IncOr = bits_or
binary_of binary.ExcOr = bits_xor
binary_of binary.BoolAnd = bits_and
binary_of binary.Geq = greater_or_equal
binary_of binary.Gt = greater
binary_of binary.Lt = less
binary_of binary.Leq = less_or_equal
binary_of binary.Same = equal_ints (λ b. b)
binary_of binary.Differs = equal_ints not
binary_of binary.ShLeft = shift_left
binary_of binary.ShRight = shift_right
binary_of binary.UshRight = shift_right_unsigned
binary_of binary.Add = sum
binary_of binary.Sub = difference
binary_of binary.Mul = product
binary_of binary.Div = quotient
binary_of binary.Mod = remainder

-- the operations that have no value for the divisor 0
abbrev pub divides : Binary → Bool
divides binary.Div = true
divides binary.Mod = true
divides _ = false

abbrev pub unary_of : Unary → ℤ → ℤ
unary_of unary.Neg = opposite
unary_of unary.Comp = complement
unary_of unary.Not = negation
unary_of unary.Inc = one_more
unary_of unary.Dec = one_less
