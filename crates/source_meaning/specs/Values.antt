-- Values of expressions: lists of parts, the values of one cell. A struct's parts are those of its
-- fields in order; every other value has one part, and a call that gives nothing has none.
use Rattle.std.specs.Prelude.{ℕ, ℤ, pos, ◌+◌, Bool, false, not, ◌&&◌, ◌||◌, List, [], ◌∷◌, ◌++◌, length, map, take, drop, Option, None, Some}
use Rattle.nss_tree.specs.declared.operators.PrefixOperator.{PrefixOperator}
use Rattle.nss_tree.specs.declared.operators.PrefixOperator.TheVariants as pre
use Rattle.nss_tree.specs.declared.operators.PostfixOperator.{PostfixOperator}
use Rattle.nss_tree.specs.declared.operators.PostfixOperator.TheVariants as post
use Rattle.nss_tree.specs.declared.operators.BinaryOperator.{BinaryOperator}
use Rattle.nss_tree.specs.declared.operators.BinaryOperator.TheVariants as bin
use Rattle.nss_tree.specs.declared.operators.AssignOperator.{AssignOperator}
use Rattle.nss_tree.specs.declared.operators.AssignOperator.TheVariants as asg
use Rattle.nwq_value.specs.declared.value.Ty.{Ty}
use Rattle.nwq_value.specs.declared.value.Value.{Value}
use Rattle.nwq_value.specs.declared.value.Value.TheVariants.{Int, Text, Object}
use Rattle.nwq_value.specs.declared.engine.Const.{Const}
use Rattle.nwq_value.specs.declared.engine.Const.TheVariants as const
use Rattle.nwq_value.specs.Values.{start_value}
use Rattle.nwq_value.specs.Limits.{text_limit}
use Rattle.nwq_value.specs.Operators.{as_int, is_zero, negation, bits_and, bits_or, bits_xor, complement, shift_left, shift_right, shift_right_unsigned, sum, difference, product, quotient, remainder, opposite, less, less_or_equal, greater, greater_or_equal, joined_texts, values_eq}

-- ---- constants and starting values

-- what a constant stands for in a script that runs as this object
abbrev pub constant_value : ℕ → Const → Value
constant_value self (const.Int n) = Int n
constant_value self (const.Text bytes) = Text (take text_limit bytes)
constant_value self const.SelfObject = Object self
constant_value self const.InvalidObject = Object 0

abbrev pub value_or_zero : Option Value → Value
value_or_zero None = Int (pos 0)
value_or_zero (Some v) = v

-- what a part of this type holds before its first write
abbrev pub start_part : Ty → Value
start_part t = value_or_zero (start_value t)

abbrev pub start_parts : List Ty → List Value
start_parts ts = map start_part ts

-- ---- parts

-- so many parts behind the first ones
abbrev pub parts_of : ℕ → ℕ → List Value → List Value
parts_of before count parts = take count (drop before parts)

-- the parts with others in place of those behind the first ones
abbrev pub with_parts : ℕ → List Value → List Value → List Value
with_parts before new old = take before old ++ (new ++ drop (before + length new) old)

-- ---- tests

abbrev pub int_part : List Value → ℤ
int_part (Int n ∷ []) = n
int_part _ = pos 0

-- an int that isn't 0
abbrev pub is_true : List Value → Bool
is_true parts = not (is_zero (int_part parts))

-- ---- operators

abbrev pub one_int : (ℤ → ℤ) → List Value → List Value
one_int f (Int n ∷ []) = Int (f n) ∷ []
one_int f _ = []

abbrev pub two_ints : (ℤ → ℤ → ℤ) → List Value → List Value → List Value
two_ints f (Int m ∷ []) (Int n ∷ []) = Int (f m n) ∷ []
two_ints f _ _ = []

-- two ints, or two strings in a row
abbrev pub added : List Value → List Value → List Value
added (Int m ∷ []) (Int n ∷ []) = Int (sum m n) ∷ []
added (Text a ∷ []) (Text b ∷ []) = Text (joined_texts a b) ∷ []
added _ _ = []

abbrev pub test_value : Bool → List Value
test_value b = Int (as_int b) ∷ []

-- what an operator gives of two values; sums, differences and products wrap, and division truncates
-- towards 0
abbrev pub operate : BinaryOperator → List Value → List Value → List Value
operate bin.Or v w = test_value (is_true v || is_true w)
operate bin.And v w = test_value (is_true v && is_true w)
operate bin.BitOr v w = two_ints bits_or v w
operate bin.BitXor v w = two_ints bits_xor v w
operate bin.BitAnd v w = two_ints bits_and v w
operate bin.Equal v w = test_value (values_eq v w)
operate bin.NotEqual v w = test_value (not (values_eq v w))
operate bin.GreaterOrEqual v w = two_ints greater_or_equal v w
operate bin.Greater v w = two_ints greater v w
operate bin.Less v w = two_ints less v w
operate bin.LessOrEqual v w = two_ints less_or_equal v w
operate bin.ShiftLeft v w = two_ints shift_left v w
operate bin.ShiftRight v w = two_ints shift_right v w
operate bin.UnsignedShiftRight v w = two_ints shift_right_unsigned v w
operate bin.Add v w = added v w
operate bin.Subtract v w = two_ints difference v w
operate bin.Multiply v w = two_ints product v w
operate bin.Divide v w = two_ints quotient v w
operate bin.Remainder v w = two_ints remainder v w

-- the right operand is a divisor that is 0
abbrev pub divides_by_zero : BinaryOperator → List Value → Bool
divides_by_zero bin.Divide w = not (is_true w)
divides_by_zero bin.Remainder w = not (is_true w)
divides_by_zero _ w = false

-- the operator that an assignment applies to the value from before and its own: `=` none
abbrev pub applied : AssignOperator → Option BinaryOperator
applied asg.Set = None
applied asg.Add = Some bin.Add
applied asg.Subtract = Some bin.Subtract
applied asg.Multiply = Some bin.Multiply
applied asg.Divide = Some bin.Divide
applied asg.Remainder = Some bin.Remainder
applied asg.BitAnd = Some bin.BitAnd
applied asg.BitOr = Some bin.BitOr
applied asg.BitXor = Some bin.BitXor
applied asg.ShiftLeft = Some bin.ShiftLeft
applied asg.ShiftRight = Some bin.ShiftRight
applied asg.UnsignedShiftRight = Some bin.UnsignedShiftRight

-- what a prefix operator does with an int: `++` and `--` write it back too
abbrev pub prefixed : PrefixOperator → ℤ → ℤ
prefixed pre.Minus n = opposite n
prefixed pre.Complement n = complement n
prefixed pre.Not n = negation n
prefixed pre.Increment n = sum n (pos 1)
prefixed pre.Decrement n = difference n (pos 1)

abbrev pub postfixed : PostfixOperator → ℤ → ℤ
postfixed post.Increment n = sum n (pos 1)
postfixed post.Decrement n = difference n (pos 1)
