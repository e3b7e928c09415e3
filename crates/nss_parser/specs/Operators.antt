-- Which words and signs are operators and types, and how tight an operator binds.
use Rattle.std.specs.Prelude.{ℕ, Option, None, Some}
use Rattle.nss_tree.specs.declared.operators.PrefixOperator.{PrefixOperator}
use Rattle.nss_tree.specs.declared.operators.PrefixOperator.TheVariants as prefix
use Rattle.nss_tree.specs.declared.operators.PostfixOperator.{PostfixOperator}
use Rattle.nss_tree.specs.declared.operators.PostfixOperator.TheVariants as postfix
use Rattle.nss_tree.specs.declared.operators.BinaryOperator.{BinaryOperator}
use Rattle.nss_tree.specs.declared.operators.BinaryOperator.TheVariants as binary
use Rattle.nss_tree.specs.declared.operators.AssignOperator.{AssignOperator}
use Rattle.nss_tree.specs.declared.operators.AssignOperator.TheVariants as assign
use Rattle.nss_tree.specs.declared.constants.TypeName.{TypeName}
use Rattle.nss_tree.specs.declared.constants.TypeName.TheVariants as type
use Rattle.nss_symbols.specs.declared.terminal.Terminal.{Terminal}
use Rattle.nss_symbols.specs.declared.terminal.Terminal.TheVariants as terminal

abbrev pub binary_operator : Terminal → Option BinaryOperator
binary_operator terminal.OrOr = Some binary.Or
binary_operator terminal.AndAnd = Some binary.And
binary_operator terminal.Or = Some binary.BitOr
binary_operator terminal.Xor = Some binary.BitXor
binary_operator terminal.And = Some binary.BitAnd
binary_operator terminal.Equal = Some binary.Equal
binary_operator terminal.NotEqual = Some binary.NotEqual
binary_operator terminal.GreaterEqual = Some binary.GreaterOrEqual
binary_operator terminal.Greater = Some binary.Greater
binary_operator terminal.Less = Some binary.Less
binary_operator terminal.LessEqual = Some binary.LessOrEqual
binary_operator terminal.ShiftLeft = Some binary.ShiftLeft
binary_operator terminal.ShiftRight = Some binary.ShiftRight
binary_operator terminal.ShiftRightUnsigned = Some binary.UnsignedShiftRight
binary_operator terminal.Plus = Some binary.Add
binary_operator terminal.Minus = Some binary.Subtract
binary_operator terminal.Star = Some binary.Multiply
binary_operator terminal.Slash = Some binary.Divide
binary_operator terminal.Percent = Some binary.Remainder
binary_operator _ = None

-- The level of an operator, 1 for the loosest; each level groups to the left.
abbrev pub level_of : BinaryOperator → ℕ
level_of binary.Or = 1
level_of binary.And = 2
level_of binary.BitOr = 3
level_of binary.BitXor = 4
level_of binary.BitAnd = 5
level_of binary.Equal = 6
level_of binary.NotEqual = 6
level_of binary.GreaterOrEqual = 7
level_of binary.Greater = 7
level_of binary.Less = 7
level_of binary.LessOrEqual = 7
level_of binary.ShiftLeft = 8
level_of binary.ShiftRight = 8
level_of binary.UnsignedShiftRight = 8
level_of binary.Add = 9
level_of binary.Subtract = 9
level_of binary.Multiply = 10
level_of binary.Divide = 10
level_of binary.Remainder = 10

-- the level after the tightest operators: an expression with no operator between operands
abbrev pub unary_level : ℕ
unary_level = 11

abbrev pub assign_operator : Terminal → Option AssignOperator
assign_operator terminal.Assign = Some assign.Set
assign_operator terminal.PlusAssign = Some assign.Add
assign_operator terminal.MinusAssign = Some assign.Subtract
assign_operator terminal.StarAssign = Some assign.Multiply
assign_operator terminal.SlashAssign = Some assign.Divide
assign_operator terminal.PercentAssign = Some assign.Remainder
assign_operator terminal.AndAssign = Some assign.BitAnd
assign_operator terminal.OrAssign = Some assign.BitOr
assign_operator terminal.XorAssign = Some assign.BitXor
assign_operator terminal.ShiftLeftAssign = Some assign.ShiftLeft
assign_operator terminal.ShiftRightAssign = Some assign.ShiftRight
assign_operator terminal.ShiftRightUnsignedAssign = Some assign.UnsignedShiftRight
assign_operator _ = None

abbrev pub prefix_operator : Terminal → Option PrefixOperator
prefix_operator terminal.Minus = Some prefix.Minus
prefix_operator terminal.Tilde = Some prefix.Complement
prefix_operator terminal.Not = Some prefix.Not
prefix_operator terminal.PlusPlus = Some prefix.Increment
prefix_operator terminal.MinusMinus = Some prefix.Decrement
prefix_operator _ = None

abbrev pub postfix_operator : Terminal → Option PostfixOperator
postfix_operator terminal.PlusPlus = Some postfix.Increment
postfix_operator terminal.MinusMinus = Some postfix.Decrement
postfix_operator _ = None

-- the types that are one word
abbrev pub type_word : Terminal → Option TypeName
type_word terminal.Void = Some type.Void
type_word terminal.Int = Some type.Int
type_word terminal.Float = Some type.Float
type_word terminal.String = Some type.String
type_word terminal.Object = Some type.Object
type_word terminal.Vector = Some type.Vector
type_word terminal.Location = Some type.Location
type_word terminal.Effect = Some type.Effect
type_word terminal.Event = Some type.Event
type_word terminal.Talent = Some type.Talent
type_word terminal.ItemProperty = Some type.ItemProperty
type_word terminal.Action = Some type.Action
type_word _ = None
