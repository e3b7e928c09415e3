-- The tables of types that rules cite.
use Rattle.std.specs.Prelude.{◌==◌, Bool, true, false, ◌&&◌, Option, None, Some, if◌then◌else◌}
use Rattle.nss_tree.specs.declared.operators.PrefixOperator.{PrefixOperator}
use Rattle.nss_tree.specs.declared.operators.PrefixOperator.TheVariants as prefix
use Rattle.nss_tree.specs.declared.operators.BinaryOperator.{BinaryOperator}
use Rattle.nss_tree.specs.declared.operators.BinaryOperator.TheVariants as binary
use Rattle.nss_tree.specs.declared.operators.AssignOperator.{AssignOperator}
use Rattle.nss_tree.specs.declared.operators.AssignOperator.TheVariants as assign
use Rattle.nwq_value.specs.declared.value.Ty.{Ty}
use Rattle.nwq_value.specs.declared.value.Ty.TheVariants.{Void, Int, Text, Object, Effect, Event, Action, Struct, Refused}

abbrev pub is_void : Ty → Bool
is_void Void = true
is_void _ = false

abbrev pub is_int : Ty → Bool
is_int Int = true
is_int _ = false

abbrev pub is_action : Ty → Bool
is_action Action = true
is_action _ = false

abbrev pub is_refused : Ty → Bool
is_refused Refused = true
is_refused _ = false

abbrev pub same_type : Ty → Ty → Bool
same_type Void Void = true
same_type Int Int = true
same_type Text Text = true
same_type Object Object = true
same_type Effect Effect = true
same_type Event Event = true
same_type Action Action = true
same_type (Struct m) (Struct n) = m == n
same_type Refused Refused = true
same_type _ _ = false

-- two values of this type are compared by == and !=
abbrev pub is_compared : Ty → Bool
is_compared Int = true
is_compared Text = true
is_compared Object = true
is_compared Effect = true
is_compared Event = true
is_compared (Struct n) = true
is_compared Void = false
is_compared Action = false
is_compared Refused = false

-- an int of two ints
abbrev pub of_ints : Ty → Ty → Option Ty
of_ints Int Int = Some Int
of_ints _ _ = None

abbrev pub sum_type : Ty → Ty → Option Ty
sum_type Int Int = Some Int
sum_type Text Text = Some Text
sum_type _ _ = None

abbrev pub comparison_type : Ty → Ty → Option Ty
comparison_type s t = if is_compared s && same_type s t then Some Int else None

-- the type of an operation with operands of these types
abbrev pub binary_type : BinaryOperator → Ty → Ty → Option Ty
binary_type binary.Add s t = sum_type s t
binary_type binary.Equal s t = comparison_type s t
binary_type binary.NotEqual s t = comparison_type s t
binary_type _ s t = of_ints s t

-- the type of an assignment of a value of the second type to a place of the first one
abbrev pub assigned_type : AssignOperator → Ty → Ty → Option Ty
assigned_type assign.Set s t = if same_type s t then Some s else None
assigned_type assign.Add s t = sum_type s t
assigned_type _ s t = of_ints s t

-- `++` and `--` write what they stand before
abbrev pub is_step : PrefixOperator → Bool
is_step prefix.Increment = true
is_step prefix.Decrement = true
is_step _ = false
