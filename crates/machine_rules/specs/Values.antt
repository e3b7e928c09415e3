-- What CONST and RSADD push.
use Rattle.std.specs.Prelude.{ℕ, take, ◌==◌, if◌then◌else◌, Option, None, Some}
use Rattle.std.specs.Option.{option_and_then}
use Rattle.nwq_value.specs.declared.value.Value.{Value}
use Rattle.nwq_value.specs.declared.value.Value.TheVariants.{Int, Text, Object}
use Rattle.nwq_value.specs.Values.{start_value}
use Rattle.nwq_value.specs.Limits.{text_limit}
use Rattle.ncs_code.specs.Plain.{PlainLit}
use Rattle.ncs_code.specs.Plain as ops
use Rattle.stack_shape.specs.StackEffects.{type_of_one}

-- what CONST pushes in a script that runs with this object as self: object 0 is self, and every
-- other number is the invalid object
abbrev pub literal_value : ℕ → PlainLit → Option Value
literal_value self (ops.Int n) = Some (Int n)
literal_value self (ops.Float bytes) = None
literal_value self (ops.Text bytes) = Some (Text (take text_limit bytes))
literal_value self (ops.Object n) = Some (Object (if n == 0 then self else 0))

-- what RSADD pushes, by its type byte
abbrev pub starting_value : ℕ → Option Value
starting_value kind = option_and_then start_value (type_of_one kind)
