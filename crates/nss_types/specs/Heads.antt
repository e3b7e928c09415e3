-- The heads of functions as code has them.
use Rattle.std.specs.Prelude.{List, Bool, not, ◌&&◌, Option}
use Rattle.std.specs.Option.{option_and_then}
use Rattle.typing_rules.specs.Rules.{agrees, signature_of, when}
use Rattle.typing_rules.specs.Rules as rules
use Rattle.typing_rules.specs.Sight.{Meant, Signature, any_type}
use Rattle.typing_rules.specs.Typed.{TypedParameter}
use Rattle.nss_types.specs.declared.function.TypedHead.{TypedHead}

abbrev pub typed_head : TypedHead → rules.TypedHead
typed_head h = record { params = h.params; result = h.result }

-- the head of a function, where it is known whether its name is another thing's and whether it has
-- a second body
abbrev pub head_rule_by : Bool → Bool → List TypedParameter × Meant × Option Signature
    → Option rules.TypedHead
head_rule_by is_taken is_second p = option_and_then
    (λ t. when (not is_taken &&
    (agrees p.2 (signature_of (record { params = p.0; result = t })) && not is_second))
    (record { params = p.0; result = t }))
    (any_type p.1)
