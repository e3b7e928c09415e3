-- Why a node of an expression is refused, and a condition or a result, by the answers of its parts:
-- where its rule doesn't fit them, the types that they have and the one that is wanted, the counts,
-- or what else the rule asks for.
use Rattle.std.specs.Prelude.{ℕ, ◌+◌, Bool, true, not, ◌&&◌, ◌||◌, List, [], ◌∷◌, length, Option, None, Some, is_none, is_some, if◌then◌else◌}
use Rattle.std.specs.Option.{option_map}
use Rattle.nss_tree.specs.declared.operators.PrefixOperator.{PrefixOperator}
use Rattle.nwq_value.specs.declared.value.Ty.{Ty}
use Rattle.nwq_value.specs.declared.value.Ty.TheVariants as ty
use Rattle.nwq_value.specs.declared.engine.Const.TheVariants as const
use Rattle.nwq_value.specs.declared.engine.Param.{Param}
use Rattle.typing_rules.specs.Types.{is_int, is_void, same_type, is_step}
use Rattle.typing_rules.specs.Typed.{TypedExpr, TypedExprs, no_typed, more_typed, type_of, is_place}
use Rattle.typing_rules.specs.Sight.{Called}
use Rattle.typing_rules.specs.Rules.{when, takes, filled, is_barred}
use Rattle.expression_reasons.specs.declared.reason.Reason.{Reason}
use Rattle.expression_reasons.specs.declared.reason.Reason.TheVariants.{Operands, Operand, NoPlace, Uncallable, NoFunction, Arguments, Barred, Argument, NoMember, Condition, Returned}

abbrev pub unless : {B : Type 0} → Option B → Reason → Option Reason
unless None r = Some r
unless (Some b) r = None

-- a node with this rule, where its parts are typed and the rule doesn't fit them
abbrev pub because : {A B : Type 0} → (A → Option B) → (A → Reason) → Option A → Option Reason
because rule reason None = None
because rule reason (Some a) = unless (rule a) (reason a)

-- ---- operators

abbrev pub operands : TypedExpr × TypedExpr → Reason
operands p = Operands (type_of p.0) (type_of p.1)

abbrev pub assign_reason : TypedExpr × TypedExpr → Reason
assign_reason p = if is_place p.0 then operands p else NoPlace

abbrev pub step_reason : Bool → Ty → Reason
step_reason is_written t = if is_written then Operand t else NoPlace

abbrev pub prefix_reason : PrefixOperator → TypedExpr → Reason
prefix_reason o a = step_reason (not (is_step o) || is_place a) (type_of a)

abbrev pub postfix_reason : TypedExpr → Reason
postfix_reason a = step_reason (is_place a) (type_of a)

abbrev pub member_reason : TypedExpr → Reason
member_reason a = NoMember (type_of a)

-- ---- calls

abbrev pub count : TypedExprs → ℕ
count no_typed = 0
count (more_typed x xs) = 1 + count xs

-- the parameters before the first one with a default
abbrev pub without_default : List Param → ℕ
without_default [] = 0
without_default (p ∷ ps) = if is_some p.default then 0 else 1 + without_default ps

-- the first argument that its parameter doesn't take, counted from 1, with so many before these
abbrev pub untaken : ℕ → TypedExprs → List Param → Option Reason
untaken n no_typed ps = None
untaken n (more_typed x xs) [] = None
untaken n (more_typed x xs) (p ∷ ps) =
    if takes p.ty x then untaken (n + 1) xs ps else Some (Argument (n + 1) (type_of x) p.ty)

abbrev pub counts : TypedExprs → List Param → Reason
counts xs ps = Arguments (count xs) (without_default ps) (length ps)

abbrev pub called_why : Bool → Bool → TypedExprs → Called → Option Reason
called_why at_file as_action xs d =
    if d.is_callable then
    (if is_none (filled xs d.params) then Some (counts xs d.params) else
    (if at_file && is_barred as_action d then Some Barred else untaken 0 xs d.params))
    else Some Uncallable

abbrev pub call_of : Bool → Bool → TypedExprs → Option Called → Option Reason
call_of at_file as_action xs None = Some NoFunction
call_of at_file as_action xs (Some d) = called_why at_file as_action xs d

-- the first row that is true of a call, in the order of the kinds
abbrev pub call_why : Bool → Bool → Option (TypedExprs × Option Called) → Option Reason
call_why at_file as_action None = None
call_why at_file as_action (Some p) = call_of at_file as_action p.0 p.1

-- ---- statements

abbrev pub condition_rule : TypedExpr → Option TypedExpr
condition_rule x = when (is_int (type_of x)) x

abbrev pub condition_reason : TypedExpr → Reason
condition_reason x = Condition (type_of x)

-- `result_fits`, by the type of the value
abbrev pub result_is : Ty → Option Ty → Bool
result_is t None = is_void t
result_is t (Some s) = not (is_void t) && same_type t s

-- the type that is given, if a value is, and that of the function's result
abbrev pub return_reason : Ty × Option TypedExpr → Reason
return_reason p = Returned (option_map type_of p.1) p.0
