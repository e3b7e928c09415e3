-- The sentence for each reason that tells types or counts. A `%` stands for the token.
use Rattle.std.specs.Prelude.{ℕ, ◌==◌, nat_lt, List, [], ◌++◌, bytes_eq, codes, Option, None, Some, if◌then◌else◌}
use Rattle.std.specs.Fmt.{decimal, signed_decimal}
use Rattle.nwq_value.specs.declared.value.Ty.{Ty}
use Rattle.nwq_value.specs.declared.value.Ty.TheVariants.{Void, Int, Text, Object, Effect, Event, Action, Struct, Refused}
use Rattle.message_sentences.specs.Template.{filled}
use Rattle.expression_reasons.specs.declared.reason.Reason.{Reason}
use Rattle.expression_reasons.specs.declared.reason.Reason.TheVariants.{Operands, Operand, Arguments, Argument, Condition, Returned, Value, Default, Label, NoMember, Again, NoVariable, NoConstant}

abbrev pub type_word : Ty → List ℕ
type_word Void = codes "void"
type_word Int = codes "int"
type_word Text = codes "string"
type_word Object = codes "object"
type_word Effect = codes "effect"
type_word Event = codes "event"
type_word Action = codes "action"
type_word (Struct n) = codes "a struct"
type_word Refused = codes "a type that is left out"

-- the type that stands there, and the one that is wanted
abbrev pub wanted_text : Ty → Ty → List ℕ
wanted_text given wanted = type_word given ++ (codes ", where "
    ++ (type_word wanted ++ codes " is wanted"))

-- what makes a string of an int, where the two are added
abbrev pub remedy : Ty → Ty → List ℕ
remedy Text Int = codes "; `IntToString` gives the string of an int"
remedy Int Text = codes "; `IntToString` gives the string of an int"
remedy _ _ = []

abbrev pub range_text : ℕ → ℕ → List ℕ
range_text least most = if nat_lt least most then
    decimal least ++ (codes " to " ++ decimal most) else decimal least

abbrev pub count_text : ℕ → ℕ → ℕ → List ℕ
count_text given least most = range_text least most
    ++ ((if most == 1 then codes " argument, and " else codes " arguments, and ")
    ++ (decimal given ++ (if given == 1 then codes " is given" else codes " are given")))

abbrev pub sum_text : List ℕ → Ty → Ty → List ℕ
sum_text t left right = if bytes_eq t (codes "+") then remedy left right else []

-- the sentence for a reason at this token, if there is one
abbrev pub said : List ℕ → Reason → Option (List ℕ)
said t (Operands left right) =
    Some (filled t (codes "the types that `%` is given don't go together: ")
    ++ (type_word left ++ (codes " and " ++ (type_word right ++ sum_text t left right))))
said t (Operand given) =
    Some (filled t (codes "what `%` is given is no int: ") ++ type_word given)
said t (Arguments given least most) =
    Some (filled t (codes "`%` takes ") ++ count_text given least most)
said t (Argument number given wanted) =
    Some (filled t (codes "an argument of `%` has another type than its parameter: argument ")
    ++ (decimal number ++ (codes ": " ++ wanted_text given wanted)))
said t (Condition given) =
    Some (filled t (codes "the condition of `%` is no int: ") ++ type_word given)
said t (Returned None wanted) =
    Some (filled t (codes "`%` gives no value, and the function has a result"))
said t (Returned (Some given) wanted) =
    Some (filled t (codes "`%` gives a value of another type than the function's: ")
    ++ wanted_text given wanted)
said t (Value given wanted) =
    Some (filled t (codes "the value has another type than `%`: ") ++ wanted_text given wanted)
said t (Default given wanted) =
    Some (filled t (codes "the default has another type than its parameter, which begins with `%`: ")
    ++ wanted_text given wanted)
said t (Label given) =
    Some (filled t (codes "the value of `%` is no int: ") ++ type_word given)
said t (NoMember (Struct n)) = None
said t (NoMember given) =
    Some (filled t (codes "what stands before `%` is no struct: ") ++ type_word given)
said t (Again value) =
    Some (filled t (codes "a `%` of this value stands before in its switch: ")
    ++ signed_decimal value)
said t (NoVariable given) =
    Some (filled t (codes "no variable, parameter or member is of the type `%`"))
said t (NoConstant given) =
    Some (filled t (codes "no constant is of the type `%`: one is an int or a string"))
said t r = None

abbrev pub or_nothing : Option (List ℕ) → List ℕ
or_nothing None = []
or_nothing (Some text) = text

abbrev pub said_there : List ℕ → Option Reason → Option (List ℕ)
said_there t None = None
said_there t (Some r) = said t r
