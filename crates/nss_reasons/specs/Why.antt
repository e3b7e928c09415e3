-- Why a label, a declared name or a written type is refused, by the answers of its parts.
use Rattle.std.specs.Prelude.{ℕ, ℤ, Bool, true, not, ◌&&◌, List, Option, None, Some, if◌then◌else◌}
use Rattle.std.specs.Option.{option_map}
use Rattle.nss_tree.specs.declared.constants.TypeName.{TypeName}
use Rattle.nwq_value.specs.declared.value.Ty.{Ty}
use Rattle.nwq_value.specs.declared.value.Ty.TheVariants as ty
use Rattle.nwq_value.specs.declared.engine.Const.{Const}
use Rattle.nwq_value.specs.declared.engine.Const.TheVariants as const
use Rattle.nwq_value.specs.Engine.{const_type}
use Rattle.typing_rules.specs.Types.{is_int, is_void, same_type}
use Rattle.typing_rules.specs.Typed.{TypedExpr, type_of}
use Rattle.typing_rules.specs.Sight.{Sight, Structure, Labels, Meant, Is, IsRefused, IsMissing, is_taken, crosses_with, cells, type_means, value_type}
use Rattle.typing_rules.specs.Rules.{is_again, is_outside, is_behind, constant_type}
use Rattle.expression_reasons.specs.Why.{because}
use Rattle.expression_reasons.specs.declared.reason.Reason.{Reason}
use Rattle.expression_reasons.specs.declared.reason.Reason.TheVariants.{Taken, Value, Default, Cells, Again, Misplaced, Label, NoDefault, NoVariable, NoConstant, LeftOut, NoStruct}

abbrev pub label_reason : Option Labels → Ty → Reason
label_reason l t = if is_outside l then Misplaced else Label t

abbrev pub has_case : Option Labels → ℤ → Bool
has_case l v = is_again l (const.Int v)

abbrev pub case_reason : Option Labels → Const → Reason
case_reason l (const.Int v) = if has_case l v then Again v else label_reason l ty.Int
case_reason l (const.Text v) = label_reason l ty.Text
case_reason l const.SelfObject = label_reason l ty.Object
case_reason l const.InvalidObject = label_reason l ty.Object

-- a case of this value may stand here
abbrev pub label_fits : Option Labels → Const → Bool
label_fits l k = not (is_again l k) && (not (is_outside l) && is_int (const_type k))

-- ---- names

abbrev pub value_reason : Ty → Option Ty → Reason
value_reason t None = Cells
value_reason t (Some s) = if same_type t s then Cells else Value s t

abbrev pub variable_reason : Sight → List ℕ → Ty × Option TypedExpr → Reason
variable_reason c x p =
    if is_taken c x then Taken else value_reason p.0 (option_map type_of p.1)

abbrev pub fits_type : Ty → Option Ty → Bool
fits_type t None = true
fits_type t (Some s) = same_type t s

-- by whether the name is taken, the value fits and the cells are too many
abbrev pub declared_by : Bool → Bool → Bool → Reason → Option Reason
declared_by taken fits crosses r =
    if taken then Some Taken else (if fits && not crosses then None else Some r)

-- the same, by the type of the value that is given, if one is
abbrev pub declared_why : Sight → List ℕ → Ty → Option Ty → Option Reason
declared_why c x t s = declared_by (is_taken c x) (fits_type t s)
    (crosses_with c (cells c.structs t)) (value_reason t s)

-- and of a parameter, by whether one with a default stands before and this one has none
abbrev pub parameter_by_tests : Bool → Bool → Bool → Bool → Reason → Option Reason
parameter_by_tests taken behind fits crosses r = if taken then Some Taken else
    (if behind then Some NoDefault else (if fits && not crosses then None else Some r))

abbrev pub constant_reason : Sight → List ℕ → Ty × Const → Reason
constant_reason c x p = if is_taken c x then Taken else Value (const_type p.1) p.0

abbrev pub const_type_there : Option Const → Option Ty
const_type_there v = option_map const_type v

abbrev pub default_by : Ty → Option Ty → Reason
default_by t None = Cells
default_by t (Some s) = if same_type t s then Cells else Default s t

abbrev pub default_reason : Ty → Option Ty → Reason
default_reason t s = if is_void t then NoVariable t else default_by t s

abbrev pub default_fits_type : Ty → Option Ty → Bool
default_fits_type t s = not (is_void t) && fits_type t s

-- ---- types as they are written

-- by what is said of a type that is none there
abbrev pub line_reason : (Ty → Reason) → Meant → Reason
line_reason f (Is t) = f t
line_reason f IsRefused = LeftOut
line_reason f IsMissing = NoStruct

-- the line of variables, or of fields
abbrev pub line_why : List Structure → TypeName → Option Reason
line_why structs t = because value_type (line_reason NoVariable) (type_means structs t)

-- and that of a constant
abbrev pub constant_line_why : List Structure → TypeName → Option Reason
constant_line_why structs t = because constant_type (line_reason NoConstant) (type_means structs t)

abbrev pub parameter_named : Sight → Bool → List ℕ → Option Const → Ty → Reason
parameter_named c late x v t =
    if is_taken c x then Taken else
    (if is_behind late v then NoDefault else default_reason t (const_type_there v))

abbrev pub parameter_reason : Sight → Bool → List ℕ → Meant × Option Const → Reason
parameter_reason c late x q = line_reason (parameter_named c late x q.1) q.0
