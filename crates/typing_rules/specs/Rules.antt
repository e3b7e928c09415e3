-- The rule of each node, and which kinds of fault are true of one, by the answers of its parts.
use Rattle.std.specs.Prelude.{ℕ, ℤ, Bool, true, false, not, ◌&&◌, ◌||◌, List, [], ◌∷◌, Option, None, Some, is_none, bytes_eq, codes, if◌then◌else◌}
use Rattle.std.specs.Option.{option_map, option_and_then}
use Rattle.std.specs.Int.{int_wrapping_neg, w32}
use Rattle.std.specs.Ordering.{int_eq}
use Rattle.nss_tree.specs.declared.operators.PrefixOperator.{PrefixOperator}
use Rattle.nss_tree.specs.declared.operators.PostfixOperator.{PostfixOperator}
use Rattle.nss_tree.specs.declared.operators.BinaryOperator.{BinaryOperator}
use Rattle.nss_tree.specs.declared.operators.AssignOperator.{AssignOperator}
use Rattle.nss_tree.specs.declared.constants.Constant.{Constant}
use Rattle.nss_tree.specs.declared.constants.Constant.TheVariants as spelled
use Rattle.nss_tree.specs.declared.units.Identifier.{Identifier}
use Rattle.nss_tree.specs.Source.{SourceDeclared, SourceParameter}
use Rattle.nss_tree.specs.Statements as tree
use Rattle.nss_tree.specs.Units as unit
use Rattle.nwq_value.specs.declared.value.Ty.{Ty}
use Rattle.nwq_value.specs.declared.value.Ty.TheVariants as ty
use Rattle.nwq_value.specs.declared.engine.Const.{Const}
use Rattle.nwq_value.specs.declared.engine.Const.TheVariants as const
use Rattle.nwq_value.specs.declared.engine.Param.{Param}
use Rattle.nwq_value.specs.Engine.{const_type}
use Rattle.nwq_value.specs.Limits.{struct_cell_limit}
use Rattle.typing_rules.specs.declared.fault.FaultKind.TheVariants.{RefusedType, Unknown, Redeclared, Arity, NotConst, NotPlace, Outside, Mismatch, NoReturn, Cells, Entry}
use Rattle.typing_rules.specs.declared.places.Place.{Place}
use Rattle.typing_rules.specs.declared.places.Place.TheVariants.{Local, Global, Const as IsConst}
use Rattle.typing_rules.specs.declared.places.Callee.{Callee}
use Rattle.typing_rules.specs.declared.places.Callee.TheVariants.{Unit as InUnit, Engine}
use Rattle.typing_rules.specs.declared.places.EntryPoint.{EntryPoint}
use Rattle.typing_rules.specs.declared.places.EntryPoint.TheVariants.{Main, Conditional}
use Rattle.typing_rules.specs.Types.{is_void, is_int, is_action, same_type, binary_type, assigned_type, is_step}
use Rattle.typing_rules.specs.Typed.{TypedExpr, TypedExprs, no_typed, more_typed, type_of, is_place, TypedName, TypedStmt, TypedStmts, TypedLine, TypedParameter, TypedItem}
use Rattle.typing_rules.specs.Typed as typed
use Rattle.typing_rules.specs.Nodes.{Rows, row, only, no_row}
use Rattle.typing_rules.specs.Sight.{Meaning, variable, constant, Head, Structure, Labels, Sight, Signature, Member, Members, Meant, IsRefused, IsMissing, Is, Called, members_in, find_member, is_taken, is_taken_by_other, has_body, has_struct, first_types, body_number, value_type, any_type, cells, cells_if, counted_to_limit, crosses, crosses_with, name_means}
use Rattle.typing_rules.specs.Returns.{some_returns}

-- where its test is true
abbrev pub when : {A : Type 0} → Bool → A → Option A
when b a = if b then Some a else None

-- ---- names

-- A variable of a function, or of any kind in a global's first value, is local: the globals are
-- still being made there.
abbrev pub variable_place : Bool → ℕ → Bool → Place
variable_place at_file n is_local = if at_file || is_local then Local n else Global n

abbrev pub named : Bool → Meaning → TypedExpr
named at_file (variable n is_local t) = typed.name t (variable_place at_file n is_local)
named at_file (constant k) = typed.name (const_type k) (IsConst k)

abbrev pub name_rule : Bool → Option Meaning → Option TypedExpr
name_rule at_file m = option_map (named at_file) m

abbrev pub name_rows : Option Meaning → Rows
name_rows m = row Unknown (is_none m) no_row

-- a float literal
abbrev pub float_rule : Unit {0} → Option TypedExpr
float_rule u = None

abbrev pub float_rows : Unit {0} → Rows
float_rows u = only RefusedType

-- ---- calls

abbrev pub defaults : List Param → Option (List Const)
defaults [] = Some []
defaults (p ∷ ps) = option_and_then (λ k. option_map (λ ks. k ∷ ks) (defaults ps)) p.default

-- the defaults of the parameters behind the arguments; None where there are too many arguments, or
-- too few
abbrev pub filled : TypedExprs → List Param → Option (List Const)
filled no_typed ps = defaults ps
filled (more_typed x xs) [] = None
filled (more_typed x xs) (p ∷ ps) = filled xs ps

-- a call of a function without a result
abbrev pub is_void_call : TypedExpr → Bool
is_void_call (typed.call t f xs ks) = is_void t
is_void_call _ = false

-- An action is taken as a call of a function without a result, a value by its type, and nothing is
-- `void`.
abbrev pub takes : Ty → TypedExpr → Bool
takes t x = if is_action t then is_void_call x else not (is_void t) && same_type t (type_of x)

abbrev pub all_taken : TypedExprs → List Param → Bool
all_taken no_typed ps = true
all_taken (more_typed x xs) [] = false
all_taken (more_typed x xs) (p ∷ ps) = takes p.ty x && all_taken xs ps

abbrev pub is_of_unit : Callee → Bool
is_of_unit (InUnit n) = true
is_of_unit (Engine n) = false

-- Such a call may not stand in a global's first value: of a function of the unit, or as an action.
-- The flag says that the call stands where an action is taken.
abbrev pub is_barred : Bool → Called → Bool
is_barred as_action d = is_of_unit d.callee || (as_action && is_void d.result)

abbrev pub filled_call : TypedExprs → Called → Option TypedExpr
filled_call xs d = option_map (λ ks. typed.call d.result d.callee xs ks) (filled xs d.params)

abbrev pub call_of : Bool → Bool → TypedExprs → Option Called → Option TypedExpr
call_of at_file as_action xs None = None
call_of at_file as_action xs (Some d) =
    if d.is_callable && (not (at_file && is_barred as_action d)
    && all_taken xs d.params) then filled_call xs d else None

abbrev pub call_rule : Bool → Bool → TypedExprs × Option Called → Option TypedExpr
call_rule at_file as_action p = call_of at_file as_action p.0 p.1

abbrev pub is_uncallable : Option Called → Bool
is_uncallable None = false
is_uncallable (Some d) = not d.is_callable

abbrev pub has_other_arity : TypedExprs → Option Called → Bool
has_other_arity xs None = false
has_other_arity xs (Some d) = is_none (filled xs d.params)

abbrev pub is_barred_call : Bool → Option Called → Bool
is_barred_call as_action None = false
is_barred_call as_action (Some d) = is_barred as_action d

abbrev pub call_rows : Bool → Bool → TypedExprs × Option Called → Rows
call_rows at_file as_action p =
    row RefusedType (is_uncallable p.1)
    (row Unknown (is_none p.1)
    (row Arity (has_other_arity p.0 p.1)
    (row NotConst (at_file && is_barred_call as_action p.1)
    (only Mismatch))))

-- an argument stands where an action is taken
abbrev pub takes_action : List Param → Bool
takes_action [] = false
takes_action (p ∷ ps) = is_action p.ty

abbrev pub others : List Param → List Param
others [] = []
others (p ∷ ps) = ps

-- ---- operations

abbrev pub member_at : List ℕ → Option Members → Option Member
member_at x None = None
member_at x (Some m) = find_member x m.fields

abbrev pub member_rule : List Structure → List ℕ → TypedExpr → Option TypedExpr
member_rule structs x a = option_map (λ m. typed.member m.ty a m.before)
    (member_at x (members_in structs (type_of a)))

abbrev pub member_rows : TypedExpr → Rows
member_rows a = only Unknown

abbrev pub prefix_rule : PrefixOperator → TypedExpr → Option TypedExpr
prefix_rule o a = when (is_int (type_of a) && (not (is_step o) || is_place a))
    (typed.prefix ty.Int o a)

abbrev pub prefix_rows : PrefixOperator → TypedExpr → Rows
prefix_rows o a = row NotPlace (is_step o && not (is_place a)) (only Mismatch)

abbrev pub postfix_rule : PostfixOperator → TypedExpr → Option TypedExpr
postfix_rule o a = when (is_int (type_of a) && is_place a) (typed.postfix ty.Int o a)

abbrev pub postfix_rows : TypedExpr → Rows
postfix_rows a = row NotPlace (not (is_place a)) (only Mismatch)

abbrev pub binary_rule : BinaryOperator → TypedExpr × TypedExpr → Option TypedExpr
binary_rule o p = option_map (λ t. typed.binary t o p.0 p.1)
    (binary_type o (type_of p.0) (type_of p.1))

abbrev pub binary_rows : TypedExpr × TypedExpr → Rows
binary_rows p = only Mismatch

abbrev pub assigned : AssignOperator → TypedExpr → TypedExpr → Option TypedExpr
assigned o a b = option_map (λ t. typed.assign t o a b) (assigned_type o (type_of a) (type_of b))

abbrev pub assign_rule : AssignOperator → TypedExpr × TypedExpr → Option TypedExpr
assign_rule o p = if is_place p.0 then assigned o p.0 p.1 else None

abbrev pub assign_rows : TypedExpr × TypedExpr → Rows
assign_rows p = row NotPlace (not (is_place p.0)) (only Mismatch)

-- ---- constants

-- what a constant as it is written means
pub data ConstantMeant : Type 0 where
  Value : Const → ConstantMeant
  IsFloat : ConstantMeant
  NoName : ConstantMeant
  NoConstant : ConstantMeant

abbrev pub constant_named : Option Meaning → ConstantMeant
constant_named None = NoName
constant_named (Some (constant k)) = Value k
constant_named (Some (variable n is_local t)) = NoConstant

abbrev pub signed : Bool → ℤ → ℤ
signed negated v = if negated then int_wrapping_neg w32 v else v

-- None where it is a name whose declaration isn't typed
abbrev pub constant_means : Sight → Constant → Option ConstantMeant
constant_means c (spelled.Int n negated v) = Some (Value (const.Int (signed negated v)))
constant_means c (spelled.Float n negated) = Some IsFloat
constant_means c (spelled.Text n v) = Some (Value (const.Text v))
constant_means c (spelled.Name n x) = option_map constant_named (name_means c x)
constant_means c (spelled.ObjectSelf n) = Some (Value const.SelfObject)
constant_means c (spelled.ObjectInvalid n) = Some (Value const.InvalidObject)

abbrev pub constant_rule : ConstantMeant → Option Const
constant_rule (Value k) = Some k
constant_rule _ = None

abbrev pub is_float : ConstantMeant → Bool
is_float IsFloat = true
is_float _ = false

abbrev pub is_nameless : ConstantMeant → Bool
is_nameless NoName = true
is_nameless _ = false

abbrev pub constant_rows : ConstantMeant → Rows
constant_rows m = row RefusedType (is_float m) (row Unknown (is_nameless m) (only NotConst))

-- ---- types of lines

abbrev pub is_refused : Meant → Bool
is_refused IsRefused = true
is_refused _ = false

abbrev pub is_missing : Meant → Bool
is_missing IsMissing = true
is_missing _ = false

-- the line of fields, of variables or of a constant; its rule is `value_type` but for a constant
abbrev pub line_rows : Meant → Rows
line_rows m = row RefusedType (is_refused m) (row Unknown (is_missing m) (only Mismatch))

abbrev pub constant_type : Meant → Option Ty
constant_type (Is ty.Int) = Some ty.Int
constant_type (Is ty.Text) = Some ty.Text
constant_type _ = None

-- ---- declared names

abbrev pub value_fits : Ty → Option TypedExpr → Bool
value_fits t None = true
value_fits t (Some x) = same_type t (type_of x)

abbrev pub variable_rule : Sight → SourceDeclared → Ty × Option TypedExpr → Option TypedName
variable_rule c d p = when
    (not (is_taken c d.name) && (value_fits p.0 p.1 && not (crosses_with c (cells c.structs p.0))))
    (record { token = d.token; name = record { number = c.next; ty = p.0 }; value = p.1 })

abbrev pub variable_rows : Sight → List ℕ → Ty × Option TypedExpr → Rows
variable_rows c x p =
    row Redeclared (is_taken c x)
    (row Mismatch (not (value_fits p.0 p.1))
    (row Cells (crosses_with c (cells c.structs p.0)) no_row))

abbrev pub constant_name_rule : Sight → List ℕ → Ty × Const → Option (Ty × Const)
constant_name_rule c x p = when (not (is_taken c x) && same_type p.0 (const_type p.1)) p

abbrev pub constant_name_rows : Sight → List ℕ → Ty × Const → Rows
constant_name_rows c x p = row Redeclared (is_taken c x) (only Mismatch)

-- ---- structs

-- the names and the cells of a struct's fields so far
pub record Fields : Type 0 where
  pub names : List (List ℕ)
  pub count : ℕ

abbrev pub no_fields : Fields
no_fields = record { names = []; count = 0 }

abbrev pub is_among : List ℕ → List (List ℕ) → Bool
is_among x [] = false
is_among x (y ∷ ys) = if bytes_eq x y then true else is_among x ys

abbrev pub fields_with : Fields → ℕ → ℕ
fields_with s n = counted_to_limit struct_cell_limit s.count n

abbrev pub crosses_fields : Fields → ℕ → Bool
crosses_fields s n = crosses struct_cell_limit s.count (fields_with s n)

abbrev pub field_rule : List Structure → Fields → Identifier → Ty → Option Identifier
field_rule structs s x t = when
    (not (is_among x.name s.names) && not (crosses_fields s (cells structs t))) x

abbrev pub field_rows : List Structure → Fields → Identifier → Ty → Rows
field_rows structs s x t =
    row Redeclared (is_among x.name s.names) (row Cells (crosses_fields s (cells structs t)) no_row)

abbrev pub struct_rule : List Structure → List ℕ → List TypedLine → Option (List TypedLine)
struct_rule structs x ls = when (not (has_struct x structs)) ls

abbrev pub struct_rows : List TypedLine → Rows
struct_rows ls = only Redeclared

-- ---- functions

abbrev pub default_fits : Ty → Option Const → Bool
default_fits t None = true
default_fits t (Some k) = same_type t (const_type k)

-- one with a default stands before, and this one has none
abbrev pub is_behind : Bool → Option Const → Bool
is_behind late v = late && is_none v

abbrev pub parameter_of : Sight → Bool → SourceParameter → Option Const → Ty → Option TypedParameter
parameter_of c late p v t = when
    (not (is_taken c p.name) &&
    (not (is_behind late v) && (default_fits t v && not (crosses_with c (cells c.structs t)))))
    (record { token = p.token; ty = t; name = record { number = c.next; ty = t }; default = v })

abbrev pub parameter_rule : Sight → Bool → SourceParameter → Meant × Option Const
    → Option TypedParameter
parameter_rule c late p q = option_and_then (parameter_of c late p q.1) (value_type q.0)

abbrev pub parameter_mismatch : Option Const → Option Ty → Bool
parameter_mismatch v None = true
parameter_mismatch v (Some t) = not (default_fits t v)

abbrev pub parameter_rows : Sight → Bool → SourceParameter → Meant × Option Const → Rows
parameter_rows c late p q =
    row RefusedType (is_refused q.0)
    (row Unknown (is_missing q.0)
    (row Redeclared (is_taken c p.name)
    (row Arity (is_behind late q.1)
    (row Mismatch (parameter_mismatch q.1 (value_type q.0))
    (row Cells (crosses_with c (cells_if c.structs (value_type q.0))) no_row)))))

pub record TypedHead : Type 0 where
  pub params : List TypedParameter
  pub result : Ty

abbrev pub params_of : List TypedParameter → List Param
params_of [] = []
params_of (p ∷ ps) = record { ty = p.ty; default = p.default } ∷ params_of ps

abbrev pub signature_of : TypedHead → Signature
signature_of h = record { params = params_of h.params; result = h.result }

abbrev pub same_types : List Param → List Param → Bool
same_types [] [] = true
same_types (p ∷ ps) (q ∷ qs) = same_type p.ty q.ty && same_types ps qs
same_types _ _ = false

-- a declaration of a function agrees with the first one, where there is one
abbrev pub agrees : Option Signature → Signature → Bool
agrees None s = true
agrees (Some t) s = same_types t.params s.params && same_type t.result s.result

abbrev pub may_declare : Sight → List ℕ → Bool → Option Signature → TypedHead → Bool
may_declare c x with_body first h =
    not (is_taken_by_other c x)
    && (agrees first (signature_of h) && not (with_body && has_body x c.seen))

abbrev pub head_of : Sight → List ℕ → Bool → Option Signature → TypedHead → Option TypedHead
head_of c x with_body first h = when (may_declare c x with_body first h) h

abbrev pub head_rule : Sight → List ℕ → Bool → List TypedParameter × Meant × Option Signature
    → Option TypedHead
head_rule c x with_body p =
    option_and_then (λ t. head_of c x with_body p.2 (record { params = p.0; result = t }))
    (any_type p.1)

abbrev pub head_rows : List TypedParameter × Meant × Option Signature → Rows
head_rows p = row RefusedType (is_refused p.1) (row Unknown (is_missing p.1) (only Redeclared))

-- a function gives its result, or has none, or no body
abbrev pub gives : Ty → Option TypedStmts → Bool
gives t None = true
gives t (Some body) = is_void t || some_returns body

abbrev pub function_rule : ℕ → List ℕ → TypedHead × Option TypedStmts → Option TypedItem
function_rule n x p = when (gives p.0.result p.1) (unit.function n p.0.result x p.0.params p.1)

abbrev pub function_rows : TypedHead × Option TypedStmts → Rows
function_rows p = only NoReturn

-- ---- statements

abbrev pub if_rule : ℕ → TypedExpr × TypedStmt → Option TypedStmt
if_rule n p = when (is_int (type_of p.0)) (tree.if_only n p.0 p.1)

abbrev pub if_rows : TypedExpr × TypedStmt → Rows
if_rows p = only Mismatch

abbrev pub if_else_rule : ℕ → TypedExpr × TypedStmt × TypedStmt → Option TypedStmt
if_else_rule n p = when (is_int (type_of p.0)) (tree.if_else n p.0 p.1 p.2)

abbrev pub if_else_rows : TypedExpr × TypedStmt × TypedStmt → Rows
if_else_rows p = only Mismatch

abbrev pub while_rule : ℕ → TypedExpr × TypedStmt → Option TypedStmt
while_rule n p = when (is_int (type_of p.0)) (tree.while_loop n p.0 p.1)

abbrev pub do_rule : ℕ → TypedStmt × TypedExpr → Option TypedStmt
do_rule n p = when (is_int (type_of p.1)) (tree.do_loop n p.0 p.1)

abbrev pub do_rows : TypedStmt × TypedExpr → Rows
do_rows p = only Mismatch

abbrev pub is_condition : Option TypedExpr → Bool
is_condition None = true
is_condition (Some x) = is_int (type_of x)

abbrev pub for_rule : ℕ → Option TypedExpr × Option TypedExpr × Option TypedExpr × TypedStmt
    → Option TypedStmt
for_rule n p = when (is_condition p.1) (tree.for_loop n p.0 p.1 p.2 p.3)

abbrev pub for_rows : Option TypedExpr × Option TypedExpr × Option TypedExpr × TypedStmt → Rows
for_rows p = only Mismatch

abbrev pub switch_rule : Sight → ℕ → TypedExpr × TypedStmts → Option TypedStmt
switch_rule c n p = when (is_int (type_of p.0) && not (crosses_with c 1)) (tree.switch n p.0 p.1)

abbrev pub switch_rows : Sight → TypedExpr × TypedStmts → Rows
switch_rows c p = row Mismatch (not (is_int (type_of p.0))) (row Cells (crosses_with c 1) no_row)

abbrev pub break_rule : Sight → ℕ → Unit {0} → Option TypedStmt
break_rule c n u = when c.may_break (tree.break_off n)

abbrev pub continue_rule : Sight → ℕ → Unit {0} → Option TypedStmt
continue_rule c n u = when c.in_loop (tree.continue_on n)

abbrev pub outside_rows : Unit {0} → Rows
outside_rows u = only Outside

abbrev pub result_fits : Ty → Option TypedExpr → Bool
result_fits t None = is_void t
result_fits t (Some x) = not (is_void t) && same_type t (type_of x)

abbrev pub return_rule : ℕ → Ty × Option TypedExpr → Option TypedStmt
return_rule n p = when (result_fits p.0 p.1) (tree.return_from n p.1)

abbrev pub return_rows : Ty × Option TypedExpr → Rows
return_rows p = only Mismatch

-- ---- labels

abbrev pub is_among_ints : ℤ → List ℤ → Bool
is_among_ints v [] = false
is_among_ints v (w ∷ ws) = if int_eq v w then true else is_among_ints v ws

-- this case stood before in its switch
abbrev pub is_again : Option Labels → Const → Bool
is_again (Some l) (const.Int v) = is_among_ints v l.cases
is_again _ _ = false

-- no label may stand here
abbrev pub is_outside : Option Labels → Bool
is_outside None = true
is_outside (Some l) = l.is_late

abbrev pub has_default_label : Option Labels → Bool
has_default_label None = false
has_default_label (Some l) = l.has_default

abbrev pub case_rule : Option Labels → ℕ → Const → Option TypedStmt
case_rule l n k = when (not (is_again l k) && (not (is_outside l) && is_int (const_type k)))
    (tree.case_label n k)

abbrev pub case_rows : Option Labels → Const → Rows
case_rows l k = row Redeclared (is_again l k) (row Outside (is_outside l) (only Mismatch))

abbrev pub default_rule : Option Labels → ℕ → Unit {0} → Option TypedStmt
default_rule l n u = when (not (has_default_label l) && not (is_outside l)) (tree.default_label n)

abbrev pub default_rows : Option Labels → Unit {0} → Rows
default_rows l u = row Redeclared (has_default_label l) (only Outside)

-- ---- the function that a script begins with

abbrev pub is_empty : List Param → Bool
is_empty [] = true
is_empty (p ∷ ps) = false

-- no parameters, and this result
abbrev pub is_plain : Ty → Option (Option Signature) → Bool
is_plain t None = false
is_plain t (Some None) = false
is_plain t (Some (Some s)) = is_empty s.params && same_type t s.result

abbrev pub begins : List ℕ → Ty → List Head → Bool
begins x t hs = has_body x hs && is_plain t (first_types x hs)

abbrev pub entry_rule : List Head → Unit {0} → Option EntryPoint
entry_rule hs u =
    if begins (codes "main") ty.Void hs then Some (Main (body_number (codes "main") hs))
    else when (begins (codes "StartingConditional") ty.Int hs)
    (Conditional (body_number (codes "StartingConditional") hs))

abbrev pub entry_rows : Unit {0} → Rows
entry_rows u = only Entry
