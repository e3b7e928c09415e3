-- At each node the reason is that of the first row that is true of it.
use Rattle.std.proofs.Common.{◌≡◌, ℕ, ℤ, ◌+◌, Bool, true, false, not, ◌&&◌, ◌||◌, List, [], ◌∷◌, Option, None, Some, is_none, refl, sym, ap, true≢false, if◌then◌else◌}
use Rattle.std.specs.Option.{option_map}
use Rattle.nss_tree.specs.declared.operators.PrefixOperator.{PrefixOperator}
use Rattle.nss_tree.specs.declared.operators.PostfixOperator.{PostfixOperator}
use Rattle.nss_tree.specs.declared.operators.BinaryOperator.{BinaryOperator}
use Rattle.nss_tree.specs.declared.operators.AssignOperator.{AssignOperator}
use Rattle.nss_tree.specs.Source.{SourceDeclared, SourceParameter}
use Rattle.nss_tree.specs.Statements as stmt
use Rattle.nwq_value.specs.declared.value.Ty.{Ty}
use Rattle.nwq_value.specs.declared.value.Ty.TheVariants as ty
use Rattle.nwq_value.specs.declared.engine.Const.{Const}
use Rattle.nwq_value.specs.declared.engine.Const.TheVariants as const
use Rattle.nwq_value.specs.declared.engine.Param.{Param}
use Rattle.nwq_value.specs.Engine.{const_type}
use Rattle.typing_rules.specs.declared.fault.FaultKind.TheVariants.{RefusedType, Unknown, Redeclared, Arity, NotConst, NotPlace, Outside, Mismatch}
use Rattle.typing_rules.specs.declared.fault.FaultKind.TheVariants as fault
use Rattle.typing_rules.specs.Types.{is_int, is_void, same_type, is_step}
use Rattle.typing_rules.specs.Typed.{TypedExpr, TypedExprs, no_typed, more_typed, TypedStmt, TypedStmts, type_of, is_place}
use Rattle.typing_rules.specs.Typed as typed
use Rattle.typing_rules.specs.Nodes.{asked, at, first_kind, row, only, no_row, ruled, two, three, four, present_if}
use Rattle.typing_rules.specs.Sight.{Called, Labels, Meaning, Is, IsRefused, IsMissing, Sight, Structure, cells, cells_if, crosses_with, is_taken, value_type}
use Rattle.typing_rules.specs.Rules as rules
use Rattle.typing_rules.specs.Rules.{all_taken, binary_rows, binary_rule, call_rows, call_rule, case_rows, case_rule, constant_name_rows, constant_name_rule, constant_rows, ConstantMeant}
use Rattle.typing_rules.specs.Rules.{constant_type, default_fits, filled, filled_call, for_rows, for_rule, if_else_rows, if_else_rule, if_rows, if_rule, is_again, is_barred, is_behind, is_outside}
use Rattle.typing_rules.specs.Rules.{line_rows, member_rows, member_rule, name_rows, parameter_mismatch, parameter_rows, parameter_rule, postfix_rows, postfix_rule, prefix_rows, prefix_rule}
use Rattle.typing_rules.specs.Rules.{assign_rows, assign_rule, return_rows, return_rule, do_rows, do_rule, while_rule, switch_rows, switch_rule, takes, value_fits, variable_rows, variable_rule, when}
use Rattle.expression_reasons.specs.declared.reason.Reason.TheVariants as why
use Rattle.expression_reasons.specs.Seen.{Node, own}
use Rattle.expression_reasons.specs.Why.{assign_reason, because, call_why, condition_reason, condition_rule, counts, member_reason, operands, postfix_reason, prefix_reason, return_reason}
use Rattle.expression_reasons.specs.Why.{step_reason, unless, untaken}
use Rattle.nss_reasons.specs.Why.{case_reason, const_type_there, constant_reason, default_by, line_reason, parameter_reason, value_reason, variable_reason}
use Rattle.reason_laws.specs.Laws.{Tells, is_joined, kind_of}
use Rattle.reason_laws.proofs.Told.{Each, Fitting, each_none, each_other, each_tested, each_wrong}

-- ---- operators

step_kind : (step place : Bool) (t : Ty) → kind_of (step_reason (not step || place) t) ≡ first_kind (row NotPlace (step && not place) (only Mismatch))
step_kind true true t = refl
step_kind true false t = refl
step_kind false place t = refl

pub prefix_fits : (o : PrefixOperator) → Fitting (prefix_rows o) (prefix_rule o) (prefix_reason o)
prefix_fits o a none joined = step_kind (is_step o) (is_place a) (type_of a)

place_kind : (place : Bool) (t : Ty) → kind_of (step_reason place t) ≡ first_kind (row NotPlace (not place) (only Mismatch))
place_kind true t = refl
place_kind false t = refl

pub postfix_fits : (o : PostfixOperator) → Fitting postfix_rows (postfix_rule o) postfix_reason
postfix_fits o a none joined = place_kind (is_place a) (type_of a)

pub binary_fits : (o : BinaryOperator) → Fitting binary_rows (binary_rule o) operands
binary_fits o p none joined = refl

assign_kind : (place : Bool) (s t : Ty) → kind_of (if place then why.Operands s t else why.NoPlace) ≡ first_kind (row NotPlace (not place) (only Mismatch))
assign_kind true s t = refl
assign_kind false s t = refl

pub assign_fits : (o : AssignOperator) → Fitting assign_rows (assign_rule o) assign_reason
assign_fits o p none joined = assign_kind (is_place p.0) (type_of p.0) (type_of p.1)

pub member_fits : (structs : List Structure) (x : List ℕ) → Fitting member_rows (member_rule structs x) member_reason
member_fits structs x a none joined = refl

-- ---- calls

-- an argument that isn't taken is told
untaken_told : (n : ℕ) (xs : TypedExprs) (ps : List Param) (ks : List Const) → filled xs ps ≡ Some ks → all_taken xs ps ≡ false → Tells (untaken n xs ps) Mismatch
untaken_told n no_typed ps ks full not_taken = absurd (true≢false not_taken)
untaken_told n (more_typed x xs) [] ks full not_taken = absurd (true≢false (ap is_none full))
untaken_told n (more_typed x xs) (p ∷ ps) ks full not_taken = by (untaken_told (n + 1) xs ps ks full) (takes p.ty x) not_taken
  where
    by : (all_taken xs ps ≡ false → Tells (untaken (n + 1) xs ps) Mismatch) → (b : Bool) → (b && all_taken xs ps) ≡ false → Tells
        (if b then untaken (n + 1) xs ps else Some (why.Argument (n + 1) (type_of x) p.ty)) Mismatch
    by rest true more = rest more
    by rest false more = record { reason = why.Argument (n + 1) (type_of x) p.ty; is = refl; kind = refl }

-- a call by its tests: whether it is callable and barred, whether its arguments are taken, and the
-- defaults that fill it up
module _ {B : Type 0} (n : ℕ) (xs : TypedExprs) (ps : List Param) (made : List Const → B) where
  called_told : (callable barred taken : Bool) (full : Option (List Const)) → all_taken xs ps ≡ taken → filled xs ps ≡ full
      → Each
      (at n (ruled (first_kind (row RefusedType (not callable) (row Unknown false (row Arity (is_none full) (row NotConst barred (only Mismatch))))))
      (if callable && (not barred && taken) then option_map made full else None)))
      (own n (if callable then (if is_none full then Some (counts xs ps) else (if barred then Some why.Barred else untaken 0 xs ps)) else Some why.Uncallable))
  called_told false barred taken full t f = each_wrong n RefusedType _ (λ j. record { reason = why.Uncallable; is = refl; kind = refl })
  called_told true false true None t f = each_wrong n Arity _ (λ j. record { reason = counts xs ps; is = refl; kind = refl })
  called_told true false false None t f = each_wrong n Arity _ (λ j. record { reason = counts xs ps; is = refl; kind = refl })
  called_told true true taken None t f = each_wrong n Arity _ (λ j. record { reason = counts xs ps; is = refl; kind = refl })
  called_told true true taken (Some ks) t f = each_wrong n NotConst _ (λ j. record { reason = why.Barred; is = refl; kind = refl })
  called_told true false true (Some ks) t f = each_none
  called_told true false false (Some ks) t f = each_wrong n Mismatch _ (λ j. untaken_told 0 xs ps ks f t)

pub each_call : (n : ℕ) (at_file as_action : Bool) (o : Option (TypedExprs × Option Called))
    → Each (at n (asked (call_rows at_file as_action) (call_rule at_file as_action) o)) (own n (call_why at_file as_action o))
each_call n at_file as_action None = each_none
each_call n at_file as_action (Some (xs, None)) = each_wrong n Unknown _ (λ j. record { reason = why.NoFunction; is = refl; kind = refl })
each_call n at_file as_action (Some (xs, Some d)) =
    called_told n xs d.params (λ ks. typed.call d.result d.callee xs ks) d.is_callable (at_file && is_barred as_action d) (all_taken xs d.params) (filled xs d.params) refl refl

-- ---- names

name_kind : (taken crosses : Bool) (t : Ty) (v : Option TypedExpr)
    → is_joined (first_kind (row Redeclared taken (row Mismatch (not (value_fits t v)) (row fault.Cells crosses no_row)))) ≡ true
    → kind_of (if taken then why.Taken else value_reason t (option_map type_of v))
    ≡ first_kind (row Redeclared taken (row Mismatch (not (value_fits t v)) (row fault.Cells crosses no_row)))
name_kind true crosses t v joined = refl
name_kind false true t None joined = refl
name_kind false false t None joined = absurd (true≢false (sym joined))
name_kind false crosses t (Some x) joined = by (same_type t (type_of x)) crosses joined
  where
    by : (same crosses : Bool) → is_joined (first_kind (row Redeclared false (row Mismatch (not same) (row fault.Cells crosses no_row)))) ≡ true
        → kind_of (if same then why.Cells else why.Value (type_of x) t) ≡ first_kind (row Redeclared false (row Mismatch (not same) (row fault.Cells crosses no_row)))
    by true true joined = refl
    by true false joined = absurd (true≢false (sym joined))
    by false crosses joined = refl

pub variable_fits : (c : Sight) (d : SourceDeclared) → Fitting (variable_rows c d.name) (variable_rule c d) (variable_reason c d.name)
variable_fits c d p none joined = name_kind (is_taken c d.name) (crosses_with c (cells c.structs p.0)) p.0 p.1 joined

constant_kind : (taken : Bool) (s t : Ty) → kind_of (if taken then why.Taken else why.Value s t) ≡ first_kind (row Redeclared taken (only Mismatch))
constant_kind true s t = refl
constant_kind false s t = refl

pub constant_fits : (c : Sight) (x : List ℕ) → Fitting (constant_name_rows c x) (constant_name_rule c x) (constant_reason c x)
constant_fits c x p none joined = constant_kind (is_taken c x) (const_type p.1) p.0

-- a parameter whose type is no type of values, or is one
default_kind : (crosses : Bool) (t : Ty) (v : Option Const)
    → is_joined (first_kind (row Redeclared false (row Arity false (row Mismatch (not (default_fits t v)) (row fault.Cells crosses no_row))))) ≡ true
    → kind_of (default_by t (const_type_there v)) ≡ first_kind (row Redeclared false (row Arity false (row Mismatch (not (default_fits t v)) (row fault.Cells crosses no_row))))
default_kind true t None joined = refl
default_kind false t None joined = absurd (true≢false (sym joined))
default_kind crosses t (Some k) joined = by (same_type t (const_type k)) crosses joined
  where
    by : (same crosses : Bool) → is_joined (first_kind (row Redeclared false (row Arity false (row Mismatch (not same) (row fault.Cells crosses no_row))))) ≡ true
        → kind_of (if same then why.Cells else why.Default (const_type k) t) ≡ first_kind (row Redeclared false (row Arity false (row Mismatch (not same) (row fault.Cells crosses no_row))))
    by true true joined = refl
    by true false joined = absurd (true≢false (sym joined))
    by false crosses joined = refl

module _ (t : Ty) (v : Option Const) (crosses : Option Ty → Bool) where
  parameter_kind : (taken behind void : Bool)
      → is_joined (first_kind (row Redeclared taken (row Arity behind (row Mismatch (parameter_mismatch v (if void then None else Some t))
      (row fault.Cells (crosses (if void then None else Some t)) no_row))))) ≡ true
      → kind_of (if taken then why.Taken else (if behind then why.NoDefault else (if void then why.NoVariable t else default_by t (const_type_there v))))
      ≡ first_kind (row Redeclared taken (row Arity behind (row Mismatch (parameter_mismatch v (if void then None else Some t)) (row fault.Cells (crosses (if void then None else Some t)) no_row))))
  parameter_kind true behind void joined = refl
  parameter_kind false true void joined = refl
  parameter_kind false false true joined = refl
  parameter_kind false false false joined = default_kind (crosses (Some t)) t v joined

pub parameter_fits : (c : Sight) (late : Bool) (p : SourceParameter) → Fitting (parameter_rows c late p) (parameter_rule c late p) (parameter_reason c late p.name)
parameter_fits c late p (IsRefused, v) none joined = refl
parameter_fits c late p (IsMissing, v) none joined = refl
parameter_fits c late p (Is t, v) none joined =
    parameter_kind t v (λ o. crosses_with c (cells_if c.structs o)) (is_taken c p.name) (is_behind late v) (is_void t) joined

-- ---- types as they are written

pub line_fits : Fitting line_rows value_type (line_reason why.NoVariable)
line_fits IsRefused none joined = refl
line_fits IsMissing none joined = refl
line_fits (Is t) none joined = refl

pub constant_line_fits : Fitting line_rows constant_type (line_reason why.NoConstant)
constant_line_fits IsRefused none joined = refl
constant_line_fits IsMissing none joined = refl
constant_line_fits (Is t) none joined = refl

-- ---- statements

pub return_fits : (n : ℕ) → Fitting return_rows (return_rule n) return_reason
return_fits n p none joined = refl

label_kind : (outside : Bool) (t : Ty) → kind_of (if outside then why.Misplaced else why.Label t) ≡ first_kind (row Redeclared false (row Outside outside (only Mismatch)))
label_kind true t = refl
label_kind false t = refl

again_kind : (again outside : Bool) (v : ℤ)
    → kind_of (if again then why.Again v else (if outside then why.Misplaced else why.Label ty.Int)) ≡ first_kind (row Redeclared again (row Outside outside (only Mismatch)))
again_kind true outside v = refl
again_kind false true v = refl
again_kind false false v = refl

pub case_fits : (l : Option Labels) (n : ℕ) → Fitting (case_rows l) (case_rule l n) (case_reason l)
case_fits l n (const.Int v) none joined = again_kind (is_again l (const.Int v)) (is_outside l) v
case_fits None n (const.Text v) none joined = refl
case_fits (Some l) n (const.Text v) none joined = label_kind (is_outside (Some l)) ty.Text
case_fits None n const.SelfObject none joined = refl
case_fits (Some l) n const.SelfObject none joined = label_kind (is_outside (Some l)) ty.Object
case_fits None n const.InvalidObject none joined = refl
case_fits (Some l) n const.InvalidObject none joined = label_kind (is_outside (Some l)) ty.Object

-- ---- conditions, where the other parts are typed

module _ (n : ℕ) where
  pub each_if : (o : Option TypedExpr) (a : Option TypedStmt) → Each (at n (asked if_rows (if_rule n) (two o a))) (own n (because condition_rule condition_reason o))
  each_if None a = each_none
  each_if (Some x) None = each_none
  each_if (Some x) (Some a) = each_tested n Mismatch (is_int (type_of x)) (stmt.if_only n x a) x (why.Condition (type_of x)) refl

  pub each_if_else : (o : Option TypedExpr) (a b : Option TypedStmt)
      → Each (at n (asked if_else_rows (if_else_rule n) (three o a b))) (own n (because condition_rule condition_reason o))
  each_if_else None a b = each_none
  each_if_else (Some x) None b = each_none
  each_if_else (Some x) (Some a) None = each_none
  each_if_else (Some x) (Some a) (Some b) = each_tested n Mismatch (is_int (type_of x)) (stmt.if_else n x a b) x (why.Condition (type_of x)) refl

  pub each_while : (o : Option TypedExpr) (a : Option TypedStmt) → Each (at n (asked if_rows (while_rule n) (two o a))) (own n (because condition_rule condition_reason o))
  each_while None a = each_none
  each_while (Some x) None = each_none
  each_while (Some x) (Some a) = each_tested n Mismatch (is_int (type_of x)) (stmt.while_loop n x a) x (why.Condition (type_of x)) refl

  pub each_do : (a : Option TypedStmt) (o : Option TypedExpr) → Each (at n (asked do_rows (do_rule n) (two a o))) (own n (because condition_rule condition_reason o))
  each_do None o = each_none
  each_do (Some a) None = each_none
  each_do (Some a) (Some x) = each_tested n Mismatch (is_int (type_of x)) (stmt.do_loop n a x) x (why.Condition (type_of x)) refl

  -- a `for` with a condition
  pub each_for : (x : Option (Option TypedExpr)) (o : Option TypedExpr) (z : Option (Option TypedExpr)) (a : Option TypedStmt)
      → Each (at n (asked for_rows (for_rule n) (four x (present_if o) z a))) (own n (because condition_rule condition_reason o))
  each_for None o z a = each_none
  each_for (Some x) None z a = each_none
  each_for (Some x) (Some y) None a = each_none
  each_for (Some x) (Some y) (Some z) None = each_none
  each_for (Some x) (Some y) (Some z) (Some a) = each_tested n Mismatch (is_int (type_of y)) (stmt.for_loop n x (Some y) z a) y (why.Condition (type_of y)) refl

  -- and without
  pub each_endless : {xs : List Node} (x z : Option (Option TypedExpr)) (a : Option TypedStmt) → Each (at n (asked for_rows (for_rule n) (four x (Some None) z a))) xs
  each_endless None z a = each_none
  each_endless (Some x) None a = each_none
  each_endless (Some x) (Some z) None = each_none
  each_endless (Some x) (Some z) (Some a) = each_none

  pub each_switch : (c : Sight) (o : Option TypedExpr) (xs : Option TypedStmts)
      → Each (at n (asked (switch_rows c) (switch_rule c n) (two o xs))) (own n (because condition_rule condition_reason o))
  each_switch c None xs = each_none
  each_switch c (Some x) None = each_none
  each_switch c (Some x) (Some ys) = by (is_int (type_of x)) (crosses_with c 1) (stmt.switch n x ys)
    where
      by : {B : Type 0} (int crosses : Bool) (made : B)
          → Each (at n (ruled (first_kind (row Mismatch (not int) (row fault.Cells crosses no_row))) (when (int && not crosses) made)))
          (own n (unless (when int x) (why.Condition (type_of x))))
      by false crosses made = each_wrong n Mismatch _ (λ j. record { reason = why.Condition (type_of x); is = refl; kind = refl })
      by true true made = each_other n fault.Cells refl
      by true false made = each_none

-- ---- nodes whose rows are of other kinds

pub name_other : (m : Option Meaning) → is_joined (first_kind (name_rows m)) ≡ false
name_other None = refl
name_other (Some m) = refl

pub constant_other : (m : ConstantMeant) → is_joined (first_kind (constant_rows m)) ≡ false
constant_other (rules.Value k) = refl
constant_other rules.IsFloat = refl
constant_other rules.NoName = refl
constant_other rules.NoConstant = refl

pub redeclared_other : (taken crosses : Bool) → is_joined (first_kind (row Redeclared taken (row fault.Cells crosses no_row))) ≡ false
redeclared_other true crosses = refl
redeclared_other false true = refl
redeclared_other false false = refl

pub head_other : (refused missing : Bool) → is_joined (first_kind (row RefusedType refused (row Unknown missing (only Redeclared)))) ≡ false
head_other true missing = refl
head_other false true = refl
head_other false false = refl

pub default_other : (again : Bool) → is_joined (first_kind (row Redeclared again (only Outside))) ≡ false
default_other true = refl
default_other false = refl
