-- Wherever a rule doesn't fit, some row is true.
use Rattle.std.proofs.Common.{◌≡◌, refl, ℕ, Bool, true, false, not, ◌&&◌, List, Option, None, Some, option_and_then}
use Rattle.nss_tree.specs.declared.units.Identifier.{Identifier}
use Rattle.nss_tree.specs.Source.{SourceDeclared, SourceParameter}
use Rattle.nwq_value.specs.declared.value.Ty.{Ty}
use Rattle.nwq_value.specs.declared.engine.Const.{Const}
use Rattle.typing_rules.specs.declared.fault.FaultKind.{FaultKind}
use Rattle.typing_rules.specs.declared.fault.FaultKind.TheVariants.{RefusedType, Unknown, Redeclared, Arity, Mismatch, Cells}
use Rattle.typing_rules.specs.Types.{is_int}
use Rattle.typing_rules.specs.Typed as typed
use Rattle.typing_rules.specs.Nodes.{Rows, row, no_row}
use Rattle.typing_rules.specs.Sight.{Structure, Sight, Meant, is_taken, value_type, cells, cells_if, crosses_with}
use Rattle.typing_rules.specs.Rules.{when, name_rule, name_rows, value_fits, variable_rule, variable_rows, Fields, is_among, crosses_fields, field_rule, field_rows, is_refused, is_missing, is_behind}
use Rattle.typing_rules.specs.Rules.{default_fits, parameter_of, parameter_rule, parameter_mismatch, parameter_rows, switch_rule, switch_rows}
use Rattle.typing_rules.proofs.Right.{Covered}

pub name_covered : (at_file : Bool) → Covered name_rows (name_rule at_file)
name_covered at_file None e = (Unknown, refl)
name_covered at_file (Some m) e = absurd cc

abbrev TrueRow : Rows → Type 0
TrueRow r = (k : FaultKind) × (r k ≡ true)

after_three : {A : Type 0} (a b c : Bool) (x : A) → when (not a && (b && not c)) x ≡ None
    → TrueRow (row Redeclared a (row Mismatch (not b) (row Cells c no_row)))
after_three true b c x e = (Redeclared, refl)
after_three false false c x e = (Mismatch, refl)
after_three false true true x e = (Cells, refl)
after_three false true false x e = absurd cc

pub variable_covered : (c : Sight) (d : SourceDeclared) → Covered (variable_rows c d.name) (variable_rule c d)
variable_covered c d p e = after_three (is_taken c d.name) (value_fits p.0 p.1) (crosses_with c (cells c.structs p.0)) _ e

after_two : {A : Type 0} (a c : Bool) (x : A) → when (not a && not c) x ≡ None → TrueRow (row Redeclared a (row Cells c no_row))
after_two true c x e = (Redeclared, refl)
after_two false true x e = (Cells, refl)
after_two false false x e = absurd cc

pub field_covered : (structs : List Structure) (s : Fields) (x : Identifier) → Covered (field_rows structs s x) (field_rule structs s x)
field_covered structs s x t e = after_two (is_among x.name s.names) (crosses_fields s (cells structs t)) x e

after_four : {A : Type 0} (p q a b c d : Bool) (x : A) → when (not a && (not b && (c && not d))) x ≡ None
    → TrueRow (row RefusedType p (row Unknown q (row Redeclared a (row Arity b (row Mismatch (not c) (row Cells d no_row))))))
after_four p q true b c d x e = (Redeclared, refl)
after_four p q false true c d x e = (Arity, refl)
after_four p q false false false d x e = (Mismatch, refl)
after_four p q false false true true x e = (Cells, refl)
after_four p q false false true false x e = absurd cc

parameter_by : (c : Sight) (late : Bool) (p : SourceParameter) (m : Meant) (v : Option Const) (t : Option Ty) → option_and_then (parameter_of c late p v) t ≡ None
    → TrueRow (row RefusedType (is_refused m) (row Unknown (is_missing m) (row Redeclared (is_taken c p.name) (row Arity (is_behind late v)
    (row Mismatch (parameter_mismatch v t) (row Cells (crosses_with c (cells_if c.structs t)) no_row))))))
parameter_by c late p m v None e = (Mismatch, refl)
parameter_by c late p m v (Some t) e =
    after_four (is_refused m) (is_missing m) (is_taken c p.name) (is_behind late v) (default_fits t v) (crosses_with c (cells c.structs t)) _ e

pub parameter_covered : (c : Sight) (late : Bool) (p : SourceParameter) → Covered (parameter_rows c late p) (parameter_rule c late p)
parameter_covered c late p q e = parameter_by c late p q.0 q.1 (value_type q.0) e

after_switch : {A : Type 0} (a c : Bool) (x : A) → when (a && not c) x ≡ None → TrueRow (row Mismatch (not a) (row Cells c no_row))
after_switch false c x e = (Mismatch, refl)
after_switch true true x e = (Cells, refl)
after_switch true false x e = absurd cc

pub switch_covered : (c : Sight) (n : ℕ) → Covered (switch_rows c) (switch_rule c n)
switch_covered c n p e = after_switch (is_int (typed.type_of p.0)) (crosses_with c 1) _ e
