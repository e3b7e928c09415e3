-- Declared names, by what is known of them.
use Rattle.std.proofs.Common.{◌≡◌, ℕ, Bool, true, false, not, ◌&&◌, List, Option, None, Some, if◌then◌else◌, refl, ap, ◌∙◌}
use Rattle.std.specs.Option.{option_map, option_and_then}
use Rattle.nss_tree.specs.Source.{SourceDeclared, SourceParameter}
use Rattle.nwq_value.specs.Engine.{const_type}
use Rattle.nwq_value.specs.declared.engine.Const.{Const}
use Rattle.nwq_value.specs.declared.value.Ty.{Ty}
use Rattle.typing_rules.specs.Nodes.{two}
use Rattle.typing_rules.specs.Rules.{constant_name_rule, default_fits, is_behind, parameter_of, value_fits, variable_rule, when}
use Rattle.typing_rules.specs.Sight.{Sight, cells, crosses_with, is_taken}
use Rattle.typing_rules.specs.Typed.{TypedExpr, type_of}
use Rattle.typing_rules.specs.Types.{is_void, same_type}
use Rattle.expression_reasons.specs.declared.reason.Reason.{Reason}
use Rattle.expression_reasons.specs.declared.reason.Reason.TheVariants.{NoDefault, NoVariable, Taken, Value}
use Rattle.nss_reasons.specs.Reasons.{parameter_by}
use Rattle.expression_reasons.specs.Why.{because, unless}
use Rattle.nss_reasons.specs.Why.{constant_reason, const_type_there, declared_by, declared_why, default_by, default_fits_type, default_reason, fits_type, parameter_by_tests, parameter_named}
use Rattle.nss_reasons.specs.Why.{value_reason, variable_reason}

tested : {B : Type 0} (taken fits crosses : Bool) (made : B) (r : Reason)
    → declared_by taken fits crosses r ≡ unless (when (not taken && (fits && not crosses)) made) (if taken then Taken else r)
tested true fits crosses made r = refl
tested false true true made r = refl
tested false true false made r = refl
tested false false crosses made r = refl

fits_is : (t : Ty) (v : Option TypedExpr) → fits_type t (option_map type_of v) ≡ value_fits t v
fits_is t None = refl
fits_is t (Some x) = refl

pub variable_is : (c : Sight) (d : SourceDeclared) (t : Ty) (v : Option TypedExpr)
    → declared_why c d.name t (option_map type_of v) ≡ because (variable_rule c d) (variable_reason c d.name) (two (Some t) (Some v))
variable_is c d t v =
    ap (λ b. declared_by (is_taken c d.name) b (crosses_with c (cells c.structs t)) (value_reason t (option_map type_of v))) (fits_is t v)
    ∙ tested (is_taken c d.name) (value_fits t v) (crosses_with c (cells c.structs t)) _ (value_reason t (option_map type_of v))

constant_tested : (taken same : Bool) (p : Ty × Const) (r : Reason)
    → declared_by taken same false r ≡ unless (when (not taken && same) p) (if taken then Taken else r)
constant_tested true same p r = refl
constant_tested false true p r = refl
constant_tested false false p r = refl

pub constant_is : (c : Sight) (x : List ℕ) (t : Ty) (k : Const)
    → declared_by (is_taken c x) (same_type t (const_type k)) false (Value (const_type k) t)
    ≡ because (constant_name_rule c x) (constant_reason c x) (two (Some t) (Some k))
constant_is c x t k = constant_tested (is_taken c x) (same_type t (const_type k)) (t, k) (Value (const_type k) t)

default_is : (t : Ty) (v : Option Const) → fits_type t (const_type_there v) ≡ default_fits t v
default_is t None = refl
default_is t (Some k) = refl

parameter_tested : {B : Type 0} (taken behind void fits crosses : Bool) (t : Ty) (made : B) (r : Reason)
    → parameter_by_tests taken behind (not void && fits) crosses (if void then NoVariable t else r)
    ≡ unless (if void then None else when (not taken && (not behind && (fits && not crosses))) made)
    (if taken then Taken else (if behind then NoDefault else (if void then NoVariable t else r)))
parameter_tested true behind true fits crosses t made r = refl
parameter_tested true behind false fits crosses t made r = refl
parameter_tested false true true fits crosses t made r = refl
parameter_tested false true false fits crosses t made r = refl
parameter_tested false false true fits crosses t made r = refl
parameter_tested false false false true true t made r = refl
parameter_tested false false false true false t made r = refl
parameter_tested false false false false crosses t made r = refl

-- a rule of a type that is there
ruled_if : {B : Type 0} (void : Bool) (t : Ty) (rule : Ty → Option B) → (if void then None else rule t) ≡ option_and_then rule (if void then None else Some t)
ruled_if true t rule = refl
ruled_if false t rule = refl

pub parameter_is : (c : Sight) (late : Bool) (p : SourceParameter) (t : Ty) (v : Option Const)
    → parameter_by_tests (is_taken c p.name) (is_behind late v) (default_fits_type t (const_type_there v)) (crosses_with c (cells c.structs t)) (default_reason t (const_type_there v))
    ≡ parameter_by c late p (t, v)
parameter_is c late p t v =
    ap (λ b. parameter_by_tests (is_taken c p.name) (is_behind late v) (not (is_void t) && b) (crosses_with c (cells c.structs t)) (default_reason t (const_type_there v))) (default_is t v)
    ∙ (parameter_tested (is_taken c p.name) (is_behind late v) (is_void t) (default_fits t v) (crosses_with c (cells c.structs t)) t _ (default_by t (const_type_there v))
    ∙ ap (λ o. unless o (parameter_named c late p.name v t)) (ruled_if (is_void t) t (parameter_of c late p v)))
