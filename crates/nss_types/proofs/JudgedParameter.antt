-- The verdict on a parameter, by the fault that code finds.
use Rattle.std.proofs.Common.{◌≡◌, Bool, false, not, ◌&&◌, Option, Some, refl, sym, ap, ◌∙◌}
use Rattle.std.specs.Option.{option_and_then}
use Rattle.nss_tree.specs.Source.{SourceParameter}
use Rattle.nwq_value.specs.declared.engine.Const.{Const}
use Rattle.nwq_value.specs.declared.value.Ty.{Ty}
use Rattle.typing_rules.specs.declared.fault.FaultKind.{FaultKind}
use Rattle.typing_rules.specs.declared.fault.FaultKind.TheVariants.{RefusedType, Unknown, Redeclared, Arity, Mismatch, Cells}
use Rattle.typing_rules.specs.Nodes.{Verdict, asked, ruled, first_kind, no_row, row}
use Rattle.typing_rules.specs.Rules.{default_fits, is_behind, is_missing, is_refused, parameter_mismatch, parameter_of, parameter_rows, parameter_rule}
use Rattle.typing_rules.specs.Sight.{Sight, Meant, IsRefused, IsMissing, Is, cells, cells_if, crosses_with, is_taken, value_type}
use Rattle.typing_rules.specs.Typed.{TypedParameter}
use Rattle.nss_statements.specs.Faults.{by_fault, fault_unless, ruled_when}

not_refused : (m : Meant) (t : Ty) → value_type m ≡ Some t → (is_refused m ≡ false) × (is_missing m ≡ false)
not_refused IsRefused t some = absurd cc
not_refused IsMissing t some = absurd cc
not_refused (Is u) t some = (refl, refl)

module _ (s : Sight) (late : Bool) (p : SourceParameter) (v : Option Const) where
  abbrev by_type : Bool → Bool → Option Ty → Verdict TypedParameter
  by_type refused missing o = ruled
      (first_kind (row RefusedType refused (row Unknown missing (row Redeclared (is_taken s p.name) (row Arity (is_behind late v)
      (row Mismatch (parameter_mismatch v o) (row Cells (crosses_with s (cells_if s.structs o)) no_row)))))))
      (option_and_then (parameter_of s late p v) o)

  module _ (m : Meant) (a b : Bool) (taken : a ≡ is_taken s p.name) (behind : b ≡ is_behind late v) where
    pub typed_is : (t : Ty) (c d : Bool) (k : Option FaultKind) → value_type m ≡ Some t → c ≡ default_fits t v → d ≡ crosses_with s (cells s.structs t)
        → k ≡ fault_unless (not a && (not b && (c && not d))) (first_kind (row Redeclared a (row Arity b (row Mismatch (not c) (row Cells d no_row)))))
        → asked (parameter_rows s late p) (parameter_rule s late p) (Some (m, v)) ≡ by_fault k (record { token = p.token; ty = t; name = record { number = s.next; ty = t }; default = v })
    typed_is t c d k some fits crosses is =
        let n = not_refused m t some in
        ap (by_type (is_refused m) (is_missing m)) some
        ∙ (ap (λ x. by_type x (is_missing m) (Some t)) n.0 ∙ (ap (λ x. by_type false x (Some t)) n.1
        ∙ (ruled_when _ _ _ ∙ ap (λ f. by_fault f (record { token = p.token; ty = t; name = record { number = s.next; ty = t }; default = v })) (sym (rw (is, taken, behind, fits, crosses) refl)))))
