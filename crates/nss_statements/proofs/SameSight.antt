-- The numbers of variables don't matter for how an expression is typed.
use Rattle.std.proofs.Common.{◌≡◌, ℕ, Bool, false, List, ◌++◌, refl, ap, ◌∙◌}
use Rattle.nwq_value.specs.declared.engine.Param.{Param}
use Rattle.nss_tree.specs.Expressions.{PlainExpr, PlainExprs, int, float, text, object_self, object_invalid, name, call, member, prefix, postfix, binary, assign, no_expr, more_exprs}
use Rattle.typing_rules.specs.Nodes.{asked, at, fine, two}
use Rattle.typing_rules.specs.Rules.{call_rows, call_rule, member_rows, member_rule, prefix_rows, prefix_rule, postfix_rows, postfix_rule, binary_rows, binary_rule, assign_rows, assign_rule}
use Rattle.typing_rules.specs.Rules.{takes_action, others}
use Rattle.typing_rules.specs.Sight.{Head, Sight, callee, wanted}
use Rattle.typing_rules.specs.Verdicts.{verdict, all_fine, faults, all_faults, one_more_typed}

mutual
  pub same_verdict : (hs : List Head) (s : Sight) (n : ℕ) (b : Bool) (e : PlainExpr) → verdict hs (record s { next = n }) b e ≡ verdict hs s b e
  same_verdict hs s n b (int m v) = refl
  same_verdict hs s n b (float m) = refl
  same_verdict hs s n b (text m v) = refl
  same_verdict hs s n b (object_self m) = refl
  same_verdict hs s n b (object_invalid m) = refl
  same_verdict hs s n b (name m x) = refl
  same_verdict hs s n b (call m f es) =
      ap (λ o. asked (call_rows s.at_file b) (call_rule s.at_file b) (two o (callee hs s.table f))) (same_all hs s n (wanted hs s.table f) es)
  same_verdict hs s n b (member m e x) = ap (λ v. asked member_rows (member_rule s.structs x) (fine v)) (same_verdict hs s n false e)
  same_verdict hs s n b (prefix m o e) = ap (λ v. asked (prefix_rows o) (prefix_rule o) (fine v)) (same_verdict hs s n false e)
  same_verdict hs s n b (postfix m o e) = ap (λ v. asked postfix_rows (postfix_rule o) (fine v)) (same_verdict hs s n false e)
  same_verdict hs s n b (binary m o d e) =
      ap (λ v. asked binary_rows (binary_rule o) (two (fine v) (fine (verdict hs (record s { next = n }) false e)))) (same_verdict hs s n false d)
      ∙ ap (λ v. asked binary_rows (binary_rule o) (two (fine (verdict hs s false d)) (fine v))) (same_verdict hs s n false e)
  same_verdict hs s n b (assign m o d e) =
      ap (λ v. asked assign_rows (assign_rule o) (two (fine v) (fine (verdict hs (record s { next = n }) false e)))) (same_verdict hs s n false d)
      ∙ ap (λ v. asked assign_rows (assign_rule o) (two (fine (verdict hs s false d)) (fine v))) (same_verdict hs s n false e)

  pub same_all : (hs : List Head) (s : Sight) (n : ℕ) (ps : List Param) (es : PlainExprs) → all_fine hs (record s { next = n }) ps es ≡ all_fine hs s ps es
  same_all hs s n ps no_expr = refl
  same_all hs s n ps (more_exprs e es) =
      ap (λ v. one_more_typed (fine v) (all_fine hs (record s { next = n }) (others ps) es)) (same_verdict hs s n (takes_action ps) e)
      ∙ ap (one_more_typed (fine (verdict hs s (takes_action ps) e))) (same_all hs s n (others ps) es)

mutual
  pub same_faults : (hs : List Head) (s : Sight) (n : ℕ) (b : Bool) (e : PlainExpr) → faults hs (record s { next = n }) b e ≡ faults hs s b e
  same_faults hs s n b (int m v) = refl
  same_faults hs s n b (float m) = refl
  same_faults hs s n b (text m v) = refl
  same_faults hs s n b (object_self m) = refl
  same_faults hs s n b (object_invalid m) = refl
  same_faults hs s n b (name m x) = refl
  same_faults hs s n b (call m f es) =
      ap (λ fs. fs ++ at m (verdict hs (record s { next = n }) b (call m f es))) (same_all_faults hs s n (wanted hs s.table f) es)
      ∙ ap (λ v. all_faults hs s (wanted hs s.table f) es ++ at m v) (same_verdict hs s n b (call m f es))
  same_faults hs s n b (member m e x) =
      ap (λ fs. fs ++ at m (verdict hs (record s { next = n }) b (member m e x))) (same_faults hs s n false e)
      ∙ ap (λ v. faults hs s false e ++ at m v) (same_verdict hs s n b (member m e x))
  same_faults hs s n b (prefix m o e) =
      ap (λ fs. fs ++ at m (verdict hs (record s { next = n }) b (prefix m o e))) (same_faults hs s n false e)
      ∙ ap (λ v. faults hs s false e ++ at m v) (same_verdict hs s n b (prefix m o e))
  same_faults hs s n b (postfix m o e) =
      ap (λ fs. fs ++ at m (verdict hs (record s { next = n }) b (postfix m o e))) (same_faults hs s n false e)
      ∙ ap (λ v. faults hs s false e ++ at m v) (same_verdict hs s n b (postfix m o e))
  same_faults hs s n b (binary m o d e) =
      ap (λ fs. (fs ++ faults hs (record s { next = n }) false e) ++ at m (verdict hs (record s { next = n }) b (binary m o d e))) (same_faults hs s n false d)
      ∙ (ap (λ fs. (faults hs s false d ++ fs) ++ at m (verdict hs (record s { next = n }) b (binary m o d e))) (same_faults hs s n false e)
      ∙ ap (λ v. (faults hs s false d ++ faults hs s false e) ++ at m v) (same_verdict hs s n b (binary m o d e)))
  same_faults hs s n b (assign m o d e) =
      ap (λ fs. (fs ++ faults hs (record s { next = n }) false e) ++ at m (verdict hs (record s { next = n }) b (assign m o d e))) (same_faults hs s n false d)
      ∙ (ap (λ fs. (faults hs s false d ++ fs) ++ at m (verdict hs (record s { next = n }) b (assign m o d e))) (same_faults hs s n false e)
      ∙ ap (λ v. (faults hs s false d ++ faults hs s false e) ++ at m v) (same_verdict hs s n b (assign m o d e)))

  pub same_all_faults : (hs : List Head) (s : Sight) (n : ℕ) (ps : List Param) (es : PlainExprs) → all_faults hs (record s { next = n }) ps es ≡ all_faults hs s ps es
  same_all_faults hs s n ps no_expr = refl
  same_all_faults hs s n ps (more_exprs e es) =
      ap (λ fs. fs ++ all_faults hs (record s { next = n }) (others ps) es) (same_faults hs s n (takes_action ps) e)
      ∙ ap (λ fs. faults hs s (takes_action ps) e ++ fs) (same_all_faults hs s n (others ps) es)
