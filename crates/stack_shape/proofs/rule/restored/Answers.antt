use Rattle.std.proofs.Common.{rules, ◌∙◌, ap, length, sym}
use Rattle.stack_shape.proofs.RuleLemmas.{restored_both, restored_unsaved}
use Rattle.stack_shape.proofs.rule.restored.Goals as goal

pub returns-in_ok-after-in-Some : goal.returns-in_ok-after-in-Some
returns-in_ok-after-in-Some c =
    restored_both c.args.shape.now.cells c.in-Some-Base-default.cells.now c.in-Some-Base-default.field-0-0.now c.args.shape.now.saved c.in-Some.saved.now
    c.in-Some.under.now c.args.shape.now.pending c.in_ok-after-in-Some.after (sym c.as_slice.ensures.items ∙ c.in-Some-Base-default.ensures.cases.0)
    (search rules) (sym c.as_slice-in-Some-Base-default.ensures.items ∙ c.in-Some.ensures.cases.0)
    (c.in_ok-after-in-Some.ensures ∙ λ k. record {
      cells = c.in_ok-cells-in-Some.ensures.ok k;
      under = c.as_slice-in-Some.ensures.items k;
      saved = c.in-Some.saved.now;
      pending = c.args.shape.now.pending;
    })

pub returns-in-None-split_last : goal.returns-in-None-split_last
returns-in-None-split_last c =
    restored_unsaved c.args.shape.now.cells c.in-Some-Base-default.cells.now c.in-Some-Base-default.field-0-0.now c.args.shape.now.saved
    c.args.shape.now.pending (sym c.as_slice.ensures.items ∙ c.in-Some-Base-default.ensures.cases.0) (search rules)
    (ap length (sym c.as_slice-in-Some-Base-default.ensures.items) ∙ c.in-None-split_last.ensures.cases)
