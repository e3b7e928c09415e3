use Rattle.std.proofs.Common.{◌≡◌, ◌∙◌, true, false, ap, refl, arith, rules}
use Rattle.typing_rules.specs.UnitReading.{typed_stmt}
use Rattle.nss_tree.specs.Readings.{tree_break_off, tree_case_label, tree_continue_on, tree_declaration, tree_default_label, tree_do_loop, tree_empty, tree_expression, tree_for_loop}
use Rattle.nss_tree.specs.Readings.{tree_if_else, tree_return_from, tree_switch, tree_while_loop}
use Rattle.typing_rules.specs.Returns.{has_break, have_break}
use Rattle.nss_statements.proofs.ReturnLemmas.{any_end, any_here, any_next, or_else, or_then}
use Rattle.nss_statements.proofs.returns.+breaks.Goals as goal

pub has_break-returns-in-Break : goal.has_break-returns-in-Break
has_break-returns-in-Break b c = rw (tree_break_off _ _ c.in-Break.is) refl

pub has_break-returns-in-Empty : goal.has_break-returns-in-Empty
has_break-returns-in-Empty b c = rw (tree_empty _ _ c.in-Empty.is) refl

pub has_break-returns-in-Expression : goal.has_break-returns-in-Expression
has_break-returns-in-Expression b c = rw (tree_expression _ _ _ c.in-Expression.is) refl

pub has_break-returns-in-Continue : goal.has_break-returns-in-Continue
has_break-returns-in-Continue b c = rw (tree_continue_on _ _ c.in-Continue.is) refl

pub has_break-returns-in-Return : goal.has_break-returns-in-Return
has_break-returns-in-Return b c = rw (tree_return_from _ _ _ c.in-Return.is) refl

pub has_break-returns-in-Declaration : goal.has_break-returns-in-Declaration
has_break-returns-in-Declaration b c = rw (tree_declaration _ _ _ _ c.in-Declaration.is) refl

pub has_break-returns-in-Case : goal.has_break-returns-in-Case
has_break-returns-in-Case b c = rw (tree_case_label _ _ _ c.in-Case.is) refl

pub has_break-returns-in-Default : goal.has_break-returns-in-Default
has_break-returns-in-Default b c = rw (tree_default_label _ _ c.in-Default.is) refl

pub has_break-returns-in-While : goal.has_break-returns-in-While
has_break-returns-in-While b c = rw (tree_while_loop _ _ _ _ c.in-While.is) refl

pub has_break-returns-in-Do : goal.has_break-returns-in-Do
has_break-returns-in-Do b c = rw (tree_do_loop _ _ _ _ c.in-Do.is) refl

pub has_break-returns-in-For : goal.has_break-returns-in-For
has_break-returns-in-For b c = rw (tree_for_loop _ _ _ _ _ _ c.in-For.is) refl

pub has_break-returns-in-Switch : goal.has_break-returns-in-Switch
has_break-returns-in-Switch b c = rw (tree_switch _ _ _ _ c.in-Switch.is) refl

pub has_break-returns-then-has_break : goal.has_break-returns-then-has_break
has_break-returns-then-has_break b c =
    let is : c.has_break-in-IfElse.result ≡ true = search rules in
    rw (tree_if_else _ _ _ _ _ c.in-IfElse.is) (or_then _ _ c.has_break-in-IfElse.result (c.has_break-in-IfElse.ensures ∙ ap (λ y. has_break (typed_stmt y)) c.deref-in-IfElse.ensures) is)

pub has_break-returns-else-has_break : goal.has_break-returns-else-has_break
has_break-returns-else-has_break b c =
    let is : c.has_break-in-IfElse.result ≡ false = search rules in
    rw (tree_if_else _ _ _ _ _ c.in-IfElse.is)
    (or_else _ _ c.has_break-in-IfElse.result c.has_break-else-has_break.result (c.has_break-in-IfElse.ensures ∙ ap (λ y. has_break (typed_stmt y)) c.deref-in-IfElse.ensures) is
    (c.has_break-else-has_break.ensures ∙ ap (λ y. has_break (typed_stmt y)) c.deref-else-has_break.ensures))

pub have_break-returns-then-has_break : goal.have_break-returns-then-has_break
have_break-returns-then-has_break b c =
    let is : c.has_break.result ≡ true = search rules in
    any_here have_break has_break (λ x xs. refl) c.args.xs.now c.loop-x.x-index c.x-item.result c.has_break.result _ c.loop-x-test.true c.x-item.is c.has_break.ensures is c.loop-x.invariant

pub have_break-loop-x-preserved : goal.have_break-loop-x-preserved
have_break-loop-x-preserved b c =
    let is : c.has_break.result ≡ false = search rules in
    any_next have_break has_break (λ x xs. refl) c.args.xs.now c.loop-x.x-index c.x-item.result c.has_break.result _ c.loop-x-test.true c.x-item.is c.has_break.ensures is c.loop-x.invariant

pub have_break-returns : goal.have_break-returns
have_break-returns b c = any_end have_break has_break (λ x xs. refl) c.args.xs.now c.loop-x.x-index _ refl (omega (arith, c.loop-x-test.false)) c.loop-x.invariant
