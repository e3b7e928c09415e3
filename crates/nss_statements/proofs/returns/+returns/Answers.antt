use Rattle.std.proofs.Common.{◌≡◌, ◌∙◌, true, false, ap, refl, arith, rules, if◌then◌else◌}
use Rattle.typing_rules.specs.UnitReading.{typed_stmt, typed_stmts}
use Rattle.nss_tree.specs.Readings.{tree_break_off, tree_case_label, tree_continue_on, tree_declaration, tree_default_label, tree_empty, tree_expression, tree_for_loop, tree_if_else}
use Rattle.nss_tree.specs.Readings.{tree_if_only, tree_return_from, tree_while_loop}
use Rattle.typing_rules.specs.Returns.{is_statement, returns, some_returns}
use Rattle.nss_statements.proofs.ReturnLemmas.{and_else, and_then, any_end, any_here, any_next, last_begin, last_end, last_next}
use Rattle.nss_statements.proofs.returns.+returns.Goals as goal

pub returns-returns-in-Return : goal.returns-returns-in-Return
returns-returns-in-Return b c = rw (tree_return_from _ _ _ c.in-Return.is) refl

pub returns-returns-in-Empty : goal.returns-returns-in-Empty
returns-returns-in-Empty b c = rw (tree_empty _ _ c.in-Empty.is) refl

pub returns-returns-in-Expression : goal.returns-returns-in-Expression
returns-returns-in-Expression b c = rw (tree_expression _ _ _ c.in-Expression.is) refl

pub returns-returns-in-Break : goal.returns-returns-in-Break
returns-returns-in-Break b c = rw (tree_break_off _ _ c.in-Break.is) refl

pub returns-returns-in-Continue : goal.returns-returns-in-Continue
returns-returns-in-Continue b c = rw (tree_continue_on _ _ c.in-Continue.is) refl

pub returns-returns-in-Declaration : goal.returns-returns-in-Declaration
returns-returns-in-Declaration b c = rw (tree_declaration _ _ _ _ c.in-Declaration.is) refl

pub returns-returns-in-Case : goal.returns-returns-in-Case
returns-returns-in-Case b c = rw (tree_case_label _ _ _ c.in-Case.is) refl

pub returns-returns-in-Default : goal.returns-returns-in-Default
returns-returns-in-Default b c = rw (tree_default_label _ _ c.in-Default.is) refl

pub returns-returns-in-If : goal.returns-returns-in-If
returns-returns-in-If b c = rw (tree_if_only _ _ _ _ c.in-If.is) refl

pub returns-returns-in-While : goal.returns-returns-in-While
returns-returns-in-While b c = rw (tree_while_loop _ _ _ _ c.in-While.is) refl

pub returns-returns-in-For : goal.returns-returns-in-For
returns-returns-in-For b c = rw (tree_for_loop _ _ _ _ _ _ c.in-For.is) refl

pub returns-returns-then-returns : goal.returns-returns-then-returns
returns-returns-then-returns b c =
    let is : c.returns.result ≡ true = search rules in
    rw (tree_if_else _ _ _ _ _ c.in-IfElse.is)
    (and_then _ _ c.returns.result c.returns-then-returns.result (c.returns.ensures ∙ ap (λ y. returns (typed_stmt y)) c.deref-in-IfElse.ensures) is
    (c.returns-then-returns.ensures ∙ ap (λ y. returns (typed_stmt y)) c.deref-then-returns.ensures))

pub returns-returns-else-returns : goal.returns-returns-else-returns
returns-returns-else-returns b c =
    let is : c.returns.result ≡ false = search rules in
    rw (tree_if_else _ _ _ _ _ c.in-IfElse.is) (and_else _ _ c.returns.result (c.returns.ensures ∙ ap (λ y. returns (typed_stmt y)) c.deref-in-IfElse.ensures) is)

pub some_returns-returns-then-returns : goal.some_returns-returns-then-returns
some_returns-returns-then-returns b c =
    let is : c.returns.result ≡ true = search rules in
    record {
      test = any_here some_returns returns
          (λ x xs. refl) c.args.xs.now c.loop-x.x-index c.x-item.result c.returns.result _ c.loop-x-test.true c.x-item.is c.returns.ensures is c.loop-x.invariant;
    }

pub some_returns-loop-x-preserved : goal.some_returns-loop-x-preserved
some_returns-loop-x-preserved b c =
    let is : c.returns.result ≡ false = search rules in
    any_next some_returns returns (λ x xs. refl) c.args.xs.now c.loop-x.x-index c.x-item.result c.returns.result _ c.loop-x-test.true c.x-item.is c.returns.ensures is c.loop-x.invariant

pub some_returns-returns : goal.some_returns-returns
some_returns-returns b c = record { test = any_end some_returns returns (λ x xs. refl) c.args.xs.now c.loop-x.x-index _ refl (omega (arith, c.loop-x-test.false)) c.loop-x.invariant }

pub last_returns-loop-x-init : goal.last_returns-loop-x-init
last_returns-loop-x-init b c = last_begin (typed_stmts c.args.xs.now)

pub last_returns-loop-x-preserved : goal.last_returns-loop-x-preserved
last_returns-loop-x-preserved b c =
    last_next c.args.xs.now c.loop-x.x-index c.x-item.result c.loop-x.last c.next_last-last.result _ c.loop-x-test.true c.x-item.is
    (c.next_last-last.ensures ∙ ap (λ r. if is_statement (typed_stmt c.x-item.result) then r else c.loop-x.last) c.returns.ensures) c.loop-x.invariant

pub last_returns-returns : goal.last_returns-returns
last_returns-returns b c = last_end c.args.xs.now c.loop-x.x-index c.loop-x.last _ (omega (arith, c.loop-x-test.false)) c.loop-x.invariant
