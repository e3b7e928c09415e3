use Rattle.std.proofs.Common.{◌≡◌, ap, subst}
use Rattle.nss_tree.specs.Places.{places_expr, places_exprs}
use Rattle.nss_tree.specs.Reading.{plain_expr, plain_exprs}
use Rattle.nss_tree.specs.Readings.{plain_call, plain_member, plain_postfix, plain_prefix}
use Rattle.nss_tree.specs.Seeking.{sought}
use Rattle.nss_tree.proofs.SeekLaws.{assign_sought, at_expr, binary_sought, each_step, one_sought}
use Rattle.nss_tree.proofs.places.+expressions.Goals as goal

pub seek_exprs-loop-expr-preserved : goal.seek_exprs-loop-expr-preserved
seek_exprs-loop-expr-preserved t c =
    each_step (λ x. places_expr (plain_expr x)) _ _ c.expr-item.result _ _ _ c.expr-item.is c.loop-expr-test.true c.seek_expr-seek.ensures c.loop-expr.invariant

pub seek_expr-returns-in-Binary : goal.seek_expr-returns-in-Binary
seek_expr-returns-in-Binary t c =
    binary_sought _ _ _ _ _ _ _ _ _ c.in-Binary.is c.pass-in-Binary.ensures
    (at_expr _ _ _ _ c.deref-in-Binary-2.ensures c.seek_expr-in-Binary.ensures)
    (at_expr _ _ _ _ c.deref-in-Binary.ensures c.seek_expr-in-Binary-2.ensures)

pub seek_expr-returns-in-Assign : goal.seek_expr-returns-in-Assign
seek_expr-returns-in-Assign t c =
    assign_sought _ _ _ _ _ _ _ _ _ c.in-Assign.is c.pass-in-Assign.ensures
    (at_expr _ _ _ _ c.deref-in-Assign-2.ensures c.seek_expr-in-Assign.ensures)
    (at_expr _ _ _ _ c.deref-in-Assign.ensures c.seek_expr-in-Assign-2.ensures)

pub seek_expr-returns-in-Call : goal.seek_expr-returns-in-Call
seek_expr-returns-in-Call t c =
    one_sought _ _ _ _ _ _ (ap places_expr (plain_call _ _ _ _ c.in-Call.is)) c.pass-in-Call.ensures
    (subst (λ xs. c.seek_exprs.result ≡ sought (places_exprs (plain_exprs xs)) c.pass-in-Call.result) c.as_slice.ensures.value c.seek_exprs.ensures)

pub seek_expr-returns-in-Member : goal.seek_expr-returns-in-Member
seek_expr-returns-in-Member t c =
    one_sought _ _ _ _ _ _ (ap places_expr (plain_member _ _ _ _ c.in-Member.is)) c.pass-in-Member.ensures
    (at_expr _ _ _ _ c.deref.ensures c.seek_expr.ensures)

pub seek_expr-returns-in-Prefix : goal.seek_expr-returns-in-Prefix
seek_expr-returns-in-Prefix t c =
    one_sought _ _ _ _ _ _ (ap places_expr (plain_prefix _ _ _ _ c.in-Prefix.is)) c.pass-in-Prefix.ensures
    (at_expr _ _ _ _ c.deref-in-Prefix.ensures c.seek_expr-in-Prefix.ensures)

pub seek_expr-returns-in-Postfix : goal.seek_expr-returns-in-Postfix
seek_expr-returns-in-Postfix t c =
    one_sought _ _ _ _ _ _ (ap places_expr (plain_postfix _ _ _ _ c.in-Postfix.is)) c.pass-in-Postfix.ensures
    (at_expr _ _ _ _ c.deref-in-Postfix.ensures c.seek_expr-in-Postfix.ensures)
