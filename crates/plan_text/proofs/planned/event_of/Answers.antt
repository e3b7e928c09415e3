use Rattle.std.proofs.Common.{sym, subst}
use Rattle.nwq_text.specs.Escape.{ReadsText}
use Rattle.plan_text.proofs.PlannedLemmas.{event_none, event_unlabelled, event_unspelled, event_is}
use Rattle.plan_text.proofs.planned.event_of.Goals as goal

pub returns-in_default : goal.returns-in_default
returns-in_default c = event_none _ (sym (c.in_default.ensures {u = tt}))

pub returns-then-not-is_label : goal.returns-then-not-is_label
returns-then-not-is_label c = event_unlabelled _ _ (sym (c.in-Some.ensures {u = tt})) (sym (c.if-not-is_label.ensures {u = tt}))

pub returns-in_default-2 : goal.returns-in_default-2
returns-in_default-2 c =
    event_unspelled _ _ (sym (c.in-Some.ensures {u = tt})) (subst (ReadsText c.in-Some.tag.now) c.in_default-2.is c.in_ok-tag.ensures.reads)

pub returns : goal.returns
returns c =
    event_is _ _ _ _ (sym (c.in-Some.ensures {u = tt})) (sym (c.if-not-is_label.ensures {u = tt})) c.in_ok-label.ensures.ok
    (subst (ReadsText c.in-Some.tag.now) c.in-Some-2.is c.in_ok-tag.ensures.reads)
