use Rattle.std.proofs.Common.{sym, subst}
use Rattle.nwq_text.specs.Escape.{ReadsText}
use Rattle.plan_text.proofs.PlannedLemmas.{start_none, start_unnamed, start_unspelled, start_is}
use Rattle.plan_text.proofs.planned.aimed_start_of.Goals as goal

pub returns-in_default : goal.returns-in_default
returns-in_default c = start_none _ (sym (c.in_default.ensures {u = tt}))

pub returns-then-not-is_script_name : goal.returns-then-not-is_script_name
returns-then-not-is_script_name c = start_unnamed _ _ (sym (c.in-Some.ensures {u = tt})) (sym (c.if-not-is_script_name.ensures.test))

pub returns-in_default-2 : goal.returns-in_default-2
returns-in_default-2 c =
    start_unspelled _ _ (sym (c.in-Some.ensures {u = tt})) (subst (ReadsText c.in-Some.tag.now) c.in_default-2.is c.in_ok-tag.ensures.reads)

pub returns : goal.returns
returns c =
    start_is _ _ _ _ (sym (c.in-Some.ensures {u = tt})) (sym (c.if-not-is_script_name.ensures.test)) c.in_ok-name.ensures.ok
    (subst (ReadsText c.in-Some.tag.now) c.in-Some-2.is c.in_ok-tag.ensures.reads)
