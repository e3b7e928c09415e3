use Rattle.std.proofs.Common.{sym}
use Rattle.plan_text.proofs.PlannedLemmas.{free_none, free_unnamed, free_is}
use Rattle.plan_text.proofs.planned.free_start_of.Goals as goal

pub returns-in_default : goal.returns-in_default
returns-in_default c = free_none _ (sym (c.in_default.ensures {u = tt}))

pub returns-then-not-is_script_name : goal.returns-then-not-is_script_name
returns-then-not-is_script_name c = free_unnamed _ _ (sym (c.in-Some.ensures {u = tt})) (sym (c.if-not-is_script_name.ensures.test))

pub returns : goal.returns
returns c = free_is _ _ _ (sym (c.in-Some.ensures {u = tt})) (sym (c.if-not-is_script_name.ensures.test)) c.in_ok-name.ensures.ok
