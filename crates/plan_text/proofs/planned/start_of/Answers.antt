use Rattle.std.proofs.Common.{subst}
use Rattle.plan_text.specs.Plans.{IsStart, IsFreeStart}
use Rattle.plan_text.specs.Steps.{Found}
use Rattle.plan_text.proofs.PlannedLemmas.{either}
use Rattle.plan_text.proofs.planned.start_of.Goals as goal

pub returns-in-None : goal.returns-in-None
returns-in-None c =
    either (IsStart c.args.rest.now) (IsFreeStart c.args.rest.now)
    (subst (Found (IsFreeStart c.args.rest.now)) c.in-None.is (c.in_ok-line.ensures {u = tt})) c.aimed_start_of.result c.aimed_start_of.ensures
