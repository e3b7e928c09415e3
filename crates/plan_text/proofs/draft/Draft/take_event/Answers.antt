use Rattle.std.proofs.Common.{subst}
use Rattle.plan_text.specs.Plans.{IsEvent}
use Rattle.plan_text.specs.Steps.{Found}
use Rattle.plan_text.proofs.draft.Draft.take_event.Goals as goal

pub returns-in-None : goal.returns-in-None
returns-in-None c a h = subst (Found (IsEvent c.args.rest.now)) c.in-None.is (c.in_ok-event_of.ensures {u = tt}) h.0 h.1
