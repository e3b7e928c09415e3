use Rattle.std.proofs.Common.{subst, ◌⊎◌}
use Rattle.plan_text.specs.Plans.{IsStart, IsFreeStart}
use Rattle.plan_text.specs.Steps.{Found}
use Rattle.plan_text.proofs.draft.Draft.take_start.Goals as goal

pub returns-in-None : goal.returns-in-None
returns-in-None c a h =
    subst (Found (λ line. IsStart c.args.rest.now line ⊎ IsFreeStart c.args.rest.now line)) c.in-None.is (c.in_ok-start_of.ensures {u = tt}) h.0 h.1
