use Rattle.nwq_text.specs.Escape.{EscapesApart}
use Rattle.plan_text.proofs.OnePlan.{one_plan}
use Rattle.plan_text.proofs.laws.one_plan.Goals as goal

pub returns : goal.returns
returns c =
    let apart : EscapesApart = c.escapes_apart.ensures.apart in record { one = one_plan apart }
