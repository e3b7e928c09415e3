use Rattle.plan_text.proofs.Keeping.{plans_keep}
use Rattle.plan_text.proofs.laws.plans_keep.Goals as goal

pub returns : goal.returns
returns c = record { keep = plans_keep }
