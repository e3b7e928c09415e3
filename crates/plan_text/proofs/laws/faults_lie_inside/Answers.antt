use Rattle.plan_text.proofs.Keeping.{faults_lie_inside}
use Rattle.plan_text.proofs.laws.faults_lie_inside.Goals as goal

pub returns : goal.returns
returns c = record { inside = faults_lie_inside }
