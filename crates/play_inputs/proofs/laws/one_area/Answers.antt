use Rattle.play_inputs.proofs.OneArea.{sure_areas, sure_finals}
use Rattle.play_inputs.proofs.OnePlan.{sure_plans}
use Rattle.play_inputs.proofs.laws.one_area.Goals as goal

pub returns-clause-areas : goal.returns-clause-areas
returns-clause-areas c = sure_areas c.one_file.ensures.trees

pub returns-clause-plans : goal.returns-clause-plans
returns-clause-plans c = sure_plans c.one_plan.ensures.one

pub returns-clause-finals : goal.returns-clause-finals
returns-clause-finals c = sure_finals
