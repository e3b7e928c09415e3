use Rattle.command_generate.proofs.PlanLemmas.{plan_is}
use Rattle.command_generate.proofs.made.made_plan.Goals as goal

pub returns-in-Ok-clause-plan : goal.returns-in-Ok-clause-plan
returns-in-Ok-clause-plan c =
    plan_is c.plan_is_read.ensures.read c.one_plan.ensures.one c.args.number c.args.text.now c.requires.number c.requires.text c.in-Ok.plan c.in-Ok.ensures.plan

pub returns-in-Ok-clause-keeps : goal.returns-in-Ok-clause-keeps
returns-in-Ok-clause-keeps c = c.plans_keep.ensures.keep c.args.text.now c.in-Ok.plan c.in-Ok.ensures.plan
