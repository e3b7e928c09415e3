use Rattle.play_generator.proofs.PlanLemmas.{plan_grown}
use Rattle.play_generator.proofs.plan.put_plan.Goals as goal

pub returns : goal.returns
returns c =
    record { plan = plan_grown c.args.rounds c.args.creatures c.args.out.now.items _ _ _ c.in_ok-extend_from_slice.ensures.items c.put_rounds.ensures.rounds }
