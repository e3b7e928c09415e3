use Rattle.play_worlds.proofs.FreshLemmas.{plan_worlds_are_fresh}
use Rattle.play_worlds.proofs.laws.plan_worlds_are_fresh.Goals as goal

pub returns : goal.returns
returns c = record { fresh = plan_worlds_are_fresh c.plays_settle.ensures.new_world c.plays_settle.ensures.planned }
