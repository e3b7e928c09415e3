use Rattle.play_room.proofs.Beginning.{plan_worlds_are_kept}
use Rattle.play_room.proofs.laws.plan_worlds_are_kept.Goals as goal

pub returns : goal.returns
returns c = record { kept = plan_worlds_are_kept c.trees_are_sound.ensures.few }
