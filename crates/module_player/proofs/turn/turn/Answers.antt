use Rattle.module_player.proofs.Cutting.{begun_as, turn_is_cut}
use Rattle.module_player.proofs.turn.turn.Goals as goal

pub returns-in-Ok-Some-clause-cut : goal.returns-in-Ok-Some-clause-cut
returns-in-Ok-Some-clause-cut g c =
    turn_is_cut _ c.args.limits.instructions _ c.in-Ok-Some.entry c.args.world.now.world c.begin.new.self.world c.take.new.world.world c.take.result
    (begun_as c.args.limits.until c.args.world.now.world c.begin.new.self.world c.in-Ok-Some.field-0 c.in-Ok-Some.entry c.in-Ok-Some.field-0-is c.in-Ok-Some.ensures.ok)
    c.take.ensures.cut
