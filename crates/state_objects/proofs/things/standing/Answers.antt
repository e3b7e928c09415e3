use Rattle.std.proofs.Common.{ap}
use Rattle.state_parts.specs.World.{stood_of}
use Rattle.state_parts.specs.KeepingLemmas.{map_more}
use Rattle.state_objects.proofs.things.standing.Goals as goal

pub loop-part-preserved : goal.loop-part-preserved
loop-part-preserved c =
    map_more stood_of c.args.parts.now c.loop-part.part-index c.part-item.result _ c.loop-part.all c.push.new.self c.loop-part.invariant c.in_ok-push.ensures.ok
    (ap (λ e. record { number = c.part-item.result.number; effect = e }) c.in_ok-effect.ensures.tells) c.loop-part-test.true c.part-item.is
