use Rattle.world_rules.specs.Turns.{idle}
use Rattle.world_parts.proofs.BeginLemmas.{one_more}
use Rattle.world_parts.proofs.turns.idle_objects.Goals as goal

pub loop-done-preserved : goal.loop-done-preserved
loop-done-preserved g c =
    let more = one_more c.loop-done.done (idle {X = g.row.X.Denot}) in
    cc c.in_ok-push.ensures.items
