use Rattle.std.proofs.Common.{drop}
use Rattle.world_parts.proofs.ThingsLemmas.{queue_changed}
use Rattle.world_parts.proofs.things.take_head.Goals as goal

pub returns-clause-left : goal.returns-clause-left
returns-clause-left g c =
    queue_changed c.args.o c.args.things.now.items c.index_mut-object.result.now c.take_head.new.self
    (λ q. record q { actions = drop 1 q.actions }) c.requires.first c.requires.within c.index_mut-object.ensures.value c.take_head.ensures.left
