use Rattle.std.proofs.Common.{[]}
use Rattle.world_parts.proofs.ThingsLemmas.{queue_changed}
use Rattle.world_parts.proofs.things.clear.Goals as goal

pub returns : goal.returns
returns g c = record {
  empty = queue_changed c.args.o c.args.things.now.items c.index_mut-object.result.now c.clear.new.self
      (λ q. record q { actions = [] }) c.requires.first c.requires.within c.index_mut-object.ensures.value c.clear.ensures.empty;
}
