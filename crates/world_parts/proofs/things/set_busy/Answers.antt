use Rattle.world_parts.proofs.ThingsLemmas.{queue_changed}
use Rattle.world_parts.proofs.things.set_busy.Goals as goal

pub returns : goal.returns
returns g c = record {
  mark = queue_changed c.args.o c.args.things.now.items c.index_mut-object.result.now c.set_busy.new.self
      (λ q. record q { busy = c.args.busy }) c.requires.first c.requires.within c.index_mut-object.ensures.value c.set_busy.ensures.mark;
}
