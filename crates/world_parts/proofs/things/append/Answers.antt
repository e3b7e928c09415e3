use Rattle.std.proofs.Common.{[], ◌∷◌, ◌++◌}
use Rattle.world_parts.proofs.ThingsLemmas.{queue_changed, on_ok}
use Rattle.world_parts.proofs.things.append.Goals as goal

pub returns-clause-ok : goal.returns-clause-ok
returns-clause-ok g c =
    on_ok c.append.result
    (λ made. queue_changed c.args.o c.args.things.now.items c.index_mut-object.result.now c.append.new.self
    (λ q. record q {
      actions = q.actions
          ++ c.args.item ∷ [];
    }) c.requires.first c.requires.within c.index_mut-object.ensures.value made)
    c.append.ensures.ok
