use Rattle.std.proofs.Common.{[], ◌∷◌, ◌++◌}
use Rattle.world_parts.proofs.ThingsLemmas.{effects_changed, on_ok}
use Rattle.world_parts.proofs.things.add_effect.Goals as goal

pub returns-clause-ok : goal.returns-clause-ok
returns-clause-ok g c =
    on_ok c.push.result
    (λ made. effects_changed c.args.o c.args.things.now.items c.index_mut-object.result.now c.push.new.self
    (λ es. es ++ c.args.stood ∷ []) c.requires.first c.requires.within c.index_mut-object.ensures.value made)
    c.push.ensures.ok
