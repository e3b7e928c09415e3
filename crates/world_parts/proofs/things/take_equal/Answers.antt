use Rattle.std.proofs.Common.{◌∙◌, ap, sym}
use Rattle.std.specs.List.{find}
use Rattle.world_rules.specs.World.{effects_in}
use Rattle.world_rules.specs.Changes.{is_effect, without_first}
use Rattle.world_parts.proofs.ThingsLemmas.{effects_changed, things_of}
use Rattle.world_parts.proofs.things.take_equal.Goals as goal

pub returns-clause-left : goal.returns-clause-left
returns-clause-left g c =
    effects_changed c.args.o c.args.things.now.items c.index_mut-object.result.now c.take_equal.new.self
    (without_first (is_effect c.args.effect.now)) c.requires.first c.requires.within c.index_mut-object.ensures.value c.take_equal.ensures.left

pub returns-clause-taken : goal.returns-clause-taken
returns-clause-taken g c =
    c.take_equal.ensures.taken
    ∙ sym (ap (λ t. find (is_effect c.args.effect.now) (effects_in t))
    (things_of c.args.o c.args.things.now.items c.index_mut-object.result.now c.requires.first c.requires.within c.index_mut-object.ensures.value))
