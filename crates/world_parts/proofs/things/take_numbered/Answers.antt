use Rattle.std.proofs.Common.{◌∙◌, ap, sym}
use Rattle.std.specs.List.{find}
use Rattle.world_rules.specs.World.{effects_in}
use Rattle.world_rules.specs.Changes.{is_numbered, without_first}
use Rattle.world_parts.proofs.ThingsLemmas.{effects_changed, things_of}
use Rattle.world_parts.proofs.things.take_numbered.Goals as goal

pub returns-clause-left : goal.returns-clause-left
returns-clause-left g c =
    effects_changed c.args.o c.args.things.now.items c.index_mut-object.result.now c.take_numbered.new.self
    (without_first (is_numbered c.args.number)) c.requires.first c.requires.within c.index_mut-object.ensures.value c.take_numbered.ensures.left

pub returns-clause-taken : goal.returns-clause-taken
returns-clause-taken g c =
    c.take_numbered.ensures.taken
    ∙ sym (ap (λ t. find (is_numbered c.args.number) (effects_in t))
    (things_of c.args.o c.args.things.now.items c.index_mut-object.result.now c.requires.first c.requires.within c.index_mut-object.ensures.value))
