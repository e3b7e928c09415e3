use Rattle.std.proofs.Common.{◌∙◌, List, map, sym, ap, subst, arith}
use Rattle.std.specs.List.{fold}
use Rattle.world_rules.specs.Kept.{IsWorld}
use Rattle.world_rules.specs.Turns.{with_planned}
use Rattle.world_core.specs.declared.start.Start.{Start}
use Rattle.world_core.specs.Calls.{planned}
use Rattle.world_core.proofs.world.World.new.Goals as goal

pub invariant_of-result : goal.invariant_of-result
invariant_of-result g c =
    let posted =
    c.in-Ok-post_all.ensures.posted
    ∙ (ap (λ (starts : List Start). fold with_planned c.in-Ok.parts.world (map planned starts)) c.as_slice.ensures.items
    ∙ ap (λ w. fold with_planned w (map planned c.args.events.now)) c.in-Ok.ensures.world) in
    (subst IsWorld (sym posted) (c.calls_keep_worlds.ensures.new_world c.args.area c.args.random (map planned c.args.events.now) c.args.version c.requires.objects), omega arith, omega arith)
