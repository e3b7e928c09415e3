use Rattle.std.proofs.Common.{◌<◌, ◌+◌, refl, subst}
use Rattle.module_player.proofs.EndLemmas.{all_effects_go}
use Rattle.module_player.proofs.closing.put_effects.Goals as goal

pub loop-i-preserved : goal.loop-i-preserved
loop-i-preserved c =
    all_effects_go c.args.world.now.world c.loop-i.i (c.loop-i.i + 1) (c.loop-i.i + 1) _ _ _ c.keeps.ensures.kept refl refl (subst (λ n. c.loop-i.i < n) c.count-i-end.ensures.count c.loop-i-test.true)
    c.loop-i.invariant c.in_ok-put_effects_of.ensures.lines
