use Rattle.std.proofs.Common.{◌≡◌, ◌++◌, length}
use Rattle.module_player.specs.EndTexts.{effects_text}
use Rattle.world_rules.specs.World.{effects_of}
use Rattle.module_player.proofs.closing.put_effects_of.Given as goal

abbrev pub invariant-loop-stood : goal.invariant-loop-stood
invariant-loop-stood l = l.out.items ++ effects_text l.object l.effects ≡ l.fn.out.items ++ effects_text l.object (effects_of l.object l.world.world)

abbrev pub decreases-loop-stood : goal.decreases-loop-stood
decreases-loop-stood l = length l.effects
