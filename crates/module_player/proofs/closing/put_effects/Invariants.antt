use Rattle.std.proofs.Common.{◌≡◌, ◌++◌, drop, suc}
use Rattle.world_rules.specs.EndText.{by_object, standing_lines}
use Rattle.module_player.proofs.closing.put_effects.Given as goal

abbrev pub invariant-loop-i : goal.invariant-loop-i
invariant-loop-i l = l.out.items ++ by_object standing_lines (suc l.i) (drop l.i l.world.world.things) ≡ l.fn.out.items ++ by_object standing_lines 1 l.world.world.things
