use Rattle.std.proofs.Common.{◌≡◌, ◌++◌, drop, suc}
use Rattle.world_rules.specs.EndText.{by_object, queue_lines}
use Rattle.ncs_machine.specs.Host.{scripts_of}
use Rattle.module_player.specs.CodePlays.{script_name}
use Rattle.module_player.proofs.closing.put_queues.Given as goal

abbrev pub invariant-loop-i : goal.invariant-loop-i
invariant-loop-i l =
    l.out.items ++ by_object (queue_lines (script_name (scripts_of l.scripts))) (suc l.i) (drop l.i l.world.world.things)
    ≡ l.fn.out.items ++ by_object (queue_lines (script_name (scripts_of l.scripts))) 1 l.world.world.things
