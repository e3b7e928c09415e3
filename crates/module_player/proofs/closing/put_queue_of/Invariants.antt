use Rattle.std.proofs.Common.{◌≡◌, ◌≤◌, ◌+◌, ◌++◌, drop, length}
use Rattle.world_rules.specs.World.{queue_of}
use Rattle.ncs_machine.specs.Host.{scripts_of}
use Rattle.module_player.specs.CodePlays.{script_name}
use Rattle.module_player.specs.EndTexts.{actions_text}
use Rattle.module_player.proofs.closing.put_queue_of.Given as goal

abbrev pub invariant-loop-i : goal.invariant-loop-i
invariant-loop-i l = record {
  text : l.out.items ++ actions_text (script_name (scripts_of l.scripts)) l.object (drop l.i (queue_of l.object l.world.world).actions)
      ≡ l.fn.out.items ++ actions_text (script_name (scripts_of l.scripts)) l.object (queue_of l.object l.world.world).actions;
  long : l.i + l.i ≤ length l.out.items;
}
