use Rattle.std.proofs.Common.{◌≡◌, ◌++◌, length}
use Rattle.std.specs.List.{flat_map}
use Rattle.world_rules.specs.EndText.{due_line}
use Rattle.ncs_machine.specs.Host.{scripts_of}
use Rattle.module_player.specs.CodePlays.{script_name}
use Rattle.module_player.proofs.closing.put_agenda.Given as goal

abbrev pub invariant-loop-entry : goal.invariant-loop-entry
invariant-loop-entry l =
    (l.out.items ++ flat_map (due_line (script_name (scripts_of l.scripts))) l.world.world.agenda.entries
    ≡ l.fn.out.items ++ flat_map (due_line (script_name (scripts_of l.scripts))) l.fn.world.world.agenda.entries)
    × (l.world.world.area ≡ l.fn.world.world.area)

abbrev pub decreases-loop-entry : goal.decreases-loop-entry
decreases-loop-entry l = length l.world.world.agenda.entries
