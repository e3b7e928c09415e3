use Rattle.std.proofs.Common.{◌≡◌, ◌≤◌, Some, slice_get}
use Rattle.hook_table.specs.InHooks.{known_by}
use Rattle.ncs_machine.specs.Host.{engine_view, scripts_of, tables_of}
use Rattle.ncs_machine.specs.Steps.{state}
use Rattle.ncs_machine.proofs.Running.{SoFar}
use Rattle.ncs_machine.proofs.entry.run_machine.Given as goal

abbrev pub invariant-loop-done : goal.invariant-loop-done
invariant-loop-done g l = record {
  running : SoFar (scripts_of l.scripts) (engine_view l.table (known_by l.hooks))
      (tables_of l.scripts) l.limit (state l.fn.machine l.fn.world.world) l.done (state l.machine l.world.world);
  script : slice_get l.scripts l.machine.running.script ≡ Some l.script;
  own : l.own ≡ l.machine.running.self;
  room : l.fn.world.room ≤ l.world.room;
}
