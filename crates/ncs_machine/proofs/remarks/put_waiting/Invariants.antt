use Rattle.std.proofs.Common.{◌≡◌, ◌++◌, take}
use Rattle.std.specs.List.{flat_map}
use Rattle.ncs_machine.specs.Remarks.{waits_for}
use Rattle.ncs_machine.proofs.remarks.put_waiting.Given as goal

abbrev pub invariant-loop-i : goal.invariant-loop-i
invariant-loop-i l = l.returns.items ≡ take l.most (l.fn.returns.items ++ flat_map waits_for (take l.i l.machine.waiting))
