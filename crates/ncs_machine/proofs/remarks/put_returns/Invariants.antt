use Rattle.std.proofs.Common.{◌≡◌, ◌++◌, take}
use Rattle.ncs_machine.specs.Remarks.{returns_of}
use Rattle.ncs_machine.proofs.remarks.put_returns.Given as goal

abbrev pub invariant-loop-i : goal.invariant-loop-i
invariant-loop-i l = l.returns.items ≡ take l.most (l.fn.returns.items ++ take l.i (returns_of l.frame))
