use Rattle.std.proofs.Common.{take}
use Rattle.nwq_text.specs.Cuts.{IsFree}
use Rattle.nwq_text.proofs.cuts.cut.Given as goal

abbrev pub invariant-loop-i : goal.invariant-loop-i
invariant-loop-i l = IsFree l.at (take l.i l.bytes)
