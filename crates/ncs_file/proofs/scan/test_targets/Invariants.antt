use Rattle.std.proofs.Common.{◌-◌, length}
use Rattle.ncs_file.proofs.Scanning.{Passed}
use Rattle.ncs_file.proofs.scan.test_targets.Given as goal

abbrev pub invariant-loop-at : goal.invariant-loop-at
invariant-loop-at l = Passed l.bytes l.at

abbrev pub decreases-loop-at : goal.decreases-loop-at
decreases-loop-at l = length l.bytes - l.at
