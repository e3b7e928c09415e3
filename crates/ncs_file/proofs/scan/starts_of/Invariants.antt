use Rattle.std.proofs.Common.{◌-◌, length}
use Rattle.ncs_file.proofs.Scanning.{SoFar}
use Rattle.ncs_file.proofs.scan.starts_of.Given as goal

abbrev pub invariant-loop-at : goal.invariant-loop-at
invariant-loop-at l = SoFar l.bytes l.table.items l.at l.count

abbrev pub decreases-loop-at : goal.decreases-loop-at
decreases-loop-at l = length l.bytes - l.at
