use Rattle.std.proofs.Common.{◌≡◌, false, replicate}
use Rattle.ncs_file.proofs.scan.empty_table.Given as goal

abbrev pub invariant-loop-place : goal.invariant-loop-place
invariant-loop-place l = l.table.items ≡ replicate l._place false
