use Rattle.std.proofs.Common.{length, ◌-◌}
use Rattle.engine_table.proofs.TokenLemmas.{IsPassed}
use Rattle.engine_table.proofs.reader.first_bad.Given as goal

abbrev pub invariant-loop-place : goal.invariant-loop-place
invariant-loop-place l = IsPassed l.bytes l.from l.at

abbrev pub decreases-loop-place : goal.decreases-loop-place
decreases-loop-place l = length l.bytes - l.at
