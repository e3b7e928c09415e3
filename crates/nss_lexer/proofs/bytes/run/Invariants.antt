use Rattle.std.proofs.Common.{◌≡◌, ◌+◌, ◌-◌, ◌≤◌, length, drop}
use Rattle.nss_lexer.specs.Reading.{class_run}
use Rattle.nss_lexer.proofs.bytes.run.Given as goal

abbrev pub invariant-loop-n : goal.invariant-loop-n
invariant-loop-n l = (l.n + class_run l.class (drop l.n l.bytes) ≡ class_run l.class l.bytes) × (l.n ≤ length l.bytes)

abbrev pub decreases-loop-n : goal.decreases-loop-n
decreases-loop-n l = length l.bytes - l.n
