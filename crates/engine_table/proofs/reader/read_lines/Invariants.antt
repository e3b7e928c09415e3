use Rattle.std.proofs.Common.{length, ◌-◌}
use Rattle.engine_table.proofs.TokenLemmas.{IsRead}
use Rattle.engine_table.proofs.reader.read_lines.Given as goal

abbrev pub invariant-loop-known : goal.invariant-loop-known
invariant-loop-known l = IsRead l.bytes l.at (record { known = l.known; stage = l.stage })

abbrev pub decreases-loop-known : goal.decreases-loop-known
decreases-loop-known l = length l.bytes - l.at
