use Rattle.std.proofs.Common.{length}
use Rattle.nwq_text.proofs.EscapeLemmas.{TextSoFar}
use Rattle.nwq_text.proofs.escape.unescaped.Given as goal

abbrev pub invariant-loop-byte : goal.invariant-loop-byte
invariant-loop-byte l = TextSoFar l.in_quotes l.text l.bytes.items l.rest

abbrev pub decreases-loop-byte : goal.decreases-loop-byte
decreases-loop-byte l = length l.rest
