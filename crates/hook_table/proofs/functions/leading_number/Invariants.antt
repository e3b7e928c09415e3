use Rattle.std.proofs.Common.{◌≡◌, length}
use Rattle.hook_table.proofs.NumberLemmas.{read_on}
use Rattle.hook_table.proofs.functions.leading_number.Given as goal

abbrev pub invariant-loop-byte : goal.invariant-loop-byte
invariant-loop-byte l = read_on l.number l.rest ≡ read_on 0 l.bytes

abbrev pub decreases-loop-byte : goal.decreases-loop-byte
decreases-loop-byte l = length l.rest
