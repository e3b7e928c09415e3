use Rattle.std.proofs.Common.{length}
use Rattle.command_tables.proofs.ListLemmas.{ReadSoFar}
use Rattle.command_tables.proofs.list.names_of_text.Given as goal

abbrev pub invariant-loop-line : goal.invariant-loop-line
invariant-loop-line l = ReadSoFar l.fn.bytes l.lines.read l.lines.left l.names

abbrev pub decreases-loop-line : goal.decreases-loop-line
decreases-loop-line l = length l.lines.left
