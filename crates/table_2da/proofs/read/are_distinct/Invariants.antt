use Rattle.std.proofs.Common.{◌≡◌, length}
use Rattle.table_2da.specs.Grammar.{are_distinct}
use Rattle.table_2da.specs.Ranges.{cells_at}
use Rattle.table_2da.proofs.read.are_distinct.Given as goal

abbrev pub invariant-loop-name : goal.invariant-loop-name
invariant-loop-name l = are_distinct (cells_at l.file l.rest) ≡ are_distinct (cells_at l.file l.names)

abbrev pub decreases-loop-name : goal.decreases-loop-name
decreases-loop-name l = length l.rest
