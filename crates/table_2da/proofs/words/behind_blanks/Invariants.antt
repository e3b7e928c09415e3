use Rattle.std.proofs.Common.{◌≡◌, length}
use Rattle.table_2da.specs.Steps.{behind_blanks}
use Rattle.table_2da.proofs.words.behind_blanks.Given as goal

abbrev pub invariant-loop-first : goal.invariant-loop-first
invariant-loop-first l = behind_blanks l.rest ≡ behind_blanks l.line

abbrev pub decreases-loop-first : goal.decreases-loop-first
decreases-loop-first l = length l.rest
