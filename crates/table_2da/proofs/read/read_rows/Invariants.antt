use Rattle.std.proofs.Common.{◌≡◌, ◌+◌, ℕ, List, [], length, Result}
use Rattle.table_2da.specs.Grammar.{Follow}
use Rattle.table_2da.specs.Ranges.{rows_at}
use Rattle.table_2da.proofs.read.read_rows.Given as goal

abbrev pub invariant-loop-line : goal.invariant-loop-line
invariant-loop-line l = record {
  goes : (end : Result (List (List (List ℕ))) ℕ) → Follow l.width (l.lines.read + 1) (rows_at l.fn.lines.text l.rows) l.lines.left end
      → Follow l.width 4 [] l.fn.lines.left end;
  text : l.lines.text ≡ l.fn.lines.text;
}

abbrev pub decreases-loop-line : goal.decreases-loop-line
decreases-loop-line l = length l.lines.left
