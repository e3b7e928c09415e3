use Rattle.std.proofs.Common.{◌≡◌, drop}
use Rattle.code_places.specs.Marks as marks
use Rattle.code_places.specs.Seeking.{sought}
use Rattle.code_places.proofs.lines.pass_started.Given as goal

abbrev pub invariant-loop-cell : goal.invariant-loop-cell
invariant-loop-cell l = sought (marks.started_marks l.node (drop l._cell-index l.cells)) l.seek
    ≡ sought (marks.started_marks l.node l.cells) l.initial.seek
