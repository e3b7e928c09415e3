use Rattle.std.proofs.Common.{◌≡◌, ◌≤◌, length, drop}
use Rattle.code_places.specs.Marks as marks
use Rattle.code_places.specs.Seeking.{sought}
use Rattle.code_places.proofs.lines.pass_constants.Given as goal

abbrev pub decreases-loop-i : goal.decreases-loop-i
decreases-loop-i l = l.i

abbrev pub invariant-loop-i : goal.invariant-loop-i
invariant-loop-i l =
    (l.i ≤ length l.constants)
    × (l.seek ≡ sought (marks.constants_marks l.node (drop l.i l.constants)) l.initial.seek)
