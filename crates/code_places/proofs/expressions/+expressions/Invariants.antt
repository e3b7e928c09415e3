use Rattle.std.proofs.Common.{◌≡◌, ◌≤◌, length, drop, take}
use Rattle.typing_rules.specs.Reading.{plain_all}
use Rattle.code_places.specs.Numbers as numbers
use Rattle.code_places.specs.Marks as marks
use Rattle.code_places.specs.Seeking.{sought}
use Rattle.code_places.proofs.expressions.+expressions.Given as goal

abbrev pub decreases-seek_arguments-loop-i : goal.decreases-seek_arguments-loop-i
decreases-seek_arguments-loop-i l = l.i

abbrev pub invariant-seek_arguments-loop-i : goal.invariant-seek_arguments-loop-i
invariant-seek_arguments-loop-i l =
    (l.i ≤ length l.arguments)
    × (l.seek ≡ sought (marks.marks_all l.layout l.of (numbers.behind_all l.node (plain_all (take l.i l.arguments))) (plain_all (drop l.i l.arguments))) l.initial.seek)
