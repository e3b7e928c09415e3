use Rattle.std.proofs.Common.{◌≡◌, drop}
use Rattle.code_places.specs.Numbers as numbers
use Rattle.code_places.proofs.numbers.behind_lines.Given as goal

abbrev pub invariant-loop-line : goal.invariant-loop-line
invariant-loop-line l = numbers.behind_lines l.node (drop l.line-index l.lines) ≡ numbers.behind_lines l.initial.node l.lines
