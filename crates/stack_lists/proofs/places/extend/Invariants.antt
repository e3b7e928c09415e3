use Rattle.std.proofs.Common.{◌+◌, ◌-◌, length}
use Rattle.stack_lists.specs.Rows.{SameNumbers}
use Rattle.stack_lists.proofs.places.extend.Given as goal

abbrev pub invariant-loop-numbers : goal.invariant-loop-numbers
invariant-loop-numbers l = SameNumbers l.initial.numbers l.numbers

abbrev pub decreases-loop-numbers : goal.decreases-loop-numbers
decreases-loop-numbers l = l.place + 1 - length l.numbers
