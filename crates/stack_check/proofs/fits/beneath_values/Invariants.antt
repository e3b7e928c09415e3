use Rattle.std.proofs.Common.{◌≤◌, length, reverse, take}
use Rattle.stack_lists.specs.Shared.{read}
use Rattle.stack_check.proofs.Fitting.{FitsSoFar}
use Rattle.stack_check.proofs.fits.beneath_values.Given as goal

abbrev pub invariant-loop-left : goal.invariant-loop-left
invariant-loop-left l =
    FitsSoFar (reverse l.cells) (reverse (take l.left l.cells)) (read l.lists l.number) (read l.lists l.at) × (l.left ≤ length l.cells)

abbrev pub decreases-loop-left : goal.decreases-loop-left
decreases-loop-left l = l.left
