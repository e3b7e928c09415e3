use Rattle.std.proofs.Common.{◌≡◌, take}
use Rattle.saved_state.proofs.piece.copies.Given as goal

-- the cells so far
abbrev pub invariant-loop-cell : goal.invariant-loop-cell
invariant-loop-cell l = l.all.items ≡ take l.cell-index l.cells
