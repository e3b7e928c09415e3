use Rattle.std.proofs.Common.{◌≡◌, ◌++◌, take}
use Rattle.saved_state.proofs.pile.put_copies.Given as goal

-- the cells so far
abbrev pub invariant-loop-cell : goal.invariant-loop-cell
invariant-loop-cell l = l.low ≡ l.fn.low ++ take l.cell-index l.top
