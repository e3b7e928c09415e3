use Rattle.std.proofs.Common.{◌≡◌, ◌≤◌, ◌+◌, take, length}
use Rattle.saved_state.proofs.pile.keep_first.Given as goal

-- the first cells are left, and so many behind them
abbrev pub invariant-loop-left : goal.invariant-loop-left
invariant-loop-left l = record {
  kept : l.top.items ≡ take (l.n + l.left) l.fn.top.items;
  inside : l.n + l.left ≤ length l.fn.top.items;
}

abbrev pub decreases-loop-left : goal.decreases-loop-left
decreases-loop-left l = l.left
