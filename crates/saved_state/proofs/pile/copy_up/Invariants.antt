use Rattle.std.proofs.Common.{◌≡◌, ◌≤◌, ◌+◌, ◌++◌, ◌-◌, take, drop}
use Rattle.std.specs.Vec.{vec_len, vec_capacity}
use Rattle.saved_state.proofs.pile.copy_up.Given as goal

-- the copies so far, and room for the others
abbrev pub invariant-loop-index : goal.invariant-loop-index
invariant-loop-index l = record {
  copied : l.top.items ≡ l.fn.top.items ++ take (l.index - l.first) (drop l.first l.fn.top.items);
  room : vec_len l.top + (l.first + l.count - l.index) ≤ vec_capacity l.top;
}
