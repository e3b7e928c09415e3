use Rattle.std.proofs.Common.{◌≡◌, ◌++◌, ◌-◌, take, drop}
use Rattle.saved_state.proofs.pile.Pile.push_each.Given as goal

-- the copies so far
abbrev pub invariant-loop-place : goal.invariant-loop-place
invariant-loop-place l = l.self ≡ l.fn.self ++ take (l.place - l.first) (drop l.first l.fn.self)
