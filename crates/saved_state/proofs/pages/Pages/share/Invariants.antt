use Rattle.std.proofs.Common.{◌≡◌, take, drop}
use Rattle.saved_state.specs.Pages.{flat}
use Rattle.saved_state.proofs.pages.Pages.share.Given as goal

-- what the pieces so far give
abbrev pub invariant-loop-k : goal.invariant-loop-k
invariant-loop-k l = l.self ≡ drop l.from (take l.to (flat (take l.k l.pieces)))
