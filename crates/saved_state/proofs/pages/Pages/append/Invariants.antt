use Rattle.std.proofs.Common.{◌≡◌, ◌++◌, take}
use Rattle.saved_state.specs.Pages.{flat}
use Rattle.saved_state.proofs.pages.Pages.append.Given as goal

-- the pieces so far are there
abbrev pub invariant-loop-piece : goal.invariant-loop-piece
invariant-loop-piece l = l.self ≡ l.fn.self ++ flat (take l.piece-index l.pieces)
