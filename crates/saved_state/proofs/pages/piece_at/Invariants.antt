use Rattle.std.proofs.Common.{◌-◌}
use Rattle.saved_state.proofs.Rows.{IsBetween}
use Rattle.saved_state.proofs.pages.piece_at.Given as goal

-- the cell is over what lies beneath piece `low`, and beneath piece `high`
abbrev pub invariant-loop-high : goal.invariant-loop-high
invariant-loop-high l = IsBetween l.place l.low l.high l.pieces

abbrev pub decreases-loop-high : goal.decreases-loop-high
decreases-loop-high l = l.high - l.low
