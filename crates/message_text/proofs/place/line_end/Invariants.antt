use Rattle.std.proofs.Common.{◌≢◌, ℕ, ◌-◌, ◌≤◌, ◌<◌, List, length, get_or}
use Rattle.message_text.proofs.place.line_end.Given as goal

pub record Free (bytes : List ℕ) (at end : ℕ) : Type 0 where
  pub behind : at ≤ end
  pub within : end ≤ length bytes
  pub free : (k : ℕ) → at ≤ k → k < end → get_or bytes k 0 ≢ 10

abbrev pub invariant-loop-end : goal.invariant-loop-end
invariant-loop-end l = Free l.bytes l.fn.at l.end

abbrev pub decreases-loop-end : goal.decreases-loop-end
decreases-loop-end l = length l.bytes - l.end
