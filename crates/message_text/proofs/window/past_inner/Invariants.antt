use Rattle.std.proofs.Common.{ℕ, ◌+◌, ◌≤◌, ◌<◌, not, IsTrue, List, get_or}
use Rattle.message_text.specs.Place.{is_inner}
use Rattle.message_text.proofs.window.past_inner.Given as goal

-- so far all bytes begin no character, and where fewer were passed than steps made, the walk has
-- stopped
pub record Walked (bytes : List ℕ) (from limit step at : ℕ) : Type 0 where
  pub behind : from ≤ at
  pub within : at ≤ limit
  pub near : at ≤ from + step
  pub inner : (k : ℕ) → from ≤ k → k < at → IsTrue (is_inner (get_or bytes k 0))
  pub stops : at < limit → at < from + step → IsTrue (not (is_inner (get_or bytes at 0)))

abbrev pub invariant-loop-step : goal.invariant-loop-step
invariant-loop-step l = Walked l.bytes l.from l.end l._step l.at
