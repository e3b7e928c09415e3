use Rattle.std.proofs.Common.{◌≡◌, ◌<◌, ℕ, false, drop}
use Rattle.message_text.specs.Shown.{begins_hidden}
use Rattle.message_text.proofs.readable.hides_none.Given as goal

abbrev pub invariant-loop-i : goal.invariant-loop-i
invariant-loop-i l = (k : ℕ) → k < l.i → begins_hidden (drop k l.bytes) ≡ false
