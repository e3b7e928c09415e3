use Rattle.std.proofs.Common.{◌≡◌, ◌<◌, ℕ, reverse, slice_get}
use Rattle.stack_reasons.proofs.shapes.first_difference.Given as goal

abbrev pub invariant-loop-depth : goal.invariant-loop-depth
invariant-loop-depth l = (above : ℕ) → above < l.depth → slice_get (reverse l.a) above ≡ slice_get (reverse l.b) above
