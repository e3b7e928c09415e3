use Rattle.std.proofs.Common.{◌≡◌, ℕ, length, slice_get, Some}
use Rattle.decoded_code.specs.declared.step.Step.{Step}
use Rattle.decoded_code.proofs.steps.fill.Given as goal

-- those from before stand where they did
abbrev pub invariant-loop-index : goal.invariant-loop-index
invariant-loop-index l = record {
  count : length l.steps.items ≡ l._index;
  others : (i : ℕ) (other : Step) → slice_get l.fn.steps.items i ≡ Some other → slice_get l.steps.items i ≡ Some other;
}
