use Rattle.std.proofs.Common.{◌≡◌, ◌≤◌, length, drop, None}
use Rattle.message_sentences.specs.Told.{last_cut_at}
use Rattle.message_sentences.proofs.told.last_cut.Given as goal

abbrev pub invariant-loop-at : goal.invariant-loop-at
invariant-loop-at l = (l.at ≤ length l.text) × (last_cut_at 32 (drop l.at l.text) ≡ None)

abbrev pub decreases-loop-at : goal.decreases-loop-at
decreases-loop-at l = l.at
