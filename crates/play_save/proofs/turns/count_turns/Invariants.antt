use Rattle.std.proofs.Common.{◌≡◌, length, take}
use Rattle.play_save.specs.Breaking.{CountsTurns}
use Rattle.play_save.proofs.turns.count_turns.Given as goal

abbrev pub invariant-loop-entry : goal.invariant-loop-entry
invariant-loop-entry l = CountsTurns l.counts (take l.entry-index l.entries) l.objects × (length l.counts ≡ l.objects)
