use Rattle.std.proofs.Common.{◌≤◌, length, drop}
use Rattle.play_save.specs.Rules.{AreWaiting}
use Rattle.play_save.specs.Breaking.{HasNumbers}
use Rattle.play_save.proofs.waiting.test_agenda.Given as goal

abbrev pub invariant-loop-left : goal.invariant-loop-left
invariant-loop-left l =
    AreWaiting l.next l.clock l.objects (drop l.left l.entries) × (HasNumbers l.numbers (drop l.left l.entries) × (l.left ≤ length l.entries))

abbrev pub decreases-loop-left : goal.decreases-loop-left
decreases-loop-left l = l.left
