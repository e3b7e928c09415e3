use Rattle.std.proofs.Common.{◌≡◌}
use Rattle.play_tests.proofs.TurnCounts.{AreTurning}
use Rattle.play_tests.proofs.agenda.all_turning.Given as goal

abbrev pub invariant-loop-object : goal.invariant-loop-object
invariant-loop-object l = record {
  next : l.agenda.waiting.next ≡ l.object;
  turning : AreTurning l.object l.agenda.waiting.entries;
}
