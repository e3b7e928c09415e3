use Rattle.std.proofs.Common.{ℕ, ◌≤◌}
use Rattle.delay_agenda.specs.Waiting.{turn_count}
use Rattle.play_tests.proofs.agenda.cancelled.Given as goal

abbrev pub invariant-loop-done : goal.invariant-loop-done
invariant-loop-done l = record {
  few : l.count ≤ l.done;
  one : (object : ℕ) → turn_count object l.agenda.waiting.entries ≤ 1;
}
