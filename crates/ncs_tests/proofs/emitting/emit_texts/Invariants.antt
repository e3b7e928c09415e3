use Rattle.std.proofs.Common.{◌≡◌}
use Rattle.ncs_tests.proofs.emitting.emit_texts.Given as goal

abbrev pub invariant-loop : goal.invariant-loop
invariant-loop l = l.out.labels ≡ l.fn.out.labels
