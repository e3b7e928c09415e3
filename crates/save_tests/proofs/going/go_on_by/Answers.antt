use Rattle.std.proofs.Common.{arith}
use Rattle.save_tests.proofs.going.go_on_by.Goals as goal

pub play_on-requires-clause-world : goal.play_on-requires-clause-world
play_on-requires-clause-world g c = record { fit = c.requires.fit; quiet = c.requires.quiet; next = omega arith }

pub play_on-requires-clause-goes : goal.play_on-requires-clause-goes
play_on-requires-clause-goes g c = record { some = omega arith; within = omega arith; few = omega arith }
