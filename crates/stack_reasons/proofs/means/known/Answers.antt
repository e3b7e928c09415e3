use Rattle.std.proofs.Common.{arith}
use Rattle.stack_reasons.proofs.Knowing.{is_read}
use Rattle.stack_reasons.proofs.means.known.Goals as goal

pub returns-then-spot-place-clause-there : goal.returns-then-spot-place-clause-there
returns-then-spot-place-clause-there c = is_read _ _ _ _ _ _ c.requires.seen (omega arith) c.index-seen-number.is
