use Rattle.std.proofs.Common.{refl}
use Rattle.nwq_text.proofs.CutLemmas.{cut_here}
use Rattle.nwq_text.proofs.cuts.cut.Goals as goal

pub returns-then-byte-at : goal.returns-then-byte-at
returns-then-byte-at c =
    record { cut = cut_here c.args.at c.args.bytes.now c.loop-i.i _ c.loop-i-test.true refl c.if-byte-at.true c.loop-i.invariant }
