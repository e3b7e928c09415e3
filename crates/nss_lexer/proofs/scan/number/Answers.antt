use Rattle.std.proofs.Common.{arith}
use Rattle.nss_lexer.proofs.Scanning.{too_great}
use Rattle.nss_lexer.proofs.scan.number.Goals as goal

pub returns-then-more : goal.returns-then-more
returns-then-more c =
    too_great c.args.radix c.loop-b.n c.loop-b.b-index c.args.digits.now (omega arith) (omega arith)
    (omega (arith, c.digit_value.ensures)) c.loop-b.invariant.0
