use Rattle.nss_lexer.proofs.Scanning.{too_short}
use Rattle.nss_lexer.proofs.scan.is_prefix.Goals as goal

pub returns-then-at-bytes : goal.returns-then-at-bytes
returns-then-at-bytes c =
    too_short c.loop-at.at c.args.sign.now c.args.bytes.now c.loop-at-test.true c.if-at-bytes.true c.loop-at.invariant
