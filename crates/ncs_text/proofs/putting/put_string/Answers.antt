use Rattle.std.proofs.Common.{arith}
use Rattle.ncs_text.proofs.Strings.{too_long}
use Rattle.ncs_text.proofs.putting.put_string.Goals as goal

pub returns-then-len-ge65536-clause-string : goal.returns-then-len-ge65536-clause-string
returns-then-len-ge65536-clause-string c =
    let read = rw c.in-Some.is at c.in_ok-string.ensures.reads
    in too_long c.args.text.now c.in-Some.string.items read.0 read.1 (omega (arith, c.if-len-ge65536.true, c.len.ensures, c.in-Some.string.ok.0))
