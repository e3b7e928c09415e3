use Rattle.std.proofs.Common.{refl, arith}
use Rattle.play_save.proofs.CapturedLemmas.{too_long}
use Rattle.play_save.proofs.prepare.load_code.Goals as goal

pub returns-then-len-gt-FILE_BYTES-clause-broken : goal.returns-then-len-gt-FILE_BYTES-clause-broken
returns-then-len-gt-FILE_BYTES-clause-broken c =
    (refl, too_long c.args.bytes.now c.size_laws.ensures.sizes.file (omega (arith, c.if-len-gt-FILE_BYTES.true, c.len.ensures.len)))
