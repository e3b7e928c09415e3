use Rattle.std.proofs.Common.{refl, rules}
use Rattle.play_save.proofs.CapturedLemmas.{unsound}
use Rattle.play_save.proofs.prepare.check_code.Goals as goal

pub returns-in-Err-Unstacked-clause-broken : goal.returns-in-Err-Unstacked-clause-broken
returns-in-Err-Unstacked-clause-broken c =
    (refl, unsound c.args.table.now c.args.bytes.now c.in-Ok.code c.spelling_laws.ensures.spelling c.in-Ok.ensures.code (c.check.ensures.unstacked (search rules)))
