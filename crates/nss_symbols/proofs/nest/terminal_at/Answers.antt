use Rattle.std.proofs.Common.{◌∙◌, Some, refl, sym}
use Rattle.std.proofs.lemmas.Bool.{ltb-true}
use Rattle.std.proofs.lemmas.Option.{slice_get_read}
use Rattle.nss_symbols.proofs.NestLaws.{head_at}
use Rattle.nss_symbols.proofs.nest.terminal_at.Goals as goal

pub returns-in-Some : goal.returns-in-Some
returns-in-Some c =
    let found = c.in-Some.ensures.lookup in
    c.terminal_in.ensures ∙ head_at c.args.symbols.now c.args.at (Some c.in-Some.symbol.now) (sym (slice_get_read _ _ _ _ refl (ltb-true _ _ (sym found.0)) found.1))
