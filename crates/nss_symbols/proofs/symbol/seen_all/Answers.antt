use Rattle.std.proofs.Common.{◌+◌, List, subst, sym}
use Rattle.nss_symbols.specs.declared.symbol.Seen.{Seen}
use Rattle.nss_symbols.proofs.SeenLemmas.{SeenSoFar, seen_more}
use Rattle.nss_symbols.proofs.symbol.seen_all.Goals as goal

pub loop-token-preserved : goal.loop-token-preserved
loop-token-preserved c =
    subst (λ (z : List Seen). SeenSoFar z c.args.tokens.now (c.loop-token.token-index + 1)) (sym c.in_ok-push.ensures.items)
    (seen_more c.loop-token.all.items c.args.tokens.now c.loop-token.token-index _ c.seen_of.result c.loop-token-test.true c.seen_of.ensures.same c.seen_of.ensures.sound
    c.seen_of.ensures.literal c.loop-token.invariant)
