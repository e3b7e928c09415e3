use Rattle.nss_symbols.proofs.SeenLemmas.{SeenSoFar}
use Rattle.nss_symbols.proofs.symbol.seen_all.Given as goal

abbrev pub invariant-loop-token : goal.invariant-loop-token
invariant-loop-token l = SeenSoFar l.all.items l.tokens l.token-index
