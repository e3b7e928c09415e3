use Rattle.std.proofs.Common.{◌≢◌, [], sym, arith}
use Rattle.std.proofs.lemmas.Grind.{common_steps}
use Rattle.nwq_text.proofs.EscapeLemmas.{one_more_read, unspelled_is_none}
use Rattle.nwq_text.proofs.escape.unescaped.Goals as goal

pub loop-byte-preserved : goal.loop-byte-preserved
loop-byte-preserved c = rw c.in_ok-push.ensures.items (one_more_read _ _ _ _ _ _ c.loop-byte.invariant (sym c.in-Some.ensures))

pub returns-then-not-is_empty : goal.returns-then-not-is_empty
returns-then-not-is_empty c =
    let some : c.loop-byte.rest.now ≢ [] = grind (arith, common_steps)
    in unspelled_is_none _ _ _ _ c.loop-byte.invariant (sym c.in_default.ensures) some
