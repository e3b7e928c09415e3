use Rattle.std.proofs.Common.{◌≤◌, length, take, ap, ◌∙◌, arith}
use Rattle.saved_state.specs.Pages.{Part, flat}
use Rattle.saved_state.proofs.Rows.{start_is, between_all}
use Rattle.saved_state.proofs.pages.Pages.share.Goals as goal

pub returns-then-to-start : goal.returns-then-to-start
returns-then-to-start c =
    let start = start_is 0 c.args.pieces.now c.loop-k.k c.index-pieces-k.result c.requires.stacked c.loop-k-test.true in
    let here = ap (λ (p : Part). p.start) c.index-pieces-k.is in
    let above : c.args.to ≤ length (flat (take c.loop-k.k c.args.pieces.now)) = omega (arith, start, here, c.start.ensures.start, c.if-to-start.true) in
    record { part = c.loop-k.invariant ∙ between_all c.args.from c.args.to c.loop-k.k c.args.pieces.now above }
