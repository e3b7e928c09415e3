use Rattle.std.proofs.Common.{◌<◌, ◌+◌, ◌-◌, ◌/◌, ℕ, arith}
use Rattle.saved_state.proofs.Rows.{between_upper, between_lower}
use Rattle.saved_state.proofs.pages.piece_at.Goals as goal

halved : (low high : ℕ) → 1 < high - low → (low < low + (high - low) / 2) × (low + (high - low) / 2 < high)
halved low high wide = (omega (arith, wide), omega (arith, wide))

pub loop-high-preserved-then-start-place : goal.loop-high-preserved-then-start-place
loop-high-preserved-then-start-place c =
    let inner = halved c.loop-high.low c.loop-high.high c.loop-high-test.true in
    between_upper c.args.place c.loop-high.low (c.loop-high.low + (c.loop-high.high - c.loop-high.low) / 2) c.loop-high.high c.args.pieces.now
    c.index-pieces-middle.result c.requires.stacked c.loop-high.invariant inner.0 inner.1 c.index-pieces-middle.is
    (omega (arith, c.start.ensures.start, c.if-start-place.true))

pub loop-high-preserved : goal.loop-high-preserved
loop-high-preserved c =
    let inner = halved c.loop-high.low c.loop-high.high c.loop-high-test.true in
    between_lower c.args.place c.loop-high.low (c.loop-high.low + (c.loop-high.high - c.loop-high.low) / 2) c.loop-high.high c.args.pieces.now
    c.index-pieces-middle.result c.requires.stacked c.loop-high.invariant inner.0 inner.1 c.index-pieces-middle.is
    (omega (arith, c.start.ensures.start, c.if-start-place.false))
