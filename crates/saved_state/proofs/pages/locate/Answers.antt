use Rattle.std.proofs.Common.{arith}
use Rattle.saved_state.proofs.Rows.{place_is}
use Rattle.saved_state.proofs.pages.locate.Goals as goal

pub overflow_sub-i : goal.overflow_sub-i
overflow_sub-i c =
    let found = place_is c.args.place c.piece_at-k.result c.args.pieces.now c.index-pieces-k.result c.requires.stacked
    c.piece_at-k.ensures.piece c.index-pieces-k.is in
    omega (arith, found.0, c.start.ensures.start)
