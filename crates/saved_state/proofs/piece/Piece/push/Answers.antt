use Rattle.std.proofs.Common.{rules}
use Rattle.saved_state.proofs.Pieces.{copy_is}
use Rattle.saved_state.proofs.piece.Piece.push.Goals.{then-end-lt-PAGE_CELLS+in-None, else-end-lt-PAGE_CELLS}
use Rattle.saved_state.proofs.piece.Piece.push.Goals as goal

pub returns : goal.returns
returns c =
    elim c.if-end-lt-PAGE_CELLS.branch [
      | then-end-lt-PAGE_CELLS+in-None w ↦ search (rules, copy_is)
      | else-end-lt-PAGE_CELLS w ↦ search (rules, copy_is)
    ]
