use Rattle.std.proofs.Common.{subst}
use Rattle.saved_state.specs.Pages.{IsPlace}
use Rattle.saved_state.proofs.Rows.{row_set}
use Rattle.saved_state.proofs.pages.Pages.set.Goals as goal

pub invariant_of-self : goal.invariant_of-self
invariant_of-self c =
    let found = subst (λ ps. IsPlace c.args.place c.locate-k.result.0 c.locate-k.result.1 ps) c.as_slice.ensures.value c.locate-k.ensures.place in
    row_set c.set.result c.self.inside.len c.args.place c.locate-k.result.0 c.locate-k.result.1 c.self.inside.pieces.items
    c.index_mut-piece.result.now c.set.new.self c.args.cell c.set.ensures.ok c.set.ensures.err c.self.invariant
    found c.index_mut-piece.ensures.value
