use Rattle.std.proofs.Common.{◌<◌, length, sym, ap, ◌∙◌, arith}
use Rattle.saved_state.specs.Cells.{StackView, cell_at}
use Rattle.saved_state.proofs.Places.{cell_got}
use Rattle.saved_state.proofs.Views.{height}
use Rattle.saved_state.proofs.stack.Stack.at.Goals as goal

pub returns : goal.returns
returns c =
    let cells = c.self.inside.cells in
    let size = height cells c.self.inside.bp c.args.self.now c.self.view_is in
    let less : c.args.place < length cells = omega (arith, size, c.requires.inside) in
    record {
      cell =
          ap (λ (s : StackView). cell_at s.cells c.args.place) (sym c.self.view_is)
          ∙ cell_got cells c.args.place less
          ∙ c.at.ensures.cell;
    }
