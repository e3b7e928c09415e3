use Rattle.std.proofs.Common.{◌<◌, length, arith}
use Rattle.saved_state.specs.declared.cell.Cell.TheVariants.{Value as ValueCell}
use Rattle.saved_state.proofs.Views.{height, set_view}
use Rattle.saved_state.proofs.stack.Stack.set.Goals as goal

pub returns-clause-ok : goal.returns-clause-ok
returns-clause-ok c =
    let cells = c.self.inside.cells in
    let size = height cells c.self.inside.bp c.args.self.now c.self.view_is in
    let less : c.args.place < length cells = omega (arith, size, c.requires.inside) in
    set_view c.set.result cells c.set.new.self c.self.inside.bp c.args.place (ValueCell c.args.value) c.args.self.now c.self.view_is less c.set.ensures.ok
