use Rattle.saved_state.specs.declared.cell.Cell.TheVariants.{Value as ValueCell}
use Rattle.saved_state.proofs.Depths.{seen_set}
use Rattle.saved_state.proofs.stack.Stack.set_down.Goals as goal

pub returns-clause-ok : goal.returns-clause-ok
returns-clause-ok c =
    seen_set c.set_down.result c.self.inside.cells c.set_down.new.self c.self.inside.bp c.args.depth (ValueCell c.args.value)
    c.args.self.now c.self.view_is c.requires.inside c.set_down.ensures.ok
