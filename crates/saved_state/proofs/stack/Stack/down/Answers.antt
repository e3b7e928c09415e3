use Rattle.saved_state.proofs.Depths.{seen_down}
use Rattle.saved_state.proofs.stack.Stack.down.Goals as goal

pub returns : goal.returns
returns c =
    record {
      cell = seen_down c.self.inside.cells c.args.depth c.self.inside.bp c.args.self.now _ c.self.view_is c.requires.inside c.down.ensures.cell;
    }
