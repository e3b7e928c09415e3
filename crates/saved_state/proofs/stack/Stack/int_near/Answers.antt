use Rattle.saved_state.proofs.Depths.{seen_int}
use Rattle.saved_state.proofs.stack.Stack.int_near.Goals as goal

pub returns : goal.returns
returns c =
    record {
      int = seen_int c.self.inside.cells c.args.depth c.self.inside.bp c.args.self.now c.int_near.result c.self.view_is c.int_near.ensures.int c.int_near.ensures.inside;
    }
