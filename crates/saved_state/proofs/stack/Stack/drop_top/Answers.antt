use Rattle.saved_state.proofs.Depths.{seen_less}
use Rattle.saved_state.proofs.stack.Stack.drop_top.Goals as goal

pub returns : goal.returns
returns c =
    record {
      dropped = seen_less c.self.inside.cells c.drop_top.new.self c.self.inside.bp c.args.n c.args.self.now c.self.view_is c.requires.inside c.drop_top.ensures.left;
    }
