use Rattle.saved_state.proofs.Depths.{seen_less}
use Rattle.saved_state.proofs.stack.Stack.drop_one.Goals as goal

pub returns : goal.returns
returns c =
    record {
      dropped = seen_less c.self.inside.cells c.drop_one.new.self c.self.inside.bp 1 c.args.self.now c.self.view_is c.requires.some c.drop_one.ensures.left;
    }
