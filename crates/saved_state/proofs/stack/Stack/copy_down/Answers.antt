use Rattle.std.proofs.Common.{◌+◌}
use Rattle.saved_state.proofs.Depths.{fits_down}
use Rattle.saved_state.proofs.Runs.{seen_written}
use Rattle.saved_state.proofs.stack.Stack.copy_down.Goals as goal

pub copy_down-requires : goal.copy_down-requires
copy_down-requires c = record {
  order = c.requires.order;
  inside = fits_down c.self.inside.cells c.self.inside.bp (c.args.onto + c.args.count) c.args.self.now c.self.view_is c.requires.inside;
}

pub returns : goal.returns
returns c = record {
  ok =
      seen_written c.copy_down.result c.self.inside.cells c.copy_down.new.self c.self.inside.bp c.args.from c.args.onto c.args.count
      c.args.self.now c.self.view_is c.requires.inside c.requires.order c.copy_down.ensures.ok;
}
