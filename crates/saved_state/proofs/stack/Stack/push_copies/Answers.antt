use Rattle.std.proofs.Common.{◌+◌}
use Rattle.saved_state.proofs.Depths.{fits_down, seen_more}
use Rattle.saved_state.proofs.stack.Stack.push_copies.Goals as goal

pub push_copies-requires : goal.push_copies-requires
push_copies-requires c = record {
  inside = fits_down c.self.inside.cells c.self.inside.bp (c.args.above + c.args.count) c.args.self.now c.self.view_is c.requires.inside;
}

pub returns : goal.returns
returns c = record {
  ok =
      seen_more c.push_copies.result c.self.inside.cells c.push_copies.new.self c.self.inside.bp c.args.above c.args.count
      c.args.self.now c.self.view_is c.requires.inside c.push_copies.ensures.ok;
}
