use Rattle.std.proofs.Common.{arith}
use Rattle.world_core.proofs.WorldLemmas.{taken_kept}
use Rattle.world_core.proofs.world.World.take_entry.Goals as goal

pub invariant_of-self : goal.invariant_of-self
invariant_of-self g c = (
  taken_kept c.calls_keep_order.ensures.take c.self.inside.parts.world c.take_entry.new.self.world c.take_entry.ensures.left c.self.invariant.0,
  let room = c.self.invariant.1 in let posts = c.take_entry.ensures.posts in omega arith,
  c.self.invariant.2,
)
