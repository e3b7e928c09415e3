use Rattle.state_objects.proofs.Sharing.{unseen}
use Rattle.state_objects.proofs.things.variables.Goals as goal

pub push-requires : goal.push-requires
push-requires c = record {
  new = unseen c.variables_tell.ensures.same c.args.parts.now c.loop-part.part-index c.part-item.result c.loop-part.vars _ c.loop-part.invariant c.variable.ensures.tells c.requires.distinct
      c.loop-part-test.true c.part-item.is;
}
