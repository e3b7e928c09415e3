use Rattle.std.proofs.Common.{false, subst}
use Rattle.stamped_slots.specs.Index.{Marks}
use Rattle.stamped_slots.proofs.IndexLemmas.{marked}
use Rattle.stamped_slots.proofs.stamp_index.StampIndex.remove.Goals as goal

pub returns : goal.returns
returns c = record {
  gone =
      subst (λ old. Marks c.args.key c.args.stamp false old c.remove.new.self.keys) c.self.view_is
      (marked c.args.key c.args.stamp false c.self.inside.pairs c.remove.new.self c.remove.ensures.updates);
}
