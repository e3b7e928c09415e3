use Rattle.std.proofs.Common.{true, subst}
use Rattle.stamped_slots.specs.Index.{Marks}
use Rattle.stamped_slots.proofs.IndexLemmas.{marked}
use Rattle.stamped_slots.proofs.stamp_index.StampIndex.put.Goals as goal

pub returns-clause-ok : goal.returns-clause-ok
returns-clause-ok c =
    subst (λ old. Marks c.args.key c.args.stamp true old c.insert.new.self.keys) c.self.view_is
    (marked c.args.key c.args.stamp true c.self.inside.pairs c.insert.new.self c.in_ok-insert.ensures.updates)
