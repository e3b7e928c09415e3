use Rattle.std.proofs.Common.{None, refl}
use Rattle.nwq_value.proofs.HashLemmas.{puts_in}
use Rattle.nwq_value.proofs.IndexLemmas.{puts}
use Rattle.nwq_value.proofs.index.NameIndex.remove.Goals as goal

pub returns : goal.returns
returns c =
    let own = c.self.inside in
    record {
      gone = puts_in c.args.name.now None None None own.first c.take_out.new.first own.others c.remove.new.self c.args.self.now
          c.self.view_is c.self.invariant c.take_out.ensures
          (puts c.args.name.now own.others c.remove.new.self None c.remove.ensures.updates) refl;
    }
