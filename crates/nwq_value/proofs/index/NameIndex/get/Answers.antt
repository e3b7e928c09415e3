use Rattle.std.proofs.Common.{◌∙◌, Some, None, sym}
use Rattle.nwq_value.proofs.HashLemmas.{in_index}
use Rattle.nwq_value.proofs.IndexLemmas.{found}
use Rattle.nwq_value.proofs.index.NameIndex.get.Goals as goal

pub returns-in-Some : goal.returns-in-Some
returns-in-Some c =
    let own = c.self.inside in
    record {
      number = in_index c.args.name.now own.first own.others c.args.self.now (Some c.in-Some.number)
          c.self.view_is c.self.invariant (sym c.in-Some.is ∙ c.first_of.ensures);
    }

pub returns-in-None : goal.returns-in-None
returns-in-None c =
    let own = c.self.inside in
    record {
      number = c.copied.ensures ∙ c.get.ensures.value ∙ found c.args.name.now own.others.entries
          ∙ in_index c.args.name.now own.first own.others c.args.self.now None
          c.self.view_is c.self.invariant (sym c.in-None.is ∙ c.first_of.ensures);
    }
