use Rattle.local_variables.proofs.KeptLemmas.{texts, turned, stays, removed}
use Rattle.local_variables.proofs.kept.Kept.delete_text.Goals as goal

pub invariant_of-self : goal.invariant_of-self
invariant_of-self c = turned (removed texts c.args.name.now (turned c.self.invariant) c.self.view_is c.keeps.ensures.rise c.in-Some.ensures.number c.remove.ensures.gone c.take.ensures.left).kept

pub returns-in-Some : goal.returns-in-Some
returns-in-Some c = record {
  gone = (removed texts c.args.name.now (turned c.self.invariant) c.self.view_is c.keeps.ensures.rise c.in-Some.ensures.number c.remove.ensures.gone
      c.take.ensures.left).view;
}

pub returns-in_default : goal.returns-in_default
returns-in_default c = record { gone = stays texts c.args.name.now (turned c.self.invariant) c.self.view_is c.in_default.ensures.number }
