use Rattle.std.proofs.Common.{is_some, ◌∙◌, ap}
use Rattle.local_variables.proofs.KeptLemmas.{ints, texts, turned, is_there}
use Rattle.local_variables.proofs.kept.Kept.contains.Goals as goal

pub returns-in-Int : goal.returns-in-Int
returns-in-Int c = record {
  found = rw c.in-Int.is (c.is_some.ensures ∙ ap is_some c.get.ensures.number
      ∙ is_there ints c.in-Int.name.now c.self.invariant c.self.view_is);
}

pub returns-in-Text : goal.returns-in-Text
returns-in-Text c = record {
  found = rw c.in-Text.is (c.is_some-in-Text.ensures ∙ ap is_some c.get-in-Text.ensures.number
      ∙ is_there texts c.in-Text.name.now (turned c.self.invariant) c.self.view_is);
}
