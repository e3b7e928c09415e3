use Rattle.std.proofs.Common.{rules, ◌∙◌, ap}
use Rattle.std.specs.Option.{option_map}
use Rattle.local_variables.specs.Variables.{int_of}
use Rattle.local_variables.specs.Kept.{variable_in}
use Rattle.local_variables.proofs.KeptLemmas.{ints, reads}
use Rattle.local_variables.proofs.kept.Kept.int.Goals as goal

pub returns-in-Some : goal.returns-in-Some
returns-in-Some c = record {
  value = search rules ∙ c.int.ensures ∙ ap int_of (ap (option_map variable_in) c.in-Some.ensures ∙ reads ints c.args.name.now c.self.invariant c.self.view_is
      c.keeps.ensures.rise);
}

pub returns-in-None : goal.returns-in-None
returns-in-None c = record { value = ap int_of (ap (option_map variable_in) c.in-None.ensures ∙ reads ints c.args.name.now c.self.invariant c.self.view_is c.keeps.ensures.rise) }
