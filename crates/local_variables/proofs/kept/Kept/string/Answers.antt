use Rattle.std.proofs.Common.{◌≡◌, ◌∙◌, ℕ, List, [], subst, sym, ap}
use Rattle.std.specs.Prelude.{MatchOption}
use Rattle.std.specs.Option.{option_map}
use Rattle.local_variables.specs.Variables.{text_of}
use Rattle.local_variables.specs.Kept.{variable_in}
use Rattle.local_variables.proofs.KeptLemmas.{texts, turned, reads}
use Rattle.local_variables.proofs.kept.Kept.string.Goals as goal

pub returns-in-Some : goal.returns-in-Some
returns-in-Some c =
    let same = ap text_of (ap (option_map variable_in) c.in-Some.ensures ∙ reads texts c.args.name.now (turned c.self.invariant) c.self.view_is c.keeps.ensures.rise) in
    record { value = subst (λ (t : List ℕ). MatchOption c.string.result (t ≡ []) (λ text. text.now ≡ t)) same c.string.ensures }

pub returns-in-None : goal.returns-in-None
returns-in-None c = record { value = sym (ap text_of (ap (option_map variable_in) c.in-None.ensures ∙ reads texts c.args.name.now (turned c.self.invariant) c.self.view_is c.keeps.ensures.rise)) }
