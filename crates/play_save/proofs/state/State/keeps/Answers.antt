use Rattle.std.proofs.Common.{subst}
use Rattle.state_format.specs.declared.parts.Parts.{Parts}
use Rattle.state_format.specs.Parts.{HasForm}
use Rattle.play_save.specs.Rules.{IsAccepted}
use Rattle.play_save.proofs.state.State.keeps.Goals as goal

pub returns : goal.returns
returns c = record {
  accepted = subst (λ (s : Parts). IsAccepted s) c.self.view_is c.self.invariant.1.0;
  form = subst (λ (s : Parts). HasForm s) c.self.view_is c.self.invariant.0;
}
