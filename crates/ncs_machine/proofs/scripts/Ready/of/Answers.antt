use Rattle.std.proofs.Common.{subst}
use Rattle.decoded_code.specs.Steps.{AreSteps}
use Rattle.ncs_machine.proofs.scripts.Ready.of.Goals as goal

pub invariant_of-result : goal.invariant_of-result
invariant_of-result c = subst (λ code. AreSteps code c.in-Ok.steps.items) c.code.ensures.code c.in-Ok.ensures.steps
