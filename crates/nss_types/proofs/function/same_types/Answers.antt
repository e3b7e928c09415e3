use Rattle.nss_types.proofs.FunctionLemmas.{unequal_types}
use Rattle.nss_types.proofs.function.same_types.Goals as goal

pub returns-then-params-others : goal.returns-then-params-others
returns-then-params-others c = unequal_types c.args.params.now c.args.others.now (λ e. c.if-params-others.true e)
