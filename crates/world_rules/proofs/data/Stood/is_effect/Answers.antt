use Rattle.world_rules.proofs.StandingLemmas.{same_test}
use Rattle.world_rules.proofs.data.Stood.is_effect.Goals as goal

pub returns : goal.returns
returns c = record { test = same_test c.same.result c.args.effect.now c.args.self.now c.same.ensures.equal }
