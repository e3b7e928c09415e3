use Rattle.machine_rules.proofs.FollowLemmas.{effects_are_followed}
use Rattle.machine_rules.proofs.CallLemmas.{calls_are_followed}
use Rattle.machine_rules.proofs.StoreLemmas.{stores_are_followed}
use Rattle.machine_rules.proofs.laws.effects_are_followed.Goals as goal

pub returns-clause-effects : goal.returns-clause-effects
returns-clause-effects c = effects_are_followed

pub returns-clause-calls : goal.returns-clause-calls
returns-clause-calls c = calls_are_followed

pub returns-clause-stores : goal.returns-clause-stores
returns-clause-stores c = stores_are_followed
