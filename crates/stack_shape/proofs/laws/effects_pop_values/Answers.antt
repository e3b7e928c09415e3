use Rattle.stack_shape.proofs.EffectLemmas.{effects_pop_values, calls_pop_values, values_are_there}
use Rattle.stack_shape.proofs.laws.effects_pop_values.Goals as goal

-- src/laws.rt:19:1
pub returns-clause-effects : goal.returns-clause-effects
returns-clause-effects c = effects_pop_values

-- src/laws.rt:19:1
pub returns-clause-calls : goal.returns-clause-calls
returns-clause-calls c = calls_pop_values

-- src/laws.rt:19:1
pub returns-clause-there : goal.returns-clause-there
returns-clause-there c = values_are_there
