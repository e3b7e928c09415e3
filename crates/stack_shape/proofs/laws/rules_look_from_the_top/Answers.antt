use Rattle.stack_shape.proofs.EffectLemmas.{effects_look_from_top, calls_look_from_top, stores_look_from_top}
use Rattle.stack_shape.proofs.RuleLemmas.{rule_looks_from_top}
use Rattle.stack_shape.proofs.laws.rules_look_from_the_top.Goals as goal

-- src/laws.rt:27:1
pub returns-clause-effects : goal.returns-clause-effects
returns-clause-effects c = effects_look_from_top

-- src/laws.rt:27:1
pub returns-clause-calls : goal.returns-clause-calls
returns-clause-calls c = calls_look_from_top

-- src/laws.rt:27:1
pub returns-clause-stores : goal.returns-clause-stores
returns-clause-stores c = stores_look_from_top

-- src/laws.rt:27:1
pub returns-clause-rules : goal.returns-clause-rules
returns-clause-rules c = rule_looks_from_top
