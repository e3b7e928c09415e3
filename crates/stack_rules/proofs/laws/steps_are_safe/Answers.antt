use Rattle.stack_rules.proofs.RunLemmas.{steps_safely}
use Rattle.stack_rules.proofs.laws.steps_are_safe.Goals as goal

pub returns : goal.returns
returns g c = record {
  steps = steps_safely (record {
    effects = c.effects_are_followed.ensures.effects;
    calls = c.effects_are_followed.ensures.calls;
    stores = c.effects_are_followed.ensures.stores;
    effects_top = c.rules_look_from_the_top.ensures.effects;
    calls_top = c.rules_look_from_the_top.ensures.calls;
    stores_top = c.rules_look_from_the_top.ensures.stores;
    pops = c.effects_pop_values.ensures.effects;
    call_pops = c.effects_pop_values.ensures.calls;
    there = c.effects_pop_values.ensures.there;
  }) c.entries_begin_safely.ensures.scripts;
}
