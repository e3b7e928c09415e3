use Rattle.stack_rules.proofs.RunLemmas.{runs_safely, scripts_are_sound, states_are_sound}
use Rattle.stack_rules.proofs.laws.runs_are_sound.Goals as goal

pub returns-clause-runs : goal.returns-clause-runs
returns-clause-runs g c = runs_safely c.steps_are_safe.ensures.steps

pub returns-clause-scripts : goal.returns-clause-scripts
returns-clause-scripts g c = scripts_are_sound c.steps_are_safe.ensures.steps c.entries_begin_safely.ensures.scripts

pub returns-clause-states : goal.returns-clause-states
returns-clause-states g c = states_are_sound c.steps_are_safe.ensures.steps c.entries_begin_safely.ensures.states
