use Rattle.world_rules.proofs.RowsKept.{engine_keeps}
use Rattle.world_rules.proofs.TurnsKept.{new_is_world, no_script_keeps, too_deep_keeps}
use Rattle.world_rules.proofs.laws.calls_keep_worlds.Goals as goal

pub returns-clause-new_world : goal.returns-clause-new_world
returns-clause-new_world g c = new_is_world (record {
  post = c.calls_keep_order.ensures.post;
  cancel = c.calls_keep_order.ensures.cancel;
  counts = c.turns_are_counted.ensures.put;
  cancel_counts = c.turns_are_counted.ensures.cancel;
})

pub returns-clause-engine : goal.returns-clause-engine
returns-clause-engine g c = engine_keeps (record {
  post = c.calls_keep_order.ensures.post;
  cancel = c.calls_keep_order.ensures.cancel;
  counts = c.turns_are_counted.ensures.put;
  cancel_counts = c.turns_are_counted.ensures.cancel;
})

pub returns-clause-no_script : goal.returns-clause-no_script
returns-clause-no_script g c = no_script_keeps

pub returns-clause-too_deep : goal.returns-clause-too_deep
returns-clause-too_deep g c = too_deep_keeps
