use Rattle.world_rules.proofs.Settled.{entries_settle, new_is_between, new_is_planned, plays_settle}
use Rattle.world_rules.proofs.plays.plays_settle.Goals as goal

pub returns-clause-new_world : goal.returns-clause-new_world
returns-clause-new_world g c = new_is_between (record {
  post = c.calls_keep_order.ensures.post;
  cancel = c.calls_keep_order.ensures.cancel;
  counts = c.turns_are_counted.ensures.put;
  cancel_counts = c.turns_are_counted.ensures.cancel;
})

pub returns-clause-planned : goal.returns-clause-planned
returns-clause-planned g c = new_is_planned

pub returns-clause-entries : goal.returns-clause-entries
returns-clause-entries g c = entries_settle (record {
  post = c.calls_keep_order.ensures.post;
  cancel = c.calls_keep_order.ensures.cancel;
  counts = c.turns_are_counted.ensures.put;
  cancel_counts = c.turns_are_counted.ensures.cancel;
}) c.calls_keep_order.ensures.take

pub returns-clause-plays : goal.returns-clause-plays
returns-clause-plays g c = plays_settle (record {
  post = c.calls_keep_order.ensures.post;
  cancel = c.calls_keep_order.ensures.cancel;
  counts = c.turns_are_counted.ensures.put;
  cancel_counts = c.turns_are_counted.ensures.cancel;
}) c.calls_keep_order.ensures.take
