use Rattle.world_rules.proofs.TurnsKept.{begin_keeps, turn_keeps, turn_done_keeps, unapply_keeps, fault_keeps, drained_keeps}
use Rattle.world_rules.proofs.laws.entries_keep_worlds.Goals as goal

pub returns-clause-begin : goal.returns-clause-begin
returns-clause-begin g c = begin_keeps c.calls_keep_order.ensures.take

pub returns-clause-turn : goal.returns-clause-turn
returns-clause-turn g c = turn_keeps (record {
  post = c.calls_keep_order.ensures.post;
  cancel = c.calls_keep_order.ensures.cancel;
  counts = c.turns_are_counted.ensures.put;
  cancel_counts = c.turns_are_counted.ensures.cancel;
})

pub returns-clause-turn_done : goal.returns-clause-turn_done
returns-clause-turn_done g c = turn_done_keeps (record {
  post = c.calls_keep_order.ensures.post;
  cancel = c.calls_keep_order.ensures.cancel;
  counts = c.turns_are_counted.ensures.put;
  cancel_counts = c.turns_are_counted.ensures.cancel;
})

pub returns-clause-unapply : goal.returns-clause-unapply
returns-clause-unapply g c = unapply_keeps

pub returns-clause-fault : goal.returns-clause-fault
returns-clause-fault g c = fault_keeps

pub returns-clause-drained : goal.returns-clause-drained
returns-clause-drained g c = drained_keeps
