use Rattle.delay_agenda.specs.Queues.{IsLeastAt}
use Rattle.delay_agenda.proofs.queue.least_place.Given as goal

-- the first of those that were looked at
abbrev pub invariant-loop-i : goal.invariant-loop-i
invariant-loop-i g l = IsLeastAt l.least l.i l.inbox.items
