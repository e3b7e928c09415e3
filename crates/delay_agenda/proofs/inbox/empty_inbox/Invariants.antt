use Rattle.std.proofs.Common.{◌≡◌, ◌≤◌, ◌-◌}
use Rattle.std.specs.VecDeque.{deque_capacity, deque_len}
use Rattle.delay_agenda.specs.Queues.{put_all}
use Rattle.delay_agenda.proofs.inbox.empty_inbox.Given as goal

-- the entries stay the same list
abbrev pub invariant-loop-entry : goal.invariant-loop-entry
invariant-loop-entry g l = record {
  entries : put_all l.inbox.items l.sorted ≡ put_all l.initial.inbox.items l.initial.sorted;
  room : deque_capacity l.initial.inbox - deque_len l.initial.inbox ≤ deque_capacity l.inbox - deque_len l.inbox;
}

abbrev pub decreases-loop-entry : goal.decreases-loop-entry
decreases-loop-entry g l = deque_len l.inbox
