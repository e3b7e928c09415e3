use Rattle.std.proofs.Common.{◌≤◌, length}
use Rattle.state_parts.proofs.objects.count_items.Given as goal

abbrev pub invariant-loop-i : goal.invariant-loop-i
invariant-loop-i l = l.i ≤ length l.queue.actions
