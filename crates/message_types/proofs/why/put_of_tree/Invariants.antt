use Rattle.std.proofs.Common.{◌≡◌}
use Rattle.message_types.proofs.why.put_of_tree.Given as goal

abbrev pub invariant-loop-i : goal.invariant-loop-i
invariant-loop-i l = l.out.items ≡ l.initial.out.items
