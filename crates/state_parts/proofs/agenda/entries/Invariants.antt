use Rattle.std.proofs.Common.{◌≡◌, ◌++◌, length}
use Rattle.state_parts.proofs.agenda.entries.Given as goal

abbrev pub invariant-loop-done : goal.invariant-loop-done
invariant-loop-done l = (l.all ++ l.agenda.waiting.entries ≡ l.initial.agenda.waiting.entries) × (length l.all ≡ l._done)
