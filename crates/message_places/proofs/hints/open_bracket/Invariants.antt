use Rattle.std.proofs.Common.{◌≤◌, length}
use Rattle.message_places.proofs.hints.open_bracket.Given as goal

abbrev pub invariant-loop-turn : goal.invariant-loop-turn
invariant-loop-turn l = l.place ≤ length l.bytes
