use Rattle.std.proofs.Common.{◌≤◌, length}
use Rattle.message_places.proofs.asked.directive_for.Given as goal

abbrev pub invariant-loop-turn : goal.invariant-loop-turn
invariant-loop-turn l = l.at ≤ length l.bytes
