use Rattle.std.proofs.Common.{◌≡◌, take}
use Rattle.delay_agenda.specs.Waiting.{turn_count}
use Rattle.delay_agenda.proofs.queue.place_of_turn.Given as goal

-- none so far
abbrev pub invariant-loop-i : goal.invariant-loop-i
invariant-loop-i g l = turn_count l.object (take l.i l.queue.items) ≡ 0
