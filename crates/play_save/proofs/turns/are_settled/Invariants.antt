use Rattle.std.proofs.Common.{◌≡◌, ◌<◌, ℕ, suc, map}
use Rattle.std.specs.Prelude.{Some, slice_get}
use Rattle.delay_agenda.specs.Waiting.{turn_count}
use Rattle.state_format.specs.declared.parts.Object.{Object}
use Rattle.state_parts.specs.World.{entry_of}
use Rattle.play_save.specs.Rules.{IsSettledBy}
use Rattle.play_save.proofs.turns.are_settled.Given as goal

abbrev pub invariant-loop-i : goal.invariant-loop-i
invariant-loop-i l = (k : ℕ) (o : Object) → k < l.i → slice_get l.objects k ≡ Some o → IsSettledBy (turn_count (suc k) (map entry_of l.entries)) o
