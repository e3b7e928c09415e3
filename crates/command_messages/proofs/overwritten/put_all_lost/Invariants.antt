use Rattle.std.proofs.Common.{take}
use Rattle.message_text.specs.Shown.{Appends}
use Rattle.command_messages.specs.Overwritten.{ShowAllLost}
use Rattle.command_messages.proofs.overwritten.put_all_lost.Given as goal

abbrev pub invariant-loop-input : goal.invariant-loop-input
invariant-loop-input l = Appends (ShowAllLost l.written l.sentence (take l.input-index l.inputs)) l.fn.out.items l.out.items
