use Rattle.std.proofs.Common.{◌≡◌}
use Rattle.command_messages.proofs.notes.caller.Given as goal

abbrev pub invariant-loop-script : goal.invariant-loop-script
invariant-loop-script g l = g.F.Files.contents l.files ≡ g.F.Files.contents l.fn.files
