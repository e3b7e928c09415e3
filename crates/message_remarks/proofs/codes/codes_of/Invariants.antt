use Rattle.std.proofs.Common.{◌≡◌}
use Rattle.message_remarks.proofs.codes.codes_of.Given as goal

abbrev pub invariant-loop-i : goal.invariant-loop-i
invariant-loop-i g l = g.F.Files.contents l.files ≡ g.F.Files.contents l.fn.files
