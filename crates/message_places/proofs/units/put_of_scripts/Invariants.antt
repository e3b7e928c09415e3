use Rattle.std.proofs.Common.{◌≡◌}
use Rattle.message_places.proofs.units.put_of_scripts.Given as goal

abbrev pub invariant-loop-script : goal.invariant-loop-script
invariant-loop-script g l = g.F.Files.contents l.files ≡ g.F.Files.contents l.fn.files
