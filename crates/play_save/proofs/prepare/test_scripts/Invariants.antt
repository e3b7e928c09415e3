use Rattle.std.proofs.Common.{take}
use Rattle.play_save.specs.Breaking.{AreSound}
use Rattle.play_save.proofs.prepare.test_scripts.Given as goal

abbrev pub invariant-loop-part : goal.invariant-loop-part
invariant-loop-part l = AreSound l.table (take l.part-index l.parts)
