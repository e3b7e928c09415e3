use Rattle.std.proofs.Common.{take}
use Rattle.play_save.specs.Breaking.{AreScriptsOf}
use Rattle.play_save.proofs.prepare.kept_scripts.Given as goal

abbrev pub invariant-loop-part : goal.invariant-loop-part
invariant-loop-part l = AreScriptsOf l.table (take l.part-index l.parts) l.all
