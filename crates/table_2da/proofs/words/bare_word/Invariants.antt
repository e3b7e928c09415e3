use Rattle.std.proofs.Common.{take}
use Rattle.table_2da.specs.Words.{AreUnblank}
use Rattle.table_2da.proofs.words.bare_word.Given as goal

abbrev pub invariant-loop-i : goal.invariant-loop-i
invariant-loop-i l = AreUnblank (take l.i l.line)
