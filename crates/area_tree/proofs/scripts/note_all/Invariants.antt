use Rattle.std.proofs.Common.{take}
use Rattle.area_tree.specs.Scripts.{HasFirst}
use Rattle.area_tree.proofs.scripts.note_all.Given as goal

abbrev pub invariant-loop-place : goal.invariant-loop-place
invariant-loop-place l = HasFirst (take l.place l.all) l.first
