use Rattle.std.proofs.Common.{◌≡◌, ◌++◌, take, drop, false}
use Rattle.gff_tree.specs.Label.{has_zero, label_text}
use Rattle.gff_tree.proofs.label.before_zero.Given as goal

abbrev pub invariant-loop-i : goal.invariant-loop-i
invariant-loop-i l = record { text : label_text l.raw ≡ take l.i l.raw ++ label_text (drop l.i l.raw); no_zero : has_zero (take l.i l.raw) ≡ false }
