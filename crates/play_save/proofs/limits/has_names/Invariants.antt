use Rattle.std.proofs.Common.{◌≤◌, length, drop}
use Rattle.play_save.specs.Rules.{AreNamed}
use Rattle.play_save.proofs.limits.has_names.Given as goal

abbrev pub invariant-loop-left : goal.invariant-loop-left
invariant-loop-left l = AreNamed (drop l.left l.scripts) × (l.left ≤ length l.scripts)

abbrev pub decreases-loop-left : goal.decreases-loop-left
decreases-loop-left l = l.left
