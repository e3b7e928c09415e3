use Rattle.std.proofs.Common.{take}
use Rattle.std.specs.List.{AllByRecursion}
use Rattle.play_save.specs.Rules.{KindHolds}
use Rattle.play_save.specs.Breaking.{IsFitting}
use Rattle.play_save.proofs.fitting.entries_fit.Given as goal

abbrev pub invariant-loop-entry : goal.invariant-loop-entry
invariant-loop-entry l = AllByRecursion (λ e. KindHolds (IsFitting l.scripts) e.kind) (take l.entry-index l.entries)
