use Rattle.std.proofs.Common.{take}
use Rattle.std.specs.List.{AllByRecursion}
use Rattle.play_save.specs.Rules.{ItemHolds}
use Rattle.play_save.specs.Breaking.{IsFitting}
use Rattle.play_save.proofs.fitting.items_fit.Given as goal

abbrev pub invariant-loop-item : goal.invariant-loop-item
invariant-loop-item l = AllByRecursion (ItemHolds (IsFitting l.scripts)) (take l.item-index l.items)
