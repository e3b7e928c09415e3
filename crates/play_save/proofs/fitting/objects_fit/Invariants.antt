use Rattle.std.proofs.Common.{take}
use Rattle.std.specs.List.{AllByRecursion}
use Rattle.play_save.specs.Rules.{ItemHolds}
use Rattle.play_save.specs.Breaking.{IsFitting}
use Rattle.play_save.proofs.fitting.objects_fit.Given as goal

abbrev pub invariant-loop-object : goal.invariant-loop-object
invariant-loop-object l = AllByRecursion (λ o. AllByRecursion (ItemHolds (IsFitting l.scripts)) o.items) (take l.object-index l.objects)
