use Rattle.std.proofs.Common.{take}
use Rattle.std.specs.List.{AllByRecursion, IsDistinct}
use Rattle.local_variables.specs.Variables.{same_variable}
use Rattle.state_parts.specs.World.{variables_of}
use Rattle.play_save.proofs.limits.have_distinct.Given as goal

abbrev pub invariant-loop-object : goal.invariant-loop-object
invariant-loop-object l = AllByRecursion (λ o. IsDistinct same_variable (variables_of o)) (take l.object-index l.objects)
