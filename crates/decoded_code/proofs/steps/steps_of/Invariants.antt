use Rattle.std.proofs.Common.{◌-◌}
use Rattle.ncs_code.specs.File.{file_length}
use Rattle.decoded_code.specs.Steps.{AreDecoded}
use Rattle.decoded_code.proofs.steps.steps_of.Given as goal

abbrev pub invariant-loop-at : goal.invariant-loop-at
invariant-loop-at l = AreDecoded l.code l.at l.steps.items

abbrev pub decreases-loop-at : goal.decreases-loop-at
decreases-loop-at l = file_length l.code - l.at
