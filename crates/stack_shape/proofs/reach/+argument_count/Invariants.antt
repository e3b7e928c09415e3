use Rattle.std.proofs.Common.{length}
use Rattle.stack_shape.proofs.reach.+argument_count.Given as goal

abbrev pub decreases-argument_count : goal.decreases-argument_count
decreases-argument_count l = length l.params.now
