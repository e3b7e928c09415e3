use Rattle.std.proofs.Common.{length}
use Rattle.stack_shape.proofs.call.+action_count.Given as goal

-- the parameters that are left
abbrev pub decreases-action_count : goal.decreases-action_count
decreases-action_count l = length l.params.now
