use Rattle.std.proofs.Common.{length}
use Rattle.stack_shape.proofs.call.+put_arguments.Given as goal

-- the parameters that are left
abbrev pub decreases-put_arguments : goal.decreases-put_arguments
decreases-put_arguments l = length l.params.now
